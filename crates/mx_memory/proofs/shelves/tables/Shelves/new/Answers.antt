use Rattle.mx_memory.proofs.DueLemmas.{tied_as, tied_new}
use Rattle.mx_memory.proofs.shelves.tables.Shelves.new.Goals as goal

pub invariant_of-result : goal.invariant_of-result
invariant_of-result c = record { tied = tied_as c.new-4.ensures c.new-3.ensures c.new-11.ensures c.new-12.ensures tied_new }
