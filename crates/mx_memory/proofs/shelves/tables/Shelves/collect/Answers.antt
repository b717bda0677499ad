use Rattle.std.proofs.Common.{None}
use Rattle.mx_memory.specs.Due.{due_cmp}
use Rattle.mx_memory.specs.Shelves.{rows_of}
use Rattle.mx_sorted.specs.Slots.{map_of}
use Rattle.mx_memory.proofs.DueLemmas.{tied_collected, collected_is}
use Rattle.mx_memory.proofs.shelves.tables.Shelves.collect.Goals as goal

pub collect-requires-clause-keys : goal.collect-requires-clause-keys
collect-requires-clause-keys c = c.args.self.now.tied.under c.args.member None

pub invariant_of-self : goal.invariant_of-self
invariant_of-self c = record { tied = tied_collected _ _ _ _ c.args.self.now.tied c.args.member _ _ c.collect.ensures.made c.collect.ensures.gone }

pub returns-clause-edited : goal.returns-clause-edited
returns-clause-edited c =
    let made = collected_is _ _ _ _ c.args.self.now.tied c.args.member _ (map_of due_cmp c.collect.new.due) c.collect.ensures.made c.collect.ensures.gone in
    λ i. record (rows_of c.args.self.now) { redemptions = made i }
