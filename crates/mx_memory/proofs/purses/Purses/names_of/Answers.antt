use Rattle.mx_pay.specs.Names.{name_cmp}
use Rattle.mx_book.specs.Index.{index_cmp}
use Rattle.mx_memory.specs.Logs.{all_joined}
use Rattle.mx_sorted.specs.Slots.{map_of}
use Rattle.mx_book.proofs.HeldLemmas.{held_names}
use Rattle.mx_memory.proofs.purses.Purses.names_of.Goals as goal

pub returns : goal.returns
returns c =
    let purses = all_joined (map_of name_cmp c.self.inside.rows) (map_of name_cmp c.self.inside.logs) in
    rw (← c.self.view_is, ← held_names purses (map_of (index_cmp name_cmp) c.self.inside.held) c.self.invariant.held c.args.holder) c.names_held.ensures
