use Rattle.std.proofs.Common.{◌∙◌, sym, ap}
use Rattle.std.specs.FinMap.{entries-from_sorted}
use Rattle.mx_sorted.specs.Blocks.{rows_in}
use Rattle.mx_sorted.proofs.BlockLemmas.{rows_fit}
use Rattle.mx_sorted.proofs.table.Table.rows.Goals as goal

pub all-requires : goal.all-requires
all-requires g c = record { few = rw c.deref.ensures.value (rows_fit c.self.inside.blocks c.self.inside.spare c.self.invariant.sound) }

pub returns : goal.returns
returns g c = rw (← c.self.view_is) (c.all.ensures ∙ ap rows_in c.deref.ensures.value ∙ sym (entries-from_sorted g.K.Ord.cmp (rows_in c.self.inside.blocks.items) c.self.invariant.sorted))
