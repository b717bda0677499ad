use Rattle.std.proofs.Common.{◌∙◌, sym, ap}
use Rattle.std.specs.FinMap.{entries-from_sorted}
use Rattle.mx_sorted.specs.Blocks.{rows_in, rows_from}
use Rattle.mx_sorted.proofs.BlockLemmas.{rows_fit}
use Rattle.mx_sorted.proofs.table.Table.rows_from.Goals as goal

pub from-requires-clause-few : goal.from-requires-clause-few
from-requires-clause-few g c = rw c.deref.ensures.value (rows_fit c.self.inside.blocks c.self.inside.spare c.self.invariant.sound)

pub returns : goal.returns
returns g c =
    rw (← c.self.view_is) (c.from.ensures ∙ ap (λ bs. rows_from g.K.Ord.cmp c.args.key (rows_in bs)) c.deref.ensures.value
    ∙ ap (rows_from g.K.Ord.cmp c.args.key) (sym (entries-from_sorted g.K.Ord.cmp (rows_in c.self.inside.blocks.items) c.self.invariant.sorted)))
