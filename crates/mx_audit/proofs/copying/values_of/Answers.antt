use Rattle.std.proofs.Common.{◌∙◌, ap, map, rules}
use Rattle.std.proofs.lemmas.List.{take_all}
use Rattle.sqlite.specs.Values.{bound, bound_value}
use Rattle.mx_audit.proofs.CopyLemmas.{bound_more}
use Rattle.mx_audit.proofs.copying.values_of.Goals as goal

pub loop-at-preserved : goal.loop-at-preserved
loop-at-preserved c =
    let it = c.in-Ok.ensures.ok in
    ap bound c.in_ok-push-in-Ok.ensures.items ∙ bound_more c.args.row.now c.loop-at.at c.in-Ok.value c.loop-at.values.items it.0 it.1 c.loop-at.invariant

pub returns : goal.returns
returns c = c.loop-at.invariant ∙ ap (map bound_value) (take_all c.loop-at.at c.args.row.now (search rules))
