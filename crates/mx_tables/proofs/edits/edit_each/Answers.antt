use Rattle.mx_tables.proofs.Common.{◌<◌, ◌≤◌, fold, length, rules, arith, rewritten}
use Rattle.std.proofs.Common.{ap}
use Rattle.std.proofs.lemmas.List.{take_all}
use Rattle.std.proofs.lemmas.Grind.{common_steps}
use Rattle.mx_tables.proofs.ThroughLemmas.{edits_none, edits_same, edits_then}
use Rattle.mx_tables.proofs.edits.edit_each.Goals as goal

pub loop-edit-init : goal.loop-edit-init
loop-edit-init g c = edits_none g.S.Store _ _

pub loop-edit-preserved : goal.loop-edit-preserved
loop-edit-preserved g c =
    let within : c.loop-edit.edit-index < length c.args.edits.now = search rules in
    edits_then g.S.Store c.loop-edit.invariant c.in_ok-edit_next.ensures (λ r fit. fit c.loop-edit.edit-index c.edit-item.result within c.edit-item.is) (λ r. grind (arith, common_steps))

pub returns : goal.returns
returns g c =
    let past : length c.args.edits.now ≤ c.loop-edit.edit-index = search rules in
    edits_same g.S.Store c.loop-edit.invariant (λ r. ap (fold rewritten r) (take_all c.loop-edit.edit-index c.args.edits.now past))
