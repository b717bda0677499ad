use Rattle.mx_tables.proofs.Common.{◌<◌, ◌≤◌, length, rules}
use Rattle.std.proofs.Common.{subst}
use Rattle.std.proofs.lemmas.List.{take_all}
use Rattle.mx_tables.specs.Cached.{due_of}
use Rattle.mx_tables.proofs.CollectLemmas.{IsWithout, without_more, without_none}
use Rattle.mx_tables.proofs.due.drop_keys.Goals as goal

pub loop-key-init : goal.loop-key-init
loop-key-init c = without_none _ c.args.member

pub loop-key-preserved : goal.loop-key-preserved
loop-key-preserved c =
    let within : c.loop-key.key-index < length c.args.keys.now = search rules in
    without_more _ _ _ c.args.member c.args.keys.now c.loop-key.key-index c.key-item.result within c.key-item.is c.remove.ensures.map c.loop-key.invariant

pub returns : goal.returns
returns c =
    let past : length c.args.keys.now ≤ c.loop-key.key-index = search rules in
    subst (IsWithout (due_of c.args.due.now) (due_of c.loop-key.due) c.args.member) (take_all c.loop-key.key-index c.args.keys.now past) c.loop-key.invariant
