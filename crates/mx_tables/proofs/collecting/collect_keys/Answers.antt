use Rattle.mx_tables.proofs.Common.{◌<◌, ◌≤◌, length, rules}
use Rattle.std.proofs.Common.{ap}
use Rattle.std.proofs.lemmas.List.{take_all}
use Rattle.mx_tables.proofs.CallLemmas.{writes_as, writes_none, writes_then}
use Rattle.mx_tables.proofs.LoadLemmas.{collects_among, none_among, one_among}
use Rattle.mx_tables.proofs.collecting.collect_keys.Goals as goal

pub loop-key-init : goal.loop-key-init
loop-key-init g c = writes_as g.S.Store (writes_none g.S.Store _) (λ r holds. none_among r)

pub loop-key-preserved : goal.loop-key-preserved
loop-key-preserved g c =
    let within : c.loop-key.key-index < length c.args.keys.now = search rules in
    writes_as g.S.Store (writes_then g.S.Store c.loop-key.invariant c.in_ok-collect_key.ensures) (λ r holds. one_among c.args.keys.now c.loop-key.key-index c.key-item.result within c.key-item.is r)

pub returns : goal.returns
returns g c =
    let past : length c.args.keys.now ≤ c.loop-key.key-index = search rules in
    writes_as g.S.Store c.loop-key.invariant (λ r holds. ap (λ keys. collects_among keys r) (take_all c.loop-key.key-index c.args.keys.now past))
