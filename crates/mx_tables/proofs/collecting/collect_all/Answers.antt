use Rattle.mx_tables.proofs.Common.{◌<◌, ◌≤◌, rules, length}
use Rattle.mx_tables.proofs.CallLemmas.{finds_then, writes_as, writes_none, writes_then}
use Rattle.mx_tables.proofs.LoadLemmas.{all_so_far, none_so_far, one_row_so_far, finds_owned, select_owned_is}
use Rattle.mx_tables.proofs.collecting.collect_all.Goals as goal

pub ask_inside-requires : goal.ask_inside-requires
ask_inside-requires g c = select_owned_is.query

pub loop-row-init : goal.loop-row-init
loop-row-init g c = writes_as g.S.Store (writes_none g.S.Store _) (λ r holds. none_so_far c.args.member.now r)

pub loop-row-preserved : goal.loop-row-preserved
loop-row-preserved g c =
    let within : c.loop-row.row-index < length c.deref-row-items.result.now = search rules in
    writes_as g.S.Store (writes_then g.S.Store c.loop-row.invariant c.in_ok-collect_row.ensures) (λ r holds. one_row_so_far c.args.member.now c.deref-row-items.result.now c.loop-row.row-index c.row-item.result within c.row-item.is r)

pub returns : goal.returns
returns g c =
    let past : length c.deref-row-items.result.now ≤ c.loop-row.row-index = search rules in
    finds_then g.S.Store c.in_ok-rows.ensures c.loop-row.invariant (λ r holds shown. all_so_far c.args.member.now c.deref-row-items.result.now _ c.loop-row.row-index past c.deref-row-items.ensures.value r (finds_owned _ _ _ shown r holds))
