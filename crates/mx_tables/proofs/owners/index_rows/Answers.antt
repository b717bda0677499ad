use Rattle.mx_tables.proofs.Common.{◌<◌, ◌≤◌, length, rules}
use Rattle.std.proofs.Common.{subst}
use Rattle.std.proofs.lemmas.List.{take_all}
use Rattle.mx_tables.specs.Cached.{index_of}
use Rattle.mx_tables.proofs.OwnerLemmas.{Lists, lists_next, lists_none}
use Rattle.mx_tables.proofs.owners.index_rows.Goals as goal

pub loop-row-init : goal.loop-row-init
loop-row-init c = lists_none _ c.new-held.ensures

pub loop-row-preserved : goal.loop-row-preserved
loop-row-preserved c =
    let within : c.loop-row.row-index < length c.args.rows.now = search rules in
    rw (c.put.ensures.map, c.reserve.ensures.map) (lists_next c.args.rows.now _ c.loop-row.row-index c.row-item.result _ _ within c.row-item.is c.in_ok-name_at-2.ensures.is c.in_ok-name_at.ensures.is c.loop-row.invariant)

pub returns-clause-is : goal.returns-clause-is
returns-clause-is c =
    let past : length c.args.rows.now ≤ c.loop-row.row-index = search rules in
    subst (λ rows. Lists rows (index_of c.loop-row.held)) (take_all c.loop-row.row-index c.args.rows.now past) c.loop-row.invariant
