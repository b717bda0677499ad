use Rattle.mx_tables.proofs.Common.{◌≡◌, ◌<◌, ◌≤◌, ◌∷◌, ◌++◌, [], ◌∙◌, length, rules}
use Rattle.std.proofs.Common.{ap, map}
use Rattle.std.proofs.lemmas.List.{take_all}
use Rattle.mx_tables.specs.Counted.{totals_row}
use Rattle.mx_tables.proofs.MapLists.{grown}
use Rattle.mx_tables.proofs.member_sums.totals_in_rows.Goals as goal

pub loop-row-preserved : goal.loop-row-preserved
loop-row-preserved c =
    let within : c.loop-row.row-index < length c.args.rows.now = search rules in
    let pushed : c.push.new.self.items ≡ c.loop-row.totals.items ++ c.in_ok-total.total ∷ [] = search rules in
    rw pushed (grown (totals_row c.args.sums.now) c.args.rows.now c.loop-row.row-index c.row-item.result within c.row-item.is c.loop-row.totals.items c.in_ok-total.total c.loop-row.invariant c.in_ok-total.ensures.is)

pub returns-clause-is : goal.returns-clause-is
returns-clause-is c =
    let past : length c.args.rows.now ≤ c.loop-row.row-index = search rules in
    c.loop-row.invariant ∙ ap (map (totals_row c.args.sums.now)) (take_all c.loop-row.row-index c.args.rows.now past)
