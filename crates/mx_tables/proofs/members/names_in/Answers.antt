use Rattle.mx_tables.proofs.Common.{◌≡◌, ◌<◌, ◌≤◌, ◌∷◌, ◌++◌, [], ◌∙◌, length, rules, column, Text}
use Rattle.std.proofs.Common.{ap, map, sym}
use Rattle.std.proofs.lemmas.List.{take_all}
use Rattle.mx_tables.proofs.MapLists.{grown_alike}
use Rattle.mx_tables.proofs.members.names_in.Goals as goal

pub loop-row-preserved : goal.loop-row-preserved
loop-row-preserved c =
    let within : c.loop-row.row-index < length c.args.rows.now = search rules in
    let pushed : c.push.new.self.items ≡ c.loop-row.names.items ++ c.in_ok-name.name ∷ [] = search rules in
    rw pushed (grown_alike (λ r. column r 0) c.args.rows.now c.loop-row.row-index c.row-item.result within c.row-item.is Text c.loop-row.names.items c.in_ok-name.name c.loop-row.invariant c.in_ok-name.ensures.is)

pub returns-clause-is : goal.returns-clause-is
returns-clause-is c =
    let past : length c.args.rows.now ≤ c.loop-row.row-index = search rules in
    sym (ap (map (λ r. column r 0)) (take_all c.loop-row.row-index c.args.rows.now past)) ∙ c.loop-row.invariant
