use Rattle.mx_tables.proofs.Common.{◌<◌, ◌≤◌, length, rules, List, state, Row}
use Rattle.std.proofs.Common.{subst}
use Rattle.std.proofs.lemmas.List.{take_all}
use Rattle.mx_tables.specs.Results.{Archives}
use Rattle.mx_tables.proofs.CallLemmas.{steps_none, steps_then, steps_to}
use Rattle.mx_tables.proofs.ResultLemmas.{archives_none, archives_more, archives_one}
use Rattle.mx_tables.proofs.results.archive_rows.Goals as goal

pub loop-row-init : goal.loop-row-init
loop-row-init g c = steps_none g.S.Store _ tt (λ has. archives_none c.args.purse.now _ has)

pub loop-row-preserved : goal.loop-row-preserved
loop-row-preserved g c =
    let within : c.loop-row.row-index < length c.args.rows.now = search rules in
    steps_to g.S.Store (steps_then g.S.Store c.loop-row.invariant c.in_ok-run.ensures) (λ x both has.
    let before = both.0 has in
    archives_more c.args.purse.now c.args.rows.now c.loop-row.row-index c.row-item.result c.in-Some.text.now _ _ _ within c.row-item.is (search rules) before
    (archives_one c.args.purse.now c.in-Some.text.now _ _ both.1.0 before.schema (rw (c.text.ensures, c.as_str.ensures.text, c.text-in-loop-row.ensures) at both.1.2)))

pub returns : goal.returns
returns g c =
    let past : length c.args.rows.now ≤ c.loop-row.row-index = search rules in
    steps_to g.S.Store c.loop-row.invariant (λ x before has.
    subst (λ (rows : List Row). Archives c.args.purse.now rows (state g.S.Store c.args.tx.now.conn.now) (state g.S.Store c.loop-row.tx.conn.now)) (take_all c.loop-row.row-index c.args.rows.now past) (before has))
