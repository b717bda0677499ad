use Rattle.mx_tables.proofs.CallLemmas.{steps_then, steps_to}
use Rattle.mx_tables.proofs.Common.{◌∙◌, Database}
use Rattle.std.proofs.Common.{ap}
use Rattle.mx_tables.proofs.ResultLemmas.{archives, drops_tray, finds_tray, select_tray_is}
use Rattle.mx_tables.proofs.results.archive_tray.Goals as goal

pub ask_inside-requires : goal.ask_inside-requires
ask_inside-requires g c = select_tray_is.query

pub returns : goal.returns
returns g c =
    steps_to g.S.Store (steps_then g.S.Store c.in_ok-rows.ensures (steps_then g.S.Store c.in_ok-archive_rows.ensures c.run.ensures)) (λ x all has.
    let seen = all.0 has in
    let moved = all.1.0 (ap (λ (d : Database). d.schema) seen.same ∙ has) in
    archives c.args.purse.now _ _ _ _ _ _ c.deref.ensures.value
    (record { same = seen.same; value = λ r holds. finds_tray c.args.purse.now _ _ _ (rw (c.text.ensures, c.as_str.ensures.text) at (seen.value r holds)) r holds }) moved
    (drops_tray c.args.purse.now _ _ all.1.1.0 moved.schema (rw (c.text-2.ensures, c.as_str-2.ensures.text) at all.1.1.2)))
