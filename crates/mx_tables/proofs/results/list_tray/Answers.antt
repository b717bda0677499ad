use Rattle.mx_tables.proofs.Common.{IfOk-weaker}
use Rattle.mx_tables.proofs.AcceptLemmas.{tray_accepted}
use Rattle.mx_tables.proofs.CallLemmas.{asks_as, asks_by}
use Rattle.mx_tables.proofs.CauseLemmas.{no_fault}
use Rattle.mx_tables.proofs.ResultLemmas.{finds_tray, select_tray_is, tray_read}
use Rattle.mx_tables.proofs.ToldLemmas.{tell_tray, tells_fault}
use Rattle.mx_tables.proofs.TrayLemmas.{tray_once}
use Rattle.mx_tables.proofs.results.list_tray.Goals as goal

pub ask-requires : goal.ask-requires
ask-requires g c = select_tray_is.query

pub returns : goal.returns
returns g c = tell_tray g.S.Store _ (asks_by g.S.Store c.in_ok-rows.ensures.asks.reads (λ r holds shown.
    let found = finds_tray c.args.purse.now _ _ _ (rw (c.text.ensures, c.as_str.ensures.text) at shown) r holds in
    IfOk-weaker c.log_in.result _ _ (λ log shows each. tray_read c.args.purse.now r each c.deref.result.now _ log shows c.deref.ensures.value found) c.log_in.ensures.is)
    (λ r holds it shown.
    let found = finds_tray c.args.purse.now _ _ _ (rw (c.text.ensures, c.as_str.ensures.text) at shown) r holds in
    no_fault c.log_in.result _ (c.log_in.ensures.there _ (tray_once r it.0 it.1 c.args.purse.now c.deref.result.now _ c.deref.ensures.value found))))

pub returns-in_err-rows : goal.returns-in_err-rows
returns-in_err-rows g c = tells_fault g.S.Store (asks_as g.S.Store c.in_err-rows.ensures.asks (λ r holds it. rw (c.text.ensures, c.as_str.ensures.text) (tray_accepted _ _))) c.from_residual.ensures.1
