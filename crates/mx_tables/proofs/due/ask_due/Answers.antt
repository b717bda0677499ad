use Rattle.mx_tables.proofs.Common.{◌∙◌, IfOk-weaker}
use Rattle.std.proofs.Common.{ap}
use Rattle.mx_tables.specs.Counted.{is_among}
use Rattle.mx_tables.proofs.CallLemmas.{asks_as, asks_by, asks_fault}
use Rattle.mx_tables.proofs.CollectLemmas.{due_accepted, due_asked, due_shown, select_due_is}
use Rattle.mx_tables.proofs.due.ask_due.Goals as goal

pub ask-requires : goal.ask-requires
ask-requires g c = select_due_is.query

pub returns-in_err-rows : goal.returns-in_err-rows
returns-in_err-rows g c = asks_fault g.S.Store (asks_as g.S.Store c.in_err-rows.ensures.asks (λ r holds it. due_accepted _)) c.from_residual.ensures.1

pub returns : goal.returns
returns g c = asks_by g.S.Store c.in_ok-rows.ensures.asks.reads
    (λ r holds shown. IfOk-weaker c.read_keys.result _ _ (λ keys is key. ap (λ ks. is_among ks key) is ∙ due_asked _ _ _ (rw (← c.deref.ensures.value) at shown) r holds key) c.read_keys.ensures.is)
    (λ r holds it shown. c.read_keys.ensures.there (due_shown _ _ _ (rw (← c.deref.ensures.value) at shown) r holds it.0 it.1))
