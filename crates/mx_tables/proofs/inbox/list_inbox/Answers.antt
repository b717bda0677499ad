use Rattle.mx_tables.proofs.Common.{IfOk-weaker, ◌∙◌}
use Rattle.mx_tables.proofs.AcceptLemmas.{inbox_accepted}
use Rattle.mx_tables.proofs.CallLemmas.{asks_as, asks_by}
use Rattle.mx_tables.proofs.Texts.{select_inbox_is}
use Rattle.mx_tables.proofs.InboxLemmas.{finds_inbox, inbox_read, both_hold}
use Rattle.mx_tables.proofs.ShownLemmas.{inbox_shown}
use Rattle.mx_tables.proofs.ToldLemmas.{tell_inbox, tells_fault}
use Rattle.mx_tables.proofs.inbox.list_inbox.Goals as goal

pub ask-requires : goal.ask-requires
ask-requires g c = select_inbox_is.query

pub returns : goal.returns
returns g c = tell_inbox g.S.Store _ (asks_by g.S.Store c.in_ok-rows.ensures.asks.reads (λ rows holds shown.
    let found = finds_inbox c.args.purse.now _ _ _ (rw (c.text.ensures, c.as_str.ensures.text) at shown) rows holds in
    IfOk-weaker c.messages_in.result _ _ (λ ms both valid. inbox_read c.args.purse.now rows valid c.deref.result.now ms.items both.0 both.1 (c.deref.ensures.value ∙ found))
    (both_hold c.messages_in.result _ _ c.messages_in.ensures.shown c.messages_in.ensures.valid))
    (λ rows holds it shown. c.messages_in.ensures.there (inbox_shown rows it.0 it.1 c.args.purse.now _
    (c.deref.ensures.value ∙ finds_inbox c.args.purse.now _ _ _ (rw (c.text.ensures, c.as_str.ensures.text) at shown) rows holds))))

pub returns-in_err-rows : goal.returns-in_err-rows
returns-in_err-rows g c = tells_fault g.S.Store (asks_as g.S.Store c.in_err-rows.ensures.asks (λ r holds it. rw (c.text.ensures, c.as_str.ensures.text) (inbox_accepted _ _))) c.from_residual.ensures.1
