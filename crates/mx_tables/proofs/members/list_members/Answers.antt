use Rattle.mx_tables.proofs.Common.{IfOk-weaker, ◌∙◌}
use Rattle.mx_tables.proofs.AcceptLemmas.{members_accepted}
use Rattle.mx_tables.proofs.CallLemmas.{asks_as, asks_by}
use Rattle.mx_tables.proofs.Texts.{select_members_is}
use Rattle.mx_tables.proofs.MemberLemmas.{lists_members, names_read}
use Rattle.mx_tables.proofs.ShownLemmas.{members_shown}
use Rattle.mx_tables.proofs.ToldLemmas.{tell_members, tells_fault}
use Rattle.mx_tables.proofs.members.list_members.Goals as goal

pub ask-requires : goal.ask-requires
ask-requires g c = select_members_is.query

pub returns : goal.returns
returns g c = tell_members g.S.Store (asks_by g.S.Store c.in_ok-rows.ensures.asks.reads (λ rows holds shown.
    let found = lists_members _ _ _ shown rows holds in
    IfOk-weaker c.names_in.result _ _ (λ names read. names_read c.deref.result.now names.items _ read (c.deref.ensures.value ∙ found)) c.names_in.ensures.is)
    (λ rows holds it shown. c.names_in.ensures.there (members_shown rows it.0 it.1 _ (c.deref.ensures.value ∙ lists_members _ _ _ shown rows holds))))

pub returns-in_err-rows : goal.returns-in_err-rows
returns-in_err-rows g c = tells_fault g.S.Store (asks_as g.S.Store c.in_err-rows.ensures.asks (λ r holds it. members_accepted _)) c.from_residual.ensures.1
