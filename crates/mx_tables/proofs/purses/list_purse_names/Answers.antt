use Rattle.mx_tables.proofs.Common.{IfOk-weaker, ◌∙◌}
use Rattle.mx_tables.proofs.AcceptLemmas.{purses_accepted}
use Rattle.mx_tables.proofs.CallLemmas.{asks_as, asks_by}
use Rattle.mx_tables.proofs.Texts.{select_purses_is}
use Rattle.mx_tables.proofs.MemberLemmas.{names_read}
use Rattle.mx_tables.proofs.PurseLemmas.{lists_purses}
use Rattle.mx_tables.proofs.ShownLemmas.{purses_shown}
use Rattle.mx_tables.proofs.ToldLemmas.{tell_purses, tells_fault}
use Rattle.mx_tables.proofs.purses.list_purse_names.Goals as goal

pub ask-requires : goal.ask-requires
ask-requires g c = select_purses_is.query

pub returns : goal.returns
returns g c = tell_purses g.S.Store (asks_by g.S.Store c.in_ok-rows.ensures.asks.reads (λ rows holds shown.
    let found = lists_purses _ _ _ shown rows holds in
    IfOk-weaker c.names_in.result _ _ (λ names read. names_read c.deref.result.now names.items _ read (c.deref.ensures.value ∙ found)) c.names_in.ensures.is)
    (λ rows holds it shown. c.names_in.ensures.there (purses_shown rows it.0 it.1 _ (c.deref.ensures.value ∙ lists_purses _ _ _ shown rows holds))))

pub returns-in_err-rows : goal.returns-in_err-rows
returns-in_err-rows g c = tells_fault g.S.Store (asks_as g.S.Store c.in_err-rows.ensures.asks (λ r holds it. purses_accepted _)) c.from_residual.ensures.1
