use Rattle.mx_tables.proofs.Common.{◌∙◌, IfOk-weaker}
use Rattle.mx_tables.proofs.AddedLemmas.{member_rows_accepted, member_rows_shown}
use Rattle.mx_tables.proofs.CallLemmas.{asks_as, asks_by, asks_then, reads_then}
use Rattle.mx_tables.proofs.CountedSums.{select_member_rows_is, lists_member_rows, members_summed}
use Rattle.mx_tables.proofs.ToldLemmas.{tell_members_totals, tells_fault}
use Rattle.mx_tables.proofs.member_sums.sum_members.Goals as goal

pub ask-requires : goal.ask-requires
ask-requires g c = select_member_rows_is.query

pub returns-in_err-rows : goal.returns-in_err-rows
returns-in_err-rows g c = tells_fault g.S.Store (asks_as g.S.Store c.in_err-rows.ensures.asks (λ r holds it. member_rows_accepted _)) c.from_residual.ensures.1

pub returns-in_err-add_all : goal.returns-in_err-add_all
returns-in_err-add_all g c = tells_fault g.S.Store (asks_then g.S.Store c.in_ok-rows.ensures.asks.reads c.in_err-add_all.ensures) c.from_residual-in_err-add_all.ensures.1

pub returns : goal.returns
returns g c =
    tell_members_totals g.S.Store (asks_by g.S.Store (reads_then g.S.Store c.in_ok-rows.ensures.asks.reads c.in_ok-add_all.ensures.reads) (λ r holds all.
    let listed = lists_member_rows _ _ _ all.0 r holds in
    IfOk-weaker c.totals_in_rows.result _ _ (λ totals is. is ∙ members_summed r c.add_all.new.sums c.deref.result.now c.in_ok-rows.rows.items c.deref.ensures.value listed all.1) c.totals_in_rows.ensures.is)
    (λ r holds it all. c.totals_in_rows.ensures.there (member_rows_shown r it.0 it.1 _ (c.deref.ensures.value ∙ lists_member_rows _ _ _ all.0 r holds))))
