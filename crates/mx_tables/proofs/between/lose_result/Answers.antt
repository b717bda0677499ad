use Rattle.mx_tables.proofs.Common.{◌∙◌, arith, refl}
use Rattle.std.proofs.Common.{sym, ap, subst}
use Rattle.std.specs.FinMap as fmap
use Rattle.std.specs.Prelude.{IsSome}
use Rattle.mx_cells.proofs.TextLemmas.{same_words}
use Rattle.mx_tables.proofs.SoundLemmas.{purses_valid}
use Rattle.mx_pay.specs.Log.{has_logged}
use Rattle.mx_book.specs.RowEdits.{log_at}
use Rattle.mx_tables.proofs.CallLemmas.{asks_as, asks_fault, asks_more, asks_never, asks_next, asks_ok, asks_wrong, reads_to}
use Rattle.mx_tables.proofs.CountedSums.{logged_still, logged_no_more, result_is}
use Rattle.mx_tables.proofs.between.lose_result.Goals as goal

pub returns-then-is_logged-clause-asks : goal.returns-then-is_logged-clause-asks
returns-then-is_logged-clause-asks g c = asks_ok g.S.Store (reads_to g.S.Store c.in_ok-kept.ensures.reads (λ r holds is purses entries.
    let known = ap (λ o. has_logged (log_at o) c.in_ok-details.details) (sym (is purses)) ∙ sym c.is_logged.ensures in
    logged_still r c.in_ok-purse.purse c.in_ok-details.details (known ∙ c.if-is_logged.true)
    ∙ result_is r c.args.row.now c.in_ok-purse.purse c.in_ok-details.details c.in_ok-purse.ensures.is c.in_ok-details.ensures.shown c.in_ok-details.ensures.valid))

pub returns-else-is_logged-clause-asks : goal.returns-else-is_logged-clause-asks
returns-else-is_logged-clause-asks g c = asks_more g.S.Store (asks_next g.S.Store c.in_ok-kept.ensures.reads (c.lost_by.ensures.asks c.in_ok-kept.ensures.reads.live) (λ r holds it is. it.0)) (λ r holds n both purses entries.
    let known = ap (λ o. has_logged (log_at o) c.in_ok-details.details) (sym (both.0 purses)) ∙ sym c.is_logged.ensures in
    both.1 purses entries ∙ logged_no_more r c.in_ok-purse.purse c.in_ok-details.details (known ∙ c.if-is_logged.false)
    ∙ result_is r c.args.row.now c.in_ok-purse.purse c.in_ok-details.details c.in_ok-purse.ensures.is c.in_ok-details.ensures.shown c.in_ok-details.ensures.valid)

pub returns-in_err-purse-clause-asks : goal.returns-in_err-purse-clause-asks
returns-in_err-purse-clause-asks g c = asks_never g.S.Store c.from_residual.ensures.0 (λ r holds it. absurd (let ok = c.in_err-purse.ensures.there it.1.0.0.0 it.1.1.0 it.1.2.0 in cc))

pub returns-in_err-details-clause-asks : goal.returns-in_err-details-clause-asks
returns-in_err-details-clause-asks g c = asks_never g.S.Store c.from_residual-in_err-details.ensures.0 (λ r holds it. absurd (let ok = c.in_err-details.ensures.there it.1.0.0.1 it.1.1.1 it.1.2.1.0 in cc))

pub returns-in_err-kept-clause-asks : goal.returns-in_err-kept-clause-asks
returns-in_err-kept-clause-asks g c = asks_fault g.S.Store (asks_as g.S.Store c.in_err-kept.ensures (λ r holds it. it.0)) c.from_residual-in_err-kept.ensures.1

pub returns-then-is_none-clause-asks : goal.returns-then-is_none-clause-asks
returns-then-is_none-clause-asks g c = asks_wrong g.S.Store c.in_ok-kept.ensures.reads refl (λ r holds it is.
    let row = is (purses_valid r it.0.0 it.0.1) in
    let there = subst (λ p. IsSome (fmap.get r.purses p)) (same_words it.1.0.0.0 c.in_ok-purse.purse (sym it.1.2.0 ∙ c.in_ok-purse.ensures.is)) it.1.1.2 in
    absurd (let none = c.is_none.ensures in let ok = c.if-is_none.true in grind (arith, row, there, none, ok)))
