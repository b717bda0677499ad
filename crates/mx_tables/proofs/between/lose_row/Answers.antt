use Rattle.mx_tables.proofs.Common.{◌≡◌, ◌<◌, ℕ, Some, inl, inr, length, ◌∙◌, arith, rules}
use Rattle.std.specs.Prelude.{slice_get}
use Rattle.std.proofs.lemmas.Option.{slice_get_cases}
use Rattle.mx_pay.proofs.CodeLemmas.{len_logged}
use Rattle.mx_pay.specs.Details.{Details}
use Rattle.mx_pay.specs.Log.{logged}
use Rattle.mx_book.specs.RowTotals.{lost_by}
use Rattle.mx_book.proofs.LogLemmas.{sum_next, sum_all}
use Rattle.mx_tables.proofs.CountedSums.{log_is}
use Rattle.mx_tables.proofs.CallLemmas.{asks_fault, asks_never, asks_next, asks_ok, asks_wrong, reads_then, reads_to}
use Rattle.mx_tables.proofs.between.lose_row.Goals as goal

pub loop-place-preserved : goal.loop-place-preserved
loop-place-preserved g c = (
  c.loop-place.invariant.0,
  λ live.
      let was = c.loop-place.invariant.1 live in
      reads_to g.S.Store (reads_then g.S.Store was (c.in_ok-lost_by.ensures.asks was.live).reads) (λ r holds both purses entries.
      let f : Details → ℕ = lost_by r.purses r.archive r.settled c.in_ok-purse.purse in
      let at : slice_get (logged c.in_ok-log.log) c.loop-place.place ≡ Some c.in_ok-details.details = search rules in
      let before = both.0 purses entries in
      let more = both.1 purses entries in
      let next = sum_next f c.in_ok-log.log c.loop-place.place c.in_ok-details.details at in
      omega (arith, before, more, next, c.in_ok-sum.ensures.is)),
  (let small = c.in_ok-lost_by.ensures.small in let before = c.loop-place.invariant.2 in omega (arith, small, before, c.in_ok-sum.ensures.is)),
)

pub returns-in_err-lost_by-clause-asks : goal.returns-in_err-lost_by-clause-asks
returns-in_err-lost_by-clause-asks g c live =
    let was = c.loop-place.invariant.1 live in
    asks_fault g.S.Store (asks_next g.S.Store was (c.in_err-lost_by.ensures.asks was.live) (λ r holds it is. it.0)) c.from_residual-in_err-lost_by.ensures.1

pub returns-in_err-sum-clause-asks : goal.returns-in_err-sum-clause-asks
returns-in_err-sum-clause-asks g c live =
    let was = c.loop-place.invariant.1 live in
    asks_wrong g.S.Store (reads_then g.S.Store was (c.in_ok-lost_by.ensures.asks was.live).reads) c.from_residual-in_err-sum.ensures.0 (λ r holds it both.
    let small = c.in_ok-lost_by.ensures.small in
    let before = c.loop-place.invariant.2 in
    absurd (let ok = c.in_err-sum.ensures.fits (omega (arith, small, before, c.loop-place.invariant.0, c.loop-place-test.true, c.in_ok-log.ensures.valid.room)) in cc))

pub returns-clause-asks : goal.returns-clause-asks
returns-clause-asks g c live = asks_ok g.S.Store (reads_to g.S.Store (c.loop-place.invariant.1 live) (λ r holds is purses entries.
    is purses entries
    ∙ sum_all (lost_by r.purses r.archive r.settled c.in_ok-purse.purse) c.in_ok-log.log c.loop-place.place (let all = c.loop-place.invariant.0 in omega (arith, c.loop-place-test.false, all))
    ∙ log_is r c.args.row.now c.in_ok-purse.purse c.in_ok-log.log c.in_ok-purse.ensures.is c.in_ok-log.ensures.shown c.in_ok-log.ensures.valid))

pub returns-in_err-purse-clause-asks : goal.returns-in_err-purse-clause-asks
returns-in_err-purse-clause-asks g c live = asks_never g.S.Store c.from_residual.ensures.0 (λ r holds it. absurd (let ok = c.in_err-purse.ensures.there it.1.0.0 it.1.1.0 it.1.2.0 in cc))

pub returns-in_err-log-clause-asks : goal.returns-in_err-log-clause-asks
returns-in_err-log-clause-asks g c live = asks_never g.S.Store c.from_residual-in_err-log.ensures.0 (λ r holds it. absurd (let ok = c.in_err-log.ensures.there it.1.0.1.purse.log it.1.1.1 it.1.2.1.0 in cc))

pub returns-in_err-details-clause-asks : goal.returns-in_err-details-clause-asks
returns-in_err-details-clause-asks g c live = asks_wrong g.S.Store (c.loop-place.invariant.1 live) c.from_residual-in_err-details.ensures.0 (λ r holds it is.
    let within : c.loop-place.place < length (logged c.in_ok-log.log) = let size = len_logged c.in_ok-log.log in let all = c.loop-place.invariant.0 in omega (arith, c.loop-place-test.true, all, size) in
    elim (slice_get_cases (logged c.in_ok-log.log) c.loop-place.place).1 [
      | inl there ↦ absurd (let at = c.at.ensures.value in let none = c.ok_or.ensures.variant in let some = there.2 in grind (arith, at, none, some))
      | inr past ↦ omega (arith, past.0, within)
    ])
