use Rattle.mx_tables.proofs.Common.{◌≡◌, ◌∙◌, refl, Some}
use Rattle.std.proofs.Common.{sym, ap}
use Rattle.std.specs.FinMap as fmap
use Rattle.mx_book.specs.declared.values.MemberTotals.{MemberTotals}
use Rattle.mx_tables.specs.declared.sums.Sums.{Sums}
use Rattle.mx_tables.proofs.CallLemmas.{asks_ok, asks_then, reads_to, reads_then}
use Rattle.mx_tables.proofs.ToldLemmas.{tell_member_totals, tells_fault}
use Rattle.mx_tables.proofs.sums.sum_member.Goals as goal

pub returns-in_err-row : goal.returns-in_err-row
returns-in_err-row g c = tells_fault g.S.Store c.in_err-row.ensures c.from_residual.ensures.1

pub returns-in_err-sums : goal.returns-in_err-sums
returns-in_err-sums g c = tells_fault g.S.Store (asks_then g.S.Store c.in_ok-row.ensures.reads c.in_err-sums.ensures) c.from_residual-in_err-sums.ensures.1

pub returns-in_default : goal.returns-in_default
returns-in_default g c = tell_member_totals g.S.Store _ (asks_ok g.S.Store (reads_to g.S.Store c.in_ok-row.ensures.reads (λ rows holds is purses entries. rw (sym is ∙ c.in_default.is) refl)))

pub returns : goal.returns
returns g c = tell_member_totals g.S.Store _ (asks_ok g.S.Store (reads_to g.S.Store (reads_then g.S.Store c.in_ok-row.ensures.reads c.in_ok-sums.ensures.reads) (λ rows holds both purses entries.
    let row : fmap.get rows.members c.args.member.now ≡ Some c.in-Some.row = sym both.0 ∙ c.in-Some.is in
    rw row (ap (λ (s : Sums). let it : MemberTotals = record { granted = c.in-Some.row.granted; float = c.in-Some.row.float; uncollected = s.uncollected; issued = s.issued; redeemed = s.redeemed; balances = s.balances } in Some it) (both.1 purses entries)))))
