use Rattle.mx_tables.proofs.Common.{◌∙◌, ◌≤◌, ◌+◌, arith, name_cmp, refl}
use Rattle.std.proofs.Common.{sym, subst}
use Rattle.std.specs.FinMap as fmap
use Rattle.std.specs.Prelude.{IsSome}
use Rattle.std.proofs.lemmas.Result.{on_ok_weaker}
use Rattle.mx_sorted.specs.Slots.{map_of}
use Rattle.mx_book.specs.RowEdits.{member_at}
use Rattle.mx_cells.proofs.TextLemmas.{same_words}
use Rattle.mx_tables.specs.Counted.{sum_at}
use Rattle.mx_tables.proofs.CallLemmas.{asks_as, asks_by, asks_fault, asks_never, asks_wrong}
use Rattle.mx_tables.proofs.CountedSums.{adds_to_one, most_added, most_low}
use Rattle.mx_tables.proofs.member_sums.add_row.Goals as goal

pub returns-clause-asks : goal.returns-clause-asks
returns-clause-asks g c = asks_by g.S.Store c.in_ok-owner.ensures.reads (λ rows holds is. on_ok_weaker c.add_to.result
    (λ put m. adds_to_one rows c.args.row.now c.in_ok-purse.purse c.in-Some.owner m c.in_ok-number.number (map_of name_cmp c.args.sums.now) (map_of name_cmp c.add_to.new.sums) c.in_ok-purse.ensures.is c.in_ok-number.ensures.shown
    (sym c.in-Some.is ∙ is) put)
    c.add_to.ensures.is)
    (λ rows holds it is. c.add_to.ensures.fits (omega (arith, it.1 c.in-Some.owner, c.in_ok-number.ensures.valid, most_low c.args.amounts)))

pub returns-clause-small : goal.returns-clause-small
returns-clause-small g c most before = on_ok_weaker c.add_to.result (λ put m.
    let low = most_low c.args.amounts in
    let it = most_added (map_of name_cmp c.args.sums.now) c.in-Some.owner m c.in_ok-number.number most (before m) in
    let made = subst (λ sums. sum_at sums m ≤ most + c.in_ok-number.number) (sym put) it in
    omega (arith, made, low, c.in_ok-number.ensures.valid))
    c.add_to.ensures.is

pub returns-in_err-purse-clause-asks : goal.returns-in_err-purse-clause-asks
returns-in_err-purse-clause-asks g c = asks_never g.S.Store c.from_residual.ensures.0 (λ r holds it. absurd (let ok = c.in_err-purse.ensures.there it.0.1.0.0 it.0.1.1.0 it.0.1.2.0 in cc))

pub returns-in_err-number-clause-asks : goal.returns-in_err-number-clause-asks
returns-in_err-number-clause-asks g c = asks_never g.S.Store c.from_residual-in_err-number.ensures.0 (λ r holds it. absurd (let ok = c.in_err-number.ensures.there it.0.1.0.1 it.0.1.1.1 it.0.1.2.1.0 in cc))

pub returns-in_err-owner-clause-asks : goal.returns-in_err-owner-clause-asks
returns-in_err-owner-clause-asks g c = asks_fault g.S.Store (asks_as g.S.Store c.in_err-owner.ensures (λ r holds it. it.0.0)) c.from_residual-in_err-owner.ensures.1

pub returns-in_default-clause-asks : goal.returns-in_default-clause-asks
returns-in_default-clause-asks g c = asks_wrong g.S.Store c.in_ok-owner.ensures.reads refl (λ r holds it is.
    let there = subst (λ p. IsSome (member_at r.holders (fmap.get r.purses p))) (same_words it.0.1.0.0 c.in_ok-purse.purse (sym it.0.1.2.0 ∙ c.in_ok-purse.ensures.is)) it.0.1.1.2 in
    absurd (let none = sym is ∙ c.in_default.is in grind (arith, there, none)))
