use Rattle.std.proofs.Common.{◌≡◌, Some, IfSome, refl, sym, subst}
use Rattle.mx_book.specs.Reads.{who_of}
use Rattle.mx_desk.proofs.KnowsLemmas.{remembered_is}
use Rattle.mx_desk.proofs.callers.Callers.find.Goals as goal

pub returns-in_err-known-clause-value : goal.returns-in_err-known-clause-value
returns-in_err-known-clause-value c = rw (c.from_residual.ensures, sym c.place_of.ensures, sym c.at.ensures, c.in_err-known.was) refl

pub returns-then-same_token-clause-value : goal.returns-then-same_token-clause-value
returns-then-same_token-clause-value c = rw (sym c.place_of.ensures, sym c.at.ensures, c.in_ok-known.was, sym c.same_token.ensures.value, c.if-same_token.true) refl

pub returns-then-same_token-clause-knows : goal.returns-then-same_token-clause-knows
returns-then-same_token-clause-knows c = λ w knows.
    subst (λ found. IfSome found (λ caller. who_of w c.args.token.now ≡ Some caller)) (sym (returns-then-same_token-clause-value c)) (remembered_is w c.args.self.now c.args.token.now knows)

pub returns-else-same_token-clause-value : goal.returns-else-same_token-clause-value
returns-else-same_token-clause-value c = rw (sym c.place_of.ensures, sym c.at.ensures, c.in_ok-known.was, sym c.same_token.ensures.value, c.if-same_token.false) refl
