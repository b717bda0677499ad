use Rattle.std.proofs.Common.{Err, sym, ap, ◌∙◌}
use Rattle.std.proofs.lemmas.Result.{err_from_is_err_and}
use Rattle.mx_wire.proofs.BodyLemmas.{bare_says, bodiless, body_says, says_nothing, same_fault}
use Rattle.mx_wire.proofs.bodies.read_body_into.Goals as goal

pub returns-in-Some-clause-ok : goal.returns-in-Some-clause-ok
returns-in-Some-clause-ok c = bare_says _ _ _ (sym c.in-Some.ensures)

pub returns-in_err-value-clause-bad : goal.returns-in_err-value-clause-bad
returns-in_err-value-clause-bad c = λ e.
    let p = err_from_is_err_and c.from_residual.result c.from_residual.ensures.1 in
    says_nothing _ _ (bodiless _ c.if-not-has_body.ensures) (c.in_err-value.ensures.bad (ap Err (sym p.2 ∙ same_fault _ _ _ p.1 e)))

pub returns-in-Some-said-clause-ok : goal.returns-in-Some-said-clause-ok
returns-in-Some-said-clause-ok c = body_says _ _ _ (bodiless _ c.if-not-has_body.ensures) c.in_ok-value.ensures.ok ∙ sym c.in-Some-said.ensures

pub returns-clause-bad : goal.returns-clause-bad
returns-clause-bad c = λ _. body_says _ _ _ (bodiless _ c.if-not-has_body.ensures) c.in_ok-value.ensures.ok ∙ sym c.in-None-said.ensures
