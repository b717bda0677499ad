use Rattle.std.proofs.Common.{inl, inr, refl, ap, ◌∙◌, [], Err}
use Rattle.std.proofs.lemmas.Result.{err_from_is_err_and}
use Rattle.mx_desk.proofs.MoveLemmas.{moves_not}
use Rattle.mx_tasks.proofs.runs.run_office.Goals as goal

-- there is no memory for the routes
pub returns-in_err-routes-clause-runs : goal.returns-in_err-routes-clause-runs
returns-in_err-routes-clause-runs g c = λ w low was.
    let p = err_from_is_err_and c.from_residual.result c.from_residual.ensures.1 in
    record { end = w; rounds = []; holds = inl (inl (p.1 ∙ ap Err p.2), refl, refl); moves = moves_not was }

-- the desk's fault, passed on
pub returns-in_err-count-clause-runs : goal.returns-in_err-count-clause-runs
returns-in_err-count-clause-runs g c = λ w low was.
    let p = err_from_is_err_and c.from_residual-in_err-count.result c.from_residual-in_err-count.ensures.1 in
    let led = c.in_err-count.ensures.runs w low was in
    rw (p.1, p.2) (record { end = led.end; rounds = led.rounds; holds = inr (_, refl, led.holds); moves = led.moves })

pub returns-clause-runs : goal.returns-clause-runs
returns-clause-runs g c = λ w low was.
    let led = c.in_ok-count.ensures.runs w low was in
    record { end = led.end; rounds = led.rounds; holds = inr (_, refl, led.holds); moves = led.moves }
