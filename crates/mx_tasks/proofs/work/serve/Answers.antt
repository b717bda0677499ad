use Rattle.std.proofs.Common.{ap, refl, ◌∙◌}
use Rattle.std.proofs.lemmas.Result.{err_from_is_err_and}
use Rattle.mx_tasks.specs.Works.{served_text}
use Rattle.mx_tasks.proofs.ServeLemmas.{served_all, served_not, unserved}
use Rattle.mx_tasks.proofs.work.serve.Goals as goal

-- the port can't be listened on
pub returns-in_default-clause-serves : goal.returns-in_default-clause-serves
returns-in_default-clause-serves g c = λ w low was. unserved _ was

-- that it listens can't be said
pub returns-in_err-say_listening-clause-serves : goal.returns-in_err-say_listening-clause-serves
returns-in_err-say_listening-clause-serves g c = λ w low was.
    let p = err_from_is_err_and c.from_residual.result c.from_residual.ensures.1 in
    rw p.1 (unserved p.0 was)

pub returns-in_err-served-clause-serves : goal.returns-in_err-served-clause-serves
returns-in_err-served-clause-serves g c = λ w low was.
    let p = err_from_is_err_and c.from_residual-in_err-served.result c.from_residual-in_err-served.ensures.1 in
    rw p.1 (served_not _ p.0 (c.serve_port.ensures.serves w low was))

-- there is no memory for the line
pub returns-in_err-served_text-clause-serves : goal.returns-in_err-served_text-clause-serves
returns-in_err-served_text-clause-serves g c = λ w low was.
    let p = err_from_is_err_and c.from_residual-in_err-served_text.result c.from_residual-in_err-served_text.ensures.1 in
    rw p.1 (served_not _ p.0 (c.serve_port.ensures.serves w low was))

pub returns-clause-serves : goal.returns-clause-serves
returns-clause-serves g c = λ w low was.
    let line = c.in_ok-served_text.ensures ∙ ap served_text c.in_ok-served.ensures.all in
    let led = c.serve_port.ensures.serves w low was in
    served_all c.serve_port.result c.said.result (rw c.in_ok-served.was refl) (c.said.ensures.0 ∙ ap (λ v. v.items) c.into_bytes.ensures.value ∙ line, c.said.ensures.1) led
