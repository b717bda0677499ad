use Rattle.std.proofs.Common.{rules, sym, ◌∙◌}
use Rattle.mx_office.proofs.CallLemmas.{keeps_then, so_far, so_more, tells_so, tells_fault, tells_fault_then}
use Rattle.mx_office.proofs.CommandLemmas.{foreign_decides, nothing_handled_decides, handle_decides}
use Rattle.mx_office.proofs.purses.handle.Goals as goal

pub returns-in_err-own : goal.returns-in_err-own
returns-in_err-own g c = tells_fault c.in_err-own.ensures c.from_residual.ensures.1

pub returns-in_default : goal.returns-in_default
returns-in_default g c =
    let after = so_far c.in_ok-own.ensures in
    tells_so (g.met.B.Book.lawful _) after (λ w world known. foreign_decides w _ _ _ _ world (sym known ∙ c.in_default.is) c.refuse.ensures.reply c.refuse.ensures.edits)

pub returns-in_err-message : goal.returns-in_err-message
returns-in_err-message g c =
    tells_fault_then c.in_ok-own.ensures.keeps c.in_err-message.ensures c.from_residual-in_err-message.ensures.1

pub returns-in_default-2 : goal.returns-in_default-2
returns-in_default-2 g c =
    let after = so_far c.in_ok-own.ensures in
    let message = so_more after c.in_ok-message.ensures in
    tells_so (g.met.B.Book.lawful _) message (λ w world known. nothing_handled_decides w _ _ _ c.in-Some.after _ world (sym known.0 ∙ c.in-Some.is) (search rules) c.refuse-in_default-2.ensures.reply c.refuse-in_default-2.ensures.edits)

pub returns-in_err-answer : goal.returns-in_err-answer
returns-in_err-answer g c =
    tells_fault_then (keeps_then c.in_ok-own.ensures.keeps c.in_ok-message.ensures.keeps) c.in_err-answer.ensures c.from_residual-in_err-answer.ensures.1

pub returns : goal.returns
returns g c =
    let after = so_far c.in_ok-own.ensures in
    let message = so_more after c.in_ok-message.ensures in
    let answer = so_more message c.in_ok-answer.ensures in
    tells_so (g.met.B.Book.lawful _) answer (λ w world known. handle_decides w _ _ _ c.in-Some.after c.handle-handled.new.self c.in-Some-2.message c.handle-handled.result _ world (sym known.0.0 ∙ c.in-Some.is) (search rules) (search rules) (search rules) (search rules) (search rules))
