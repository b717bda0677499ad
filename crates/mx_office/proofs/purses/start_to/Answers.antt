use Rattle.std.proofs.Common.{rules, refl, sym, ◌∙◌, ap, Some}
use Rattle.mx_purse.specs.declared.message.Message.TheVariants.{Req}
use Rattle.mx_purse.specs.declared.status.Status.TheVariants.{Epv}
use Rattle.mx_purse.specs.Operations.{start_to_refusal, to_details}
use Rattle.mx_office.specs.Step.{start_to}
use Rattle.mx_command.specs.declared.values.Reply.TheVariants.{Refused}
use Rattle.mx_office.proofs.CallLemmas.{so_far, so_more, tells_so, tells_fault, tells_fault_then}
use Rattle.mx_office.proofs.CommandLemmas.{foreign_decides, start_refused, start_decides}
use Rattle.mx_office.proofs.purses.start_to.Goals as goal

pub returns-in_err-own : goal.returns-in_err-own
returns-in_err-own g c = tells_fault c.in_err-own.ensures c.from_residual.ensures.1

pub returns-in_default : goal.returns-in_default
returns-in_default g c =
    let after = so_far c.in_ok-own.ensures in
    tells_so (g.met.B.Book.lawful _) after (λ w world known. foreign_decides w _ _ _ _ world (sym known ∙ c.in_default.is) c.refuse.ensures.reply c.refuse.ensures.edits)

pub returns-in-Err : goal.returns-in-Err
unfolding start_to
returns-in-Err g c =
    let q = c.in-Some.after in
    let d = to_details q c.args.peer c.args.value c.args.seq in
    let after = so_far c.in_ok-own.ensures in
    tells_so (g.met.B.Book.lawful _) after (λ w world known. start_refused w _ _ q (start_to c.args.peer c.args.value c.args.seq) (start_to_refusal q c.args.peer) (Epv d) d (λ x. Some (c.args.peer, Req x)) (λ a is. rw is refl) (λ h. (h, λ _. tt)) _ world (sym known ∙ c.in-Some.is)
    c.in-Err.refusal (sym c.in-Err.ensures.answer) (c.refuse-in-Err.ensures.reply ∙ ap Refused c.start_refusal.ensures) c.refuse-in-Err.ensures.edits)

pub returns-in_err-request-in-Ok : goal.returns-in_err-request-in-Ok
returns-in_err-request-in-Ok g c =
    tells_fault_then c.in_ok-own.ensures.keeps c.in_err-request-in-Ok.ensures c.from_residual-in_err-request-in-Ok.ensures.1

pub returns-in_ok-request-in-Ok : goal.returns-in_ok-request-in-Ok
unfolding start_to
returns-in_ok-request-in-Ok g c =
    let q = c.in-Some.after in
    let d = to_details q c.args.peer c.args.value c.args.seq in
    let after = so_far c.in_ok-own.ensures in
    let request = so_more after c.in_ok-request-in-Ok.ensures in
    tells_so (g.met.B.Book.lawful _) request (λ w world known. start_decides w _ _ q (start_to c.args.peer c.args.value c.args.seq) (start_to_refusal q c.args.peer) (Epv d) d (λ x. Some (x.from, Req x)) (λ a is. rw is refl) (λ h. (h, λ _. tt)) _ world (sym known.0 ∙ c.in-Some.is)
    c.start_to.new.self c.in-Ok.details c.start_to.ensures.whole (sym c.in-Ok.ensures.answer) c.in-Ok.ensures.new c.make_purse.ensures.reply (search rules))
