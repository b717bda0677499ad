use Rattle.std.proofs.Common.{refl, sym, ◌∙◌, ap, None}
use Rattle.mx_purse.specs.declared.status.Status.TheVariants.{Epr}
use Rattle.mx_purse.specs.Operations.{start_from_refusal, from_details}
use Rattle.mx_office.specs.Step.{abort_line, start_from}
use Rattle.mx_office.specs.Decides.{purse_edits}
use Rattle.mx_command.specs.declared.values.Reply.TheVariants.{Refused}
use Rattle.mx_office.proofs.CallLemmas.{so_far, tells_so, tells_fault}
use Rattle.mx_office.proofs.CommandLemmas.{foreign_decides, start_refused, start_decides}
use Rattle.mx_office.proofs.purses.start_from.Goals as goal

pub returns-in_err-own : goal.returns-in_err-own
returns-in_err-own g c = tells_fault c.in_err-own.ensures c.from_residual.ensures.1

pub returns-in_default : goal.returns-in_default
returns-in_default g c =
    let after = so_far c.in_ok-own.ensures in
    tells_so (g.met.B.Book.lawful _) after (λ w world known. foreign_decides w _ _ _ _ world (sym known ∙ c.in_default.is) c.refuse.ensures.reply c.refuse.ensures.edits)

pub returns-in-Err : goal.returns-in-Err
unfolding start_from
returns-in-Err g c =
    let q = c.in-Some.after in
    let d = from_details q c.args.peer c.args.value c.args.seq in
    let after = so_far c.in_ok-own.ensures in
    tells_so (g.met.B.Book.lawful _) after (λ w world known. start_refused w _ _ q (start_from c.args.peer c.args.value c.args.seq) (start_from_refusal q c.args.peer c.args.value) (Epr d) d (λ _. None) (λ a is. rw is refl) (λ _. tt) _ world (sym known ∙ c.in-Some.is)
    c.in-Err.refusal (sym c.in-Err.ensures.answer) (c.refuse-in-Err.ensures.reply ∙ ap Refused c.start_refusal.ensures) c.refuse-in-Err.ensures.edits)

pub returns-in-Ok : goal.returns-in-Ok
unfolding start_from
returns-in-Ok g c =
    let q = c.in-Some.after in
    let d = from_details q c.args.peer c.args.value c.args.seq in
    let after = so_far c.in_ok-own.ensures in
    tells_so (g.met.B.Book.lawful _) after (λ w world known. start_decides w _ _ q (start_from c.args.peer c.args.value c.args.seq) (start_from_refusal q c.args.peer c.args.value) (Epr d) d (λ _. None) (λ a is. rw is refl) (λ _. tt) _ world (sym known ∙ c.in-Some.is)
    c.start_from.new.self c.in-Ok.details c.start_from.ensures.whole (sym c.in-Ok.ensures.answer) c.in-Ok.ensures.new c.make_purse.ensures.reply (c.make_purse.ensures.edits ∙ ap (λ l. purse_edits c.start_from.new.self l None) (c.abort_line-line.ensures ∙ ap (abort_line c.start_from.new.self) c.pending-logged.ensures)))
