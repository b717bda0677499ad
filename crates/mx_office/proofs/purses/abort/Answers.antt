use Rattle.std.proofs.Common.{sym, ◌∙◌, ap, is_some, None}
use Rattle.mx_office.specs.Decides.{purse_edits}
use Rattle.mx_office.specs.Step.{abort_line}
use Rattle.mx_command.specs.declared.values.Reply.TheVariants.{Aborted}
use Rattle.mx_office.proofs.CallLemmas.{so_far, tells_so, tells_fault}
use Rattle.mx_office.proofs.CommandLemmas.{foreign_decides, abort_decides}
use Rattle.mx_office.proofs.purses.abort.Goals as goal

pub returns-in_err-own : goal.returns-in_err-own
returns-in_err-own g c = tells_fault c.in_err-own.ensures c.from_residual.ensures.1

pub returns-in_default : goal.returns-in_default
returns-in_default g c =
    let after = so_far c.in_ok-own.ensures in
    tells_so (g.met.B.Book.lawful _) after (λ w world known. foreign_decides w _ _ _ _ world (sym known ∙ c.in_default.is) c.refuse.ensures.reply c.refuse.ensures.edits)

pub returns : goal.returns
returns g c =
    let after = so_far c.in_ok-own.ensures in
    tells_so (g.met.B.Book.lawful _) after (λ w world known. abort_decides w _ _ c.in-Some.after c.abort-logged.new.self _ world (sym known ∙ c.in-Some.is) c.abort-logged.ensures.new (c.make_purse.ensures.reply ∙ ap Aborted (c.is_some.ensures ∙ ap is_some c.abort-logged.ensures.logged)) (c.make_purse.ensures.edits ∙ ap (λ l. purse_edits c.abort-logged.new.self l None) (c.abort_line-line.ensures ∙ ap (abort_line c.abort-logged.new.self) c.abort-logged.ensures.logged)))
