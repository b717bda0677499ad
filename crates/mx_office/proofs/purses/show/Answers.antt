use Rattle.std.proofs.Common.{refl, sym, ◌∙◌}
use Rattle.mx_command.specs.declared.values.Reply.TheVariants.{Shown}
use Rattle.mx_office.specs.Step.{show}
use Rattle.mx_office.proofs.CallLemmas.{so_far, tells_so, tells_fault, err_never}
use Rattle.mx_office.proofs.CommandLemmas.{foreign_decides, purse_told}
use Rattle.mx_office.proofs.purses.show.Goals as goal

pub returns-in_err-purse : goal.returns-in_err-purse
returns-in_err-purse g c =
    record { tells = tells_fault c.in_err-purse.ensures c.from_residual.ensures.1; edits = err_never _ _ _ c.from_residual.ensures.1 }

pub returns-in-Some : goal.returns-in-Some
unfolding show
returns-in-Some g c =
    let purse = so_far c.in_ok-purse.ensures in
    record { tells = tells_so (g.met.B.Book.lawful _) purse (λ w world known. purse_told w _ _ c.in-Some.purse show (Shown c.in-Some.purse) _ world (sym known ∙ c.in-Some.is) (λ a is. rw is refl) c.tell.ensures.reply c.tell.ensures.edits); edits = c.tell.ensures.edits }

pub returns-in-None : goal.returns-in-None
returns-in-None g c =
    let purse = so_far c.in_ok-purse.ensures in
    record { tells = tells_so (g.met.B.Book.lawful _) purse (λ w world known. foreign_decides w _ _ _ _ world (sym known ∙ c.in-None.is) c.refuse.ensures.reply c.refuse.ensures.edits); edits = c.refuse.ensures.edits }
