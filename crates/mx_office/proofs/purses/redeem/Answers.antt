use Rattle.std.proofs.Common.{sym, ◌∙◌, ap}
use Rattle.mx_office.specs.Decides.{redeem_edits}
use Rattle.mx_office.specs.Step.{abort_line}
use Rattle.mx_command.specs.declared.values.Reply.TheVariants.{Refused}
use Rattle.mx_office.proofs.CallLemmas.{so_far, so_more, tells_so, tells_fault, tells_fault_then}
use Rattle.mx_office.proofs.CommandLemmas.{foreign_decides, redeem_repeated, redeem_refuses, redeem_made}
use Rattle.mx_office.proofs.OwnLemmas.{never_some}
use Rattle.mx_office.proofs.purses.redeem.Goals as goal

pub returns-in_err-own : goal.returns-in_err-own
returns-in_err-own g c = tells_fault c.in_err-own.ensures c.from_residual.ensures.1

pub returns-in_default : goal.returns-in_default
returns-in_default g c =
    let after = so_far c.in_ok-own.ensures in
    tells_so (g.met.B.Book.lawful _) after (λ w world known. ((λ valid. foreign_decides w _ _ _ _ world (sym known ∙ c.in_default.is) c.refuse.ensures.reply c.refuse.ensures.edits), λ some. c.refuse.ensures.edits))

pub returns-in_err-before : goal.returns-in_err-before
returns-in_err-before g c =
    tells_fault_then c.in_ok-own.ensures.keeps c.in_err-before.ensures c.from_residual-in_err-before.ensures.1

pub returns-in-Some-2 : goal.returns-in-Some-2
returns-in-Some-2 g c =
    let after = so_far c.in_ok-own.ensures in
    let before = so_more after c.in_ok-before.ensures in
    tells_so (g.met.B.Book.lawful _) before (λ w world known. ((λ valid. redeem_repeated w _ _ _ _ c.in-Some.after _ world (sym known.0 ∙ c.in-Some.is) c.in-Some-2.before (sym known.1 ∙ c.in-Some-2.is) c.again.ensures.reply c.again.ensures.edits), λ some. c.again.ensures.edits))

pub returns-in-Err : goal.returns-in-Err
returns-in-Err g c =
    let after = so_far c.in_ok-own.ensures in
    let before = so_more after c.in_ok-before.ensures in
    tells_so (g.met.B.Book.lawful _) before (λ w world known. ((λ valid. redeem_refuses w _ _ _ _ c.in-Some.after _ world (sym known.0 ∙ c.in-Some.is) c.in-Err.refusal (sym known.1 ∙ c.in_default-2.is) (sym c.in-Err.ensures.answer) (c.refuse-in-Err.ensures.reply ∙ ap Refused c.redeem_refusal.ensures) c.refuse-in-Err.ensures.edits), λ some. c.refuse-in-Err.ensures.edits))

pub returns-in-Ok : goal.returns-in-Ok
returns-in-Ok g c =
    let after = so_far c.in_ok-own.ensures in
    let before = so_more after c.in_ok-before.ensures in
    tells_so (g.met.B.Book.lawful _) before (λ w world known. (
      (λ valid. redeem_made w _ _ _ _ c.in-Some.after _ world (sym known.0 ∙ c.in-Some.is) c.abort-logged.new.self c.redeem.new.self
          (sym known.1 ∙ c.in_default-2.is) valid.2 valid.1 (sym c.in-Ok.ensures.answer) c.in-Ok.ensures.new c.abort-logged.ensures.new c.make_redemption.ensures.reply (c.make_redemption.ensures.edits ∙ ap (λ l. redeem_edits c.redeem.new.self l c.args.amount c.args.reference) (c.abort_line-line.ensures ∙ ap (abort_line c.abort-logged.new.self) c.abort-logged.ensures.logged))),
      λ some. absurd (never_some _ (sym known.1 ∙ c.in_default-2.is) some),
    ))
