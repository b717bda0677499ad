use Rattle.std.proofs.Common.{sym, ◌∙◌, ap}
use Rattle.mx_book.specs.Reads.{account_of}
use Rattle.mx_command.specs.declared.values.Reply.TheVariants.{Refused}
use Rattle.mx_office.proofs.CallLemmas.{keeps_then, so_far, so_more, tells_so, tells_fault, tells_fault_then}
use Rattle.mx_office.proofs.MoneyLemmas.{settled_already, settles_nothing, settles_no_purse, settle_refuses, settle_made}
use Rattle.mx_office.proofs.archive.settle.Goals as goal

pub returns-in_err-settled : goal.returns-in_err-settled
returns-in_err-settled g c = tells_fault c.in_err-settled.ensures c.from_residual.ensures.1

pub returns-then-branch : goal.returns-then-branch
returns-then-branch g c =
    tells_so (g.met.B.Book.lawful _) (so_far c.in_ok-settled.ensures)
    (λ w world known valid. settled_already w _ _ world (sym known ∙ c.if-branch.true) c.refuse.ensures.reply c.refuse.ensures.edits)

pub returns-in_err-is_archived_for_both : goal.returns-in_err-is_archived_for_both
returns-in_err-is_archived_for_both g c =
    tells_fault_then c.in_ok-settled.ensures.keeps c.in_err-is_archived_for_both.ensures
    c.from_residual-in_err-is_archived_for_both.ensures.1

pub returns-then-not-branch : goal.returns-then-not-branch
returns-then-not-branch g c =
    let settled = so_far c.in_ok-settled.ensures in
    let archived = so_more settled c.in_ok-is_archived_for_both.ensures in
    tells_so (g.met.B.Book.lawful _) archived
    (λ w world known valid. settles_nothing w _ _ world (sym known.0 ∙ c.if-branch.false) (sym known.1 ∙ c.if-not-branch.true)
    c.refuse-then-not-branch.ensures.reply c.refuse-then-not-branch.ensures.edits)

pub returns-in_err-account : goal.returns-in_err-account
returns-in_err-account g c =
    tells_fault_then (keeps_then c.in_ok-settled.ensures.keeps c.in_ok-is_archived_for_both.ensures.keeps) c.in_err-account.ensures
    c.from_residual-in_err-account.ensures.1

pub returns-in_default : goal.returns-in_default
returns-in_default g c =
    let settled = so_far c.in_ok-settled.ensures in
    let archived = so_more settled c.in_ok-is_archived_for_both.ensures in
    let account = so_more archived c.in_ok-account.ensures in
    tells_so (g.met.B.Book.lawful _) account (λ w world known valid.
    settles_no_purse w _ _ world (sym known.0.0 ∙ c.if-branch.false) (sym known.0.1 ∙ c.if-not-branch.false)
    (ap (account_of w) (sym c.from.ensures.value) ∙ sym known.1 ∙ c.in_default.is) c.refuse-in_default.ensures.reply c.refuse-in_default.ensures.edits)

pub returns-in-Err : goal.returns-in-Err
returns-in-Err g c =
    let settled = so_far c.in_ok-settled.ensures in
    let archived = so_more settled c.in_ok-is_archived_for_both.ensures in
    let account = so_more archived c.in_ok-account.ensures in
    tells_so (g.met.B.Book.lawful _) account (λ w world known valid.
    settle_refuses w _ _ world c.in-Some.account (sym known.0.0 ∙ c.if-branch.false) (sym known.0.1 ∙ c.if-not-branch.false)
    (ap (account_of w) (sym c.from.ensures.value) ∙ sym known.1 ∙ c.in-Some.is)
    c.in-Err.refusal (rw c.value.ensures.value at (sym c.in-Err.ensures.answer)) (c.refuse-in-Err.ensures.reply ∙ ap Refused c.credit_refusal.ensures) c.refuse-in-Err.ensures.edits)

pub returns-in-Ok : goal.returns-in-Ok
returns-in-Ok g c =
    let settled = so_far c.in_ok-settled.ensures in
    let archived = so_more settled c.in_ok-is_archived_for_both.ensures in
    let account = so_more archived c.in_ok-account.ensures in
    tells_so (g.met.B.Book.lawful _) account (λ w world known valid.
    settle_made w _ _ world c.in-Some.account (sym known.0.0 ∙ c.if-branch.false) (sym known.0.1 ∙ c.if-not-branch.false)
    (ap (account_of w) (sym c.from.ensures.value) ∙ sym known.1 ∙ c.in-Some.is)
    c.credit.new.self valid (rw c.value.ensures.value at (sym c.in-Ok.ensures.answer)) (rw c.value.ensures.value at c.in-Ok.ensures.new) c.make_settlement.ensures.reply c.make_settlement.ensures.edits)
