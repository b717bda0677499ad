use Rattle.std.proofs.Common.{rules, sym, ◌∙◌}
use Rattle.mx_office.proofs.CallLemmas.{so_far, so_more, tells_so, tells_fault, tells_fault_then}
use Rattle.mx_office.proofs.CommandLemmas.{foreign_decides, no_message_decides, discard_decides}
use Rattle.mx_office.proofs.OwnLemmas.{absent}
use Rattle.mx_office.proofs.purses.discard.Goals as goal

pub returns-in_err-is_own : goal.returns-in_err-is_own
returns-in_err-is_own g c = tells_fault c.in_err-is_own.ensures c.from_residual.ensures.1

pub returns-then-not-branch : goal.returns-then-not-branch
returns-then-not-branch g c =
    let own = so_far c.in_ok-is_own.ensures in
    tells_so (g.met.B.Book.lawful _) own (λ w world known. foreign_decides w _ _ _ _ world (absent _ (sym known ∙ c.if-not-branch.true)) c.refuse.ensures.reply c.refuse.ensures.edits)

pub returns-in_err-has_message : goal.returns-in_err-has_message
returns-in_err-has_message g c =
    tells_fault_then c.in_ok-is_own.ensures.keeps c.in_err-has_message.ensures c.from_residual-in_err-has_message.ensures.1

pub returns-then-not-branch-2 : goal.returns-then-not-branch-2
returns-then-not-branch-2 g c =
    let own = so_far c.in_ok-is_own.ensures in
    let has_message = so_more own c.in_ok-has_message.ensures in
    tells_so (g.met.B.Book.lawful _) has_message (λ w world known. no_message_decides w _ _ _ _ world (sym known.0 ∙ c.if-not-branch.false) (search rules) (search rules) (search rules))

pub returns : goal.returns
returns g c =
    let own = so_far c.in_ok-is_own.ensures in
    let has_message = so_more own c.in_ok-has_message.ensures in
    tells_so (g.met.B.Book.lawful _) has_message (λ w world known. discard_decides w _ _ _ _ world (sym known.0 ∙ c.if-not-branch.false) (search rules) (search rules) (search rules))
