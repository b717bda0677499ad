use Rattle.std.proofs.Common.{rules, sym, ◌∙◌}
use Rattle.mx_office.proofs.CallLemmas.{keeps_then, so_far, so_more, tells_so, tells_fault, tells_fault_then}
use Rattle.mx_office.proofs.ArchiveLemmas.{no_clear, not_archived, clear_decides}
use Rattle.mx_office.proofs.archive.clear.Goals as goal

pub returns-in_err-has_purse : goal.returns-in_err-has_purse
returns-in_err-has_purse g c =
    tells_fault c.in_err-has_purse.ensures c.from_residual.ensures.1

pub returns-then-not-branch : goal.returns-then-not-branch
returns-then-not-branch g c =
    let has_purse = so_far c.in_ok-has_purse.ensures in
    tells_so (g.met.B.Book.lawful _) has_purse (λ w world known. ((λ valid. no_clear w _ _ _ world (sym known ∙ c.if-not-branch.true) c.refuse.ensures.reply c.refuse.ensures.edits), λ none. c.refuse.ensures.edits))

pub returns-in_err-may_clear : goal.returns-in_err-may_clear
returns-in_err-may_clear g c =
    tells_fault_then c.in_ok-has_purse.ensures.keeps c.in_err-may_clear.ensures c.from_residual-in_err-may_clear.ensures.1

pub returns-then-not-branch-2 : goal.returns-then-not-branch-2
returns-then-not-branch-2 g c =
    let has_purse = so_far c.in_ok-has_purse.ensures in
    let may_clear = so_more has_purse c.in_ok-may_clear.ensures in
    tells_so (g.met.B.Book.lawful _) may_clear (λ w world known. ((λ valid. not_archived w _ _ _ world (sym known.0 ∙ c.if-not-branch.false) (sym known.1 ∙ c.if-not-branch-2.true) c.refuse-then-not-branch-2.ensures.reply c.refuse-then-not-branch-2.ensures.edits), λ none. c.refuse-then-not-branch-2.ensures.edits))

pub returns-in_err-finds_place : goal.returns-in_err-finds_place
returns-in_err-finds_place g c =
    tells_fault_then (keeps_then c.in_ok-has_purse.ensures.keeps c.in_ok-may_clear.ensures.keeps) c.in_err-finds_place.ensures c.from_residual-in_err-finds_place.ensures.1

pub returns-then-not-branch-3 : goal.returns-then-not-branch-3
returns-then-not-branch-3 g c =
    let has_purse = so_far c.in_ok-has_purse.ensures in
    let may_clear = so_more has_purse c.in_ok-may_clear.ensures in
    let finds_place = so_more may_clear c.in_ok-finds_place.ensures in
    tells_so (g.met.B.Book.lawful _) finds_place (λ w world known. ((λ valid. clear_decides w _ _ _ world valid.1 (sym known.0.0 ∙ c.if-not-branch.false) (sym known.0.1 ∙ c.if-not-branch-2.false) c.tell.ensures.reply (search rules)), λ none. c.tell.ensures.edits))

pub returns : goal.returns
returns g c =
    let has_purse = so_far c.in_ok-has_purse.ensures in
    let may_clear = so_more has_purse c.in_ok-may_clear.ensures in
    let finds_place = so_more may_clear c.in_ok-finds_place.ensures in
    tells_so (g.met.B.Book.lawful _) finds_place (λ w world known. ((λ valid. clear_decides w _ _ _ world valid.1 (sym known.0.0 ∙ c.if-not-branch.false) (sym known.0.1 ∙ c.if-not-branch-2.false) c.make.ensures.reply (search rules)), λ none. search rules))
