use Rattle.std.proofs.Common.{rules, sym, ◌∙◌, inr}
use Rattle.mx_office.proofs.CallLemmas.{so_far, so_more, tells_so, tells_fault, err_never, err_so, tells_fault_then, for_memory}
use Rattle.mx_book.proofs.StandLemmas.{sure_before}
use Rattle.mx_office.proofs.OwnLemmas.{absent}
use Rattle.mx_office.proofs.FaultLemmas.{memory_fails}
use Rattle.mx_office.proofs.CommandLemmas.{foreign_decides, statement_decides}
use Rattle.mx_office.proofs.purses.statement.Goals as goal

pub returns-in_err-is_own : goal.returns-in_err-is_own
returns-in_err-is_own g c =
    record { tells = tells_fault (for_memory c.in_err-is_own.ensures) c.from_residual.ensures.1; edits = err_never _ _ _ c.from_residual.ensures.1; memory = λ sure. err_so _ _ (inr c.in_err-is_own.ensures.fault) c.from_residual.ensures.1 }

pub returns-then-not-branch : goal.returns-then-not-branch
returns-then-not-branch g c =
    let own = so_far c.in_ok-is_own.ensures in
    record { tells = tells_so (g.met.B.Book.lawful _) own (λ w world known. foreign_decides w _ _ _ _ world (absent _ (sym known ∙ c.if-not-branch.true)) c.refuse.ensures.reply c.refuse.ensures.edits); edits = c.refuse.ensures.edits; memory = λ sure. tt }

pub returns-in_err-lines : goal.returns-in_err-lines
returns-in_err-lines g c =
    record { tells = tells_fault_then c.in_ok-is_own.ensures.keeps c.in_err-lines.ensures c.from_residual-in_err-lines.ensures.1; edits = err_never _ _ _ c.from_residual-in_err-lines.ensures.1; memory = λ sure. err_so _ _ (memory_fails g.B.Book.fails _ _ (sym (c.in_ok-is_own.ensures.value (sure_before c.in_err-lines.ensures.keeps.later sure)) ∙ c.if-not-branch.false) c.in_err-lines.ensures.fault) c.from_residual-in_err-lines.ensures.1 }

pub returns : goal.returns
returns g c =
    let own = so_far c.in_ok-is_own.ensures in
    let lines = so_more own c.in_ok-lines.ensures in
    record { tells = tells_so (g.met.B.Book.lawful _) lines (λ w world known. statement_decides w _ _ _ _ world (sym known.0 ∙ c.if-not-branch.false) (search rules) c.tell.ensures.edits); edits = c.tell.ensures.edits; memory = λ sure. tt }
