use Rattle.std.proofs.Common.{sym, ◌∙◌}
use Rattle.std.proofs.lemmas.Result.{err_from_is_err_and}
use Rattle.mx_book.proofs.StandLemmas.{later_then, sure_before}
use Rattle.mx_office.proofs.CallLemmas.{bides_then, changes_fault}
use Rattle.mx_office.proofs.FaultLemmas.{writes, memory_fails, decision_fails, decision_faults}
use Rattle.mx_office.proofs.LawLemmas.{accounts_after, told_after}
use Rattle.mx_office.proofs.RuleLemmas.{refused_stays}
use Rattle.mx_office.specs.Step.{step}
use Rattle.mx_office.proofs.office.Office.answer_in_round.Goals as goal

pub commit-requires : goal.commit-requires
commit-requires g c = λ sure. rw (c.decide.ensures.keeps.same sure) (c.in_ok-decided.ensures.decides sure).fits

pub returns-in-Refused-clause-changes : goal.returns-in-Refused-clause-changes
returns-in-Refused-clause-changes g c = record {
  later = c.decide.ensures.keeps.later;
  ok = λ sure.
      let decides = c.in_ok-decided.ensures.decides sure in
      c.decide.ensures.keeps.same sure ∙ sym (refused_stays _ c.args.caller c.args.command.now c.in-Refused.refusal (sym decides.reply ∙ c.in-Refused.is));
  err = λ sure. tt;
  bides = c.decide.ensures.keeps.bides;
  fault = tt;
}

pub returns-in-Refused-clause-reply : goal.returns-in-Refused-clause-reply
unfolding step
returns-in-Refused-clause-reply g c = λ sure. sym c.in-Refused.is ∙ (c.in_ok-decided.ensures.decides sure).reply

pub returns-clause-changes : goal.returns-clause-changes
unfolding step
returns-clause-changes g c = record {
  later = later_then c.decide.ensures.keeps.later c.in_ok-commit.ensures.changes.later;
  ok = λ sure.
      let before = sure_before c.in_ok-commit.ensures.changes.later sure in
      c.in_ok-commit.ensures.changes.ok sure ∙ rw (c.decide.ensures.keeps.same before) (c.in_ok-decided.ensures.decides before).leads;
  err = λ sure. tt;
  bides = bides_then c.decide.ensures.keeps.bides c.in_ok-commit.ensures.changes.bides;
  fault = tt;
}

pub returns-clause-reply : goal.returns-clause-reply
unfolding step
returns-clause-reply g c = λ sure. (c.in_ok-decided.ensures.decides (sure_before c.in_ok-commit.ensures.changes.later sure)).reply

pub returns-clause-refused : goal.returns-clause-refused
returns-clause-refused g c = λ sure refusal is. absurd (c.in_default.not-Refused refusal is)

pub returns-in_err-decided-clause-changes : goal.returns-in_err-decided-clause-changes
returns-in_err-decided-clause-changes g c =
    changes_fault _ c.decide.ensures.keeps.later c.decide.ensures.keeps.same c.decide.ensures.keeps.bides (decision_faults g.B.Book.fails c.args.command.now _ c.in_err-decided.ensures.fault) c.from_residual.ensures.1

pub returns-in_err-commit-clause-changes : goal.returns-in_err-commit-clause-changes
returns-in_err-commit-clause-changes g c =
    let change = c.in_err-commit.ensures.changes in
    changes_fault _ (later_then c.decide.ensures.keeps.later change.later) (λ sure. change.err sure ∙ c.decide.ensures.keeps.same (sure_before change.later sure))
    (bides_then c.decide.ensures.keeps.bides change.bides) change.fault c.from_residual-in_err-commit.ensures.1

pub returns-in_err-commit-clause-memory : goal.returns-in_err-commit-clause-memory
unfolding step
returns-in_err-commit-clause-memory g c = λ sure.
    let before = sure_before c.in_err-commit.ensures.changes.later sure in
    let p = err_from_is_err_and c.from_residual-in_err-commit.result c.from_residual-in_err-commit.ensures.1 in
    let takes = writes _ c.args.caller c.args.command.now _ _ (c.in_ok-decided.ensures.decides before).reply c.in_default.not-Refused (c.in_ok-decided.ensures.edits before) c.in_err-commit.ensures.nothing in
    rw (p.1, p.2) (memory_fails g.B.Book.fails _ _ takes c.in_err-commit.ensures.changes.fault)

pub returns-in_err-decided-clause-memory : goal.returns-in_err-decided-clause-memory
returns-in_err-decided-clause-memory g c = λ sure.
    let p = err_from_is_err_and c.from_residual.result c.from_residual.ensures.1 in
    rw (p.1, p.2) (decision_fails g.B.Book.fails _ c.args.caller c.args.command.now _ (c.in_err-decided.ensures.memory sure))

-- the holders are kept apart, since what stands is the step's World, and the reply is the step's
pub returns-in-Refused-clause-accounts : goal.returns-in-Refused-clause-accounts
returns-in-Refused-clause-accounts g c = λ sure h. accounts_after _ _ h _ _ ((returns-in-Refused-clause-changes g c).ok sure)

pub returns-clause-accounts : goal.returns-clause-accounts
returns-clause-accounts g c = λ sure h. accounts_after _ _ h _ _ ((returns-clause-changes g c).ok sure)

pub returns-in-Refused-clause-told : goal.returns-in-Refused-clause-told
returns-in-Refused-clause-told g c = λ sure h. told_after _ h _ _ _ (returns-in-Refused-clause-reply g c sure)

pub returns-clause-told : goal.returns-clause-told
returns-clause-told g c = λ sure h. told_after _ h _ _ _ (returns-clause-reply g c sure)
