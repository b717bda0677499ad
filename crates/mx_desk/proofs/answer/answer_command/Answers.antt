use Rattle.std.proofs.Common.{sym, ◌∙◌, ap}
use Rattle.std.proofs.lemmas.Result.{err_from_is_err_and}
use Rattle.mx_book.specs.World.{World}
use Rattle.mx_book.proofs.StandLemmas.{later_then, sure_before}
use Rattle.mx_book.proofs.ViewLemmas.{bides_then}
use Rattle.mx_office.specs.Step.{step}
use Rattle.mx_office.proofs.FaultLemmas.{writes}
use Rattle.mx_office.proofs.RuleLemmas.{refused_stays}
use Rattle.mx_office.proofs.StayLemmas.{step_stays}
use Rattle.mx_wire.specs.Replies.{reply_parts}
use Rattle.mx_desk.specs.Respond.{after_body}
use Rattle.mx_desk.proofs.GivenUpLemmas.{decision_gives_up, fault_gives_up, response_gives_up}
use Rattle.mx_desk.proofs.KnowsLemmas.{knows_on}
use Rattle.mx_desk.proofs.answer.answer_command.Goals as goal

pub returns-in-Refused-clause-bides : goal.returns-in-Refused-clause-bides
returns-in-Refused-clause-bides g c = c.decide_into.ensures.keeps.bides

pub returns-in_default-render-clause-bides : goal.returns-in_default-render-clause-bides
returns-in_default-render-clause-bides g c = c.decide_into.ensures.keeps.bides

pub returns-in_err-decide_into-clause-bides : goal.returns-in_err-decide_into-clause-bides
returns-in_err-decide_into-clause-bides g c = c.decide_into.ensures.keeps.bides

pub returns-clause-bides : goal.returns-clause-bides
returns-clause-bides g c = bides_then c.decide_into.ensures.keeps.bides c.in_ok-commit.ensures.changes.bides

pub returns-in_err-commit-clause-bides : goal.returns-in_err-commit-clause-bides
returns-in_err-commit-clause-bides g c = bides_then c.decide_into.ensures.keeps.bides c.in_err-commit.ensures.changes.bides

pub commit-requires : goal.commit-requires
commit-requires g c = λ sure. rw (c.decide_into.ensures.keeps.same sure) (c.in_ok-decide_into.ensures.decides sure).fits

pub returns-clause-later : goal.returns-clause-later
returns-clause-later g c = later_then c.decide_into.ensures.keeps.later c.in_ok-commit.ensures.changes.later

pub returns-in_err-commit-clause-later : goal.returns-in_err-commit-clause-later
returns-in_err-commit-clause-later g c = later_then c.decide_into.ensures.keeps.later c.in_err-commit.ensures.changes.later

pub returns-in_err-commit-clause-err : goal.returns-in_err-commit-clause-err
returns-in_err-commit-clause-err g c = λ sure.
    let p = err_from_is_err_and c.from_residual-in_err-commit.result c.from_residual-in_err-commit.ensures.1 in
    let change = c.in_err-commit.ensures.changes in
    rw p.1 (change.err sure ∙ c.decide_into.ensures.keeps.same (sure_before change.later sure))

pub returns-clause-answers : goal.returns-clause-answers
unfolding step after_body
returns-clause-answers g c = λ sure knows.
    let b = g.B.Book in
    let w : World = (b.view c.args.office.now.book).world in
    let before = sure_before c.in_ok-commit.ensures.changes.later sure in
    let decides = c.in_ok-decide_into.ensures.decides before in
    let done = c.in_ok-commit.ensures.changes.ok sure ∙ rw (c.decide_into.ensures.keeps.same before) decides.leads in
    (c.in-Ok.ensures.parts ∙ ap reply_parts decides.reply, (done, knows_on w _ (step_stays w c.args.caller c.args.workspace.now.command) c.args.workspace.now.callers knows))

pub returns-in-Refused-clause-answers : goal.returns-in-Refused-clause-answers
unfolding step after_body
returns-in-Refused-clause-answers g c = λ sure knows.
    let w : World = (g.B.Book.view c.args.office.now.book).world in
    let decides = c.in_ok-decide_into.ensures.decides sure in
    let refused = sym decides.reply ∙ c.in-Refused.is in
    let same = refused_stays w c.args.caller c.args.workspace.now.command c.in-Refused.refusal refused in
    (sym (ap reply_parts refused), (c.decide_into.ensures.keeps.same sure ∙ sym same, rw same knows))

pub returns-in_default-render-clause-answers : goal.returns-in_default-render-clause-answers
unfolding step
returns-in_default-render-clause-answers g c = λ sure knows.
    let w : World = (g.B.Book.view c.args.office.now.book).world in
    let decides = c.in_ok-decide_into.ensures.decides sure in (
      response_gives_up g.B.Book.fails w c.args.caller c.args.workspace.now.command _ decides.reply c.in_default-render.ensures.memory,
      (c.decide_into.ensures.keeps.same sure, knows),
    )

pub returns-in_err-commit-clause-answers : goal.returns-in_err-commit-clause-answers
unfolding step after_body
returns-in_err-commit-clause-answers g c = λ sure knows.
    let w : World = (g.B.Book.view c.args.office.now.book).world in
    let p = err_from_is_err_and c.from_residual-in_err-commit.result c.from_residual-in_err-commit.ensures.1 in
    let change = c.in_err-commit.ensures.changes in
    let before = sure_before change.later sure in
    let decides = c.in_ok-decide_into.ensures.decides before in
    let takes = writes w c.args.caller c.args.workspace.now.command _ _ decides.reply c.in_default.not-Refused (c.in_ok-decide_into.ensures.edits before) c.in_err-commit.ensures.nothing in
    rw p.1 (
      fault_gives_up g.B.Book.fails w c.args.caller c.args.workspace.now.command _ takes change.fault,
      (change.err sure ∙ c.decide_into.ensures.keeps.same before, knows),
    )

pub returns-in_err-decide_into-clause-answers : goal.returns-in_err-decide_into-clause-answers
returns-in_err-decide_into-clause-answers g c = λ sure knows.
    let w : World = (g.B.Book.view c.args.office.now.book).world in
    let p = err_from_is_err_and c.from_residual.result c.from_residual.ensures.1 in
    rw p.1 (
      decision_gives_up g.B.Book.fails w c.args.caller c.args.workspace.now.command _ (c.in_err-decide_into.ensures.memory sure),
      (c.decide_into.ensures.keeps.same sure, knows),
    )
