use Rattle.std.proofs.Common.{◌∙◌, ◌≡◌, rules, sym, false, Some, None}
use Rattle.mx_book.proofs.StandLemmas.{sure_before}
use Rattle.mx_office.proofs.CallLemmas.{bides_then}
use Rattle.mx_report.specs.Roll.{is_same, asker}
use Rattle.mx_report.proofs.RowLemmas.{row_same, row_unasked, row_asked}
use Rattle.mx_report.proofs.rolls.import_row.Goals as goal

pub returns-then-branch-clause-ok : goal.returns-then-branch-clause-ok
returns-then-branch-clause-ok g c = λ sure.
    let w = (g.B.Book.view c.args.office.now.book).world in
    row_same (λ v. (g.B.Book.view c.is_same.new.book).world ≡ v) w c.args.row.now (sym (c.in_ok-is_same.ensures.value sure) ∙ c.if-branch.true) (c.is_same.ensures.keeps.same sure)

pub returns-in_default-clause-ok : goal.returns-in_default-clause-ok
returns-in_default-clause-ok g c = λ sure.
    let w = (g.B.Book.view c.args.office.now.book).world in
    let before = sure_before c.asker.ensures.keeps.later sure in
    let seen = c.is_same.ensures.keeps.same before in
    let nobody : asker w c.args.row.now ≡ None = rw (sym seen) (sym (c.in_ok-caller.ensures.value sure) ∙ search rules) in
    row_unasked (λ v. (g.B.Book.view c.asker.new.book).world ≡ v) w c.args.row.now (sym (c.in_ok-is_same.ensures.value before) ∙ c.if-branch.false) nobody (c.asker.ensures.keeps.same sure ∙ seen)

pub returns-clause-ok : goal.returns-clause-ok
returns-clause-ok g c = λ sure.
    let w = (g.B.Book.view c.args.office.now.book).world in
    let decided = sure_before c.in_ok-reply.ensures.changes.later sure in
    let before = sure_before c.asker.ensures.keeps.later decided in
    let seen = c.is_same.ensures.keeps.same before in
    let stands = c.asker.ensures.keeps.same decided ∙ seen in
    let same : is_same w c.args.row.now ≡ false = sym (c.in_ok-is_same.ensures.value before) ∙ c.if-branch.false in
    let somebody : asker w c.args.row.now ≡ Some c.in-Some.caller = rw (sym seen) (sym (c.in_ok-caller.ensures.value decided) ∙ c.in-Some.is) in
    row_asked (λ v. (g.B.Book.view c.answer_in_round.new.self.book).world ≡ v) w c.args.row.now c.in-Some.caller c.in_ok-reply.reply _ same somebody
    (rw (sym c.command.ensures, sym stands) (c.in_ok-reply.ensures.reply sure)) c.outcome_of.ensures (rw (sym c.command.ensures, sym stands) (c.in_ok-reply.ensures.changes.ok sure)) (rw c.command.ensures at c.answer_in_round.ensures.asked)

-- what was settled is left
pub returns-in_err-is_same-clause-bides : goal.returns-in_err-is_same-clause-bides
returns-in_err-is_same-clause-bides g c = c.is_same.ensures.keeps.bides

pub returns-then-branch-clause-bides : goal.returns-then-branch-clause-bides
returns-then-branch-clause-bides g c = c.is_same.ensures.keeps.bides

pub returns-in_err-caller-clause-bides : goal.returns-in_err-caller-clause-bides
returns-in_err-caller-clause-bides g c = bides_then c.is_same.ensures.keeps.bides c.asker.ensures.keeps.bides

pub returns-in_default-clause-bides : goal.returns-in_default-clause-bides
returns-in_default-clause-bides g c = bides_then c.is_same.ensures.keeps.bides c.asker.ensures.keeps.bides

pub returns-in_err-reply-clause-bides : goal.returns-in_err-reply-clause-bides
returns-in_err-reply-clause-bides g c = bides_then (bides_then c.is_same.ensures.keeps.bides c.asker.ensures.keeps.bides) c.answer_in_round.ensures.changes.bides

pub returns-clause-bides : goal.returns-clause-bides
returns-clause-bides g c = bides_then (bides_then c.is_same.ensures.keeps.bides c.asker.ensures.keeps.bides) c.answer_in_round.ensures.changes.bides
