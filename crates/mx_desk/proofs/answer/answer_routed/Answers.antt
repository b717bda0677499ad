use Rattle.std.proofs.Common.{◌≡◌, false, true, refl, rules}
use Rattle.std.specs.Prelude.{IsTrue, Some, None}
use Rattle.mx_wire.specs.Routes.{class_of}
use Rattle.mx_wire.specs.Bodies.{command_of}
use Rattle.mx_book.specs.World.{World}
use Rattle.mx_book.proofs.StandLemmas.{later_then, sure_before}
use Rattle.mx_book.proofs.ViewLemmas.{bides_then}
use Rattle.mx_desk.specs.Found.{request_view}
use Rattle.mx_desk.specs.Knows.{Has}
use Rattle.mx_desk.specs.Respond.{after_body, after_caller, caller_of, is_of_class}
use Rattle.mx_desk.proofs.GivenUpLemmas.{answer_of_command, answered_from}
use Rattle.mx_desk.proofs.answer.answer_routed.Goals as goal

pub returns-in-Ok-clause-bides : goal.returns-in-Ok-clause-bides
returns-in-Ok-clause-bides g c = bides_then c.caller_of.ensures.keeps.bides c.answer_command.ensures.bides

pub returns-in-Ok-clause-later : goal.returns-in-Ok-clause-later
returns-in-Ok-clause-later g c = later_then c.caller_of.ensures.keeps.later c.answer_command.ensures.later

pub returns-in-Ok-clause-answers : goal.returns-in-Ok-clause-answers
returns-in-Ok-clause-answers g c = λ sure knows.
    let b = g.B.Book in
    let before = sure_before c.answer_command.ensures.later sure in
    let w : World = (b.view c.args.office.now.book).world in
    let same = c.caller_of.ensures.keeps.same before in
    let found : caller_of w (request_view c.args.request.now).token ≡ Some c.in-Some.caller = search rules in
    let class : IsTrue (is_of_class c.in-Some.caller (class_of c.args.route.now)) = search rules in
    let known = c.caller_of.ensures.known before knows in
    answer_of_command b.fails (Has (b.view c.answer_command.new.office.book) c.answer_command.new.workspace.callers) w
    (request_view c.args.request.now) c.args.route.now c.in-Some.caller _ _ c.answer_command.result found class c.in-Ok.ensures.ok
    (answered_from b.fails (b.view c.answer_command.new.office.book) _ _ _ _ c.in-Some.caller _ c.answer_command.result same known (c.answer_command.ensures.answers sure))

pub returns-then-not-is_of_class-clause-answers : goal.returns-then-not-is_of_class-clause-answers
unfolding after_caller
returns-then-not-is_of_class-clause-answers g c = λ sure knows.
    let w : World = (g.B.Book.view c.args.office.now.book).world in
    let found : caller_of w (request_view c.args.request.now).token ≡ Some c.in-Some.caller = search rules in
    let class : is_of_class c.in-Some.caller (class_of c.args.route.now) ≡ false = search rules in
    rw (found, class) (refl, (c.caller_of.ensures.keeps.same sure, c.caller_of.ensures.known sure knows))

pub returns-in-Err-BadBody-clause-answers : goal.returns-in-Err-BadBody-clause-answers
unfolding after_caller after_body
returns-in-Err-BadBody-clause-answers g c = λ sure knows.
    let w : World = (g.B.Book.view c.args.office.now.book).world in
    let found : caller_of w (request_view c.args.request.now).token ≡ Some c.in-Some.caller = search rules in
    let class : is_of_class c.in-Some.caller (class_of c.args.route.now) ≡ true = search rules in
    let bad : command_of c.args.route.now (request_view c.args.request.now).body ≡ None = search rules in
    rw (found, class, bad) (refl, (c.caller_of.ensures.keeps.same sure, c.caller_of.ensures.known sure knows))
