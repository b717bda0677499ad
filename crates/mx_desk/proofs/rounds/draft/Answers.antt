use Rattle.std.proofs.Common.{refl}
use Rattle.mx_desk.specs.Found.{request_view}
use Rattle.mx_desk.specs.declared.held.Held.{Held}
use Rattle.mx_desk.proofs.RoundLemmas.{held_for, holds_one}
use Rattle.mx_desk.proofs.rounds.draft.Goals as goal

pub returns-clause-holds : goal.returns-clause-holds
returns-clause-holds g c =
    let h : Held = record { response = c.answer_request-response.result; method = c.args.request.now.method; routed = c.is_some-routed.result } in
    let found = c.route-route.ensures in
    let answered = c.answer_request-response.ensures in
    holds_one g.B.Book.fails _ _ _ _ h (request_view c.args.request.now) answered.later answered.bides
    (held_for _ _ c.route-route.result (request_view c.args.request.now) c.is_some-routed.ensures found answered.no_route) refl
    (λ sure knows. answered.answers sure knows found)
