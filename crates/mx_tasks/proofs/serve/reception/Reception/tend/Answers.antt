use Rattle.mx_tasks.proofs.HallLemmas.{tends_as}
use Rattle.mx_tasks.proofs.SeatLemmas.{goes_on}
use Rattle.mx_tasks.proofs.serve.reception.Reception.tend.Goals as goal

pub returns-then-advance-clause-tends : goal.returns-then-advance-clause-tends
returns-then-advance-clause-tends g c =
    let r = g.S.Connection.received in
    let w = g.S.Connection.written in
    let on = c.advance.ensures in
    tends_as r w _ (λ xs was so. goes_on r w xs c.args.answered c.advance.new.self on.answer on.sent on.received so) c.keep.ensures.tends

pub returns-else-advance-clause-tends : goal.returns-else-advance-clause-tends
returns-else-advance-clause-tends g c =
    let r = g.S.Connection.received in
    let w = g.S.Connection.written in
    let on = c.advance.ensures in
    tends_as r w _ (λ xs was so. goes_on r w xs c.args.answered c.advance.new.self on.answer on.sent on.received so) c.leave.ensures.tends
