use Rattle.std.proofs.Common.{arith, refl}
use Rattle.mx_tasks.specs.Halls.{hall}
use Rattle.mx_tasks.specs.Seats.{IsFresh}
use Rattle.mx_tasks.proofs.HallLemmas.{tends_same, tends_then}
use Rattle.mx_tasks.proofs.serve.reception.Reception.seat.Goals as goal

pub returns-then-watch-clause-tends : goal.returns-then-watch-clause-tends
returns-then-watch-clause-tends g c =
    let r = g.S.Connection.received in
    let w = g.S.Connection.written in
    let was = c.args.self.now in
    let watched = tends_same r w (hall g.L.Listener.clients was) (record { places = was.places.items; clients = g.L.Listener.clients c.watch.new.self; taken = was.taken; ended = was.ended; count = was.count }) refl c.watch.ensures.clients refl refl refl in
    tends_then r w (λ _. IsFresh r w c.args.visitor) 1 0 watched c.put.ensures.tends (λ xs was so. (tt, rw (c.watch.ensures.received, c.watch.ensures.written) so)) (omega arith)

pub returns-else-watch-clause-tends : goal.returns-else-watch-clause-tends
returns-else-watch-clause-tends g c =
    let r = g.S.Connection.received in
    let w = g.S.Connection.written in
    let was = c.args.self.now in
    let watched = tends_same r w (hall g.L.Listener.clients was) (record { places = was.places.items; clients = g.L.Listener.clients c.watch.new.self; taken = was.taken; ended = was.ended; count = was.count }) refl c.watch.ensures.clients refl refl refl in
    tends_then r w (λ _. IsFresh r w c.args.visitor) 1 0 watched c.leave.ensures.tends (λ xs was so. (tt, rw c.watch.ensures.written so.1)) (omega arith)
