use Rattle.std.proofs.Common.{arith, refl}
use Rattle.mx_tasks.specs.Halls.{Always, hall}
use Rattle.mx_tasks.proofs.HallLemmas.{tends_none, tends_same, tends_then}
use Rattle.mx_tasks.proofs.serve.reception.Reception.keep_time.Goals as goal

pub returns-clause-tends : goal.returns-clause-tends
returns-clause-tends g c = tends_none g.S.Connection.received g.S.Connection.written _

pub returns-2-clause-tends : goal.returns-2-clause-tends
returns-2-clause-tends g c =
    let r = g.S.Connection.received in
    let w = g.S.Connection.written in
    let was = c.args.self.now in
    let same = tends_same r w (hall g.L.Listener.clients was) (record { places = was.places.items; clients = g.L.Listener.clients was.listener; taken = was.taken; ended = was.ended; count = was.count }) refl refl refl refl refl in
    tends_then r w Always 0 0 same c.sweep.ensures.tends (λ xs was so. (tt, tt)) (omega arith)
