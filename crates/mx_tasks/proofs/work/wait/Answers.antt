use Rattle.std.proofs.Common.{arith, refl}
use Rattle.mx_tasks.specs.Halls.{Always, hall}
use Rattle.mx_tasks.proofs.HallLemmas.{tends_none, tends_same, tends_then}
use Rattle.mx_tasks.proofs.work.wait.Goals as goal

pub returns-in_err-wait-clause-tends : goal.returns-in_err-wait-clause-tends
returns-in_err-wait-clause-tends g c = tends_same g.S.Connection.received g.S.Connection.written (hall g.L.Listener.clients c.args.reception.now) _ refl c.wait.ensures refl refl refl

-- before it is waited
pub returns-in_err-now-clause-tends : goal.returns-in_err-now-clause-tends
returns-in_err-now-clause-tends g c = tends_none g.S.Connection.received g.S.Connection.written _

pub returns-in_err-now-2-clause-tends : goal.returns-in_err-now-2-clause-tends
returns-in_err-now-2-clause-tends g c = tends_same g.S.Connection.received g.S.Connection.written (hall g.L.Listener.clients c.args.reception.now) _ refl c.wait.ensures refl refl refl

pub returns-clause-tends : goal.returns-clause-tends
returns-clause-tends g c =
    let r = g.S.Connection.received in
    let w = g.S.Connection.written in
    let was = c.args.reception.now in
    let waited = tends_same r w (hall g.L.Listener.clients was) (record { places = was.places.items; clients = g.L.Listener.clients c.wait.new.self; taken = was.taken; ended = was.ended; count = was.count }) refl c.wait.ensures refl refl refl in
    let looked = tends_then r w Always 0 0 waited c.look_back.ensures.tends (λ xs was so. (tt, tt)) (omega arith) in
    tends_then r w Always 0 0 looked c.keep_time.ensures.tends (λ xs was so. (tt, tt)) (omega arith)
