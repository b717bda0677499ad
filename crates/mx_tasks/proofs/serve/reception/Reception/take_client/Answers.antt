use Rattle.std.proofs.Common.{◌+◌, refl, arith}
use Rattle.mx_tasks.specs.Halls.{Always, hall}
use Rattle.mx_tasks.proofs.HallLemmas.{comes, tends_none, tends_same, tends_then}
use Rattle.mx_tasks.proofs.serve.reception.Reception.take_client.Goals as goal

pub returns-then-not-self-clause-tends : goal.returns-then-not-self-clause-tends
returns-then-not-self-clause-tends g c = tends_none g.S.Connection.received g.S.Connection.written _

-- there is no place
pub returns-in_default-clause-tends : goal.returns-in_default-clause-tends
returns-in_default-clause-tends g c = tends_none g.S.Connection.received g.S.Connection.written _

pub returns-in_default-accept-clause-tends : goal.returns-in_default-accept-clause-tends
returns-in_default-accept-clause-tends g c =
    let next = c.accept.ensures in
    tends_same g.S.Connection.received g.S.Connection.written (hall g.L.Listener.clients c.args.self.now) _ refl (rw c.in_default-accept.is at next) refl refl refl

pub returns-clause-tends : goal.returns-clause-tends
returns-clause-tends g c =
    let r = g.S.Connection.received in
    let w = g.S.Connection.written in
    let next = c.accept.ensures in
    let less = c.if-self.false in
    let come = comes r w (hall g.L.Listener.clients c.args.self.now) (record { places = c.args.self.now.places.items; clients = g.L.Listener.clients c.accept.new.self; taken = c.args.self.now.taken + 1; ended = c.args.self.now.ended; count = c.args.self.now.count })
    (r c.in-Some-accept.stream) (w c.in-Some-accept.stream) (rw c.in-Some-accept.is at next) refl less refl refl refl in
    tends_then r w Always 0 1 come c.clear.ensures.tends (λ xs was so. (tt, tt)) (omega arith)

pub returns-clause-fresh : goal.returns-clause-fresh
returns-clause-fresh g c =
    let next = c.accept.ensures in
    let come = rw c.in-Some-accept.is at next in
    (rw (c.new.ensures.none, c.new.ensures.stream) come.2, rw c.new.ensures.stream come.3)
