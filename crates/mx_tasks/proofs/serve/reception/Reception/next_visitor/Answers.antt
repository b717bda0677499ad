use Rattle.std.proofs.Common.{arith, refl, ◌∙◌}
use Rattle.mx_tasks.specs.Halls.{Always, hall}
use Rattle.mx_tasks.proofs.HallLemmas.{tends_none, tends_same, tends_then}
use Rattle.mx_tasks.proofs.serve.reception.Reception.next_visitor.Goals as goal
use Rattle.mx_tasks.proofs.serve.reception.Reception.next_visitor.Goals.{in-Some-Clients, in-Some-Place+in_default}

pub events-init : goal.events-init
events-init g c = record { tends = tends_none g.S.Connection.received g.S.Connection.written _; quiet = refl }

pub returns-in-None-clause-tends : goal.returns-in-None-clause-tends
returns-in-None-clause-tends g c =
    let r = g.S.Connection.received in
    let w = g.S.Connection.written in
    let next = tends_same r w (hall g.L.Listener.clients c.events.self) (record { places = c.events.self.places.items; clients = g.L.Listener.clients c.next.new.self; taken = c.events.self.taken; ended = c.events.self.ended; count = c.events.self.count }) refl c.next.ensures refl refl refl in
    tends_then r w Always 0 _ (tends_then r w Always 0 0 c.events.invariant.tends next (λ xs was so. (tt, tt)) (omega arith)) c.take_client.ensures.tends (λ xs was so. (tt, tt)) (omega arith)

pub returns-in-Some-clause-tends : goal.returns-in-Some-clause-tends
returns-in-Some-clause-tends g c =
    let r = g.S.Connection.received in
    let w = g.S.Connection.written in
    let next = tends_same r w (hall g.L.Listener.clients c.events.self) (record { places = c.events.self.places.items; clients = g.L.Listener.clients c.next.new.self; taken = c.events.self.taken; ended = c.events.self.ended; count = c.events.self.count }) refl c.next.ensures refl refl refl in
    let out = c.turn_to.ensures.tends in
    tends_then r w Always 0 1 (tends_then r w Always 0 0 c.events.invariant.tends next (λ xs was so. (tt, tt)) (omega arith)) (rw c.in-Some.is at out) (λ xs was so. (tt, tt)) (omega arith)

pub returns-in-Some-clause-fresh : goal.returns-in-Some-clause-fresh
returns-in-Some-clause-fresh g c = λ xs was.
    let fresh = c.turn_to.ensures.fresh xs (c.events.invariant.tends.told xs was tt) in
    rw c.in-Some.is at fresh

pub events-preserved : goal.events-preserved
events-preserved g c =
    let r = g.S.Connection.received in
    let w = g.S.Connection.written in
    let had = c.events.invariant in
    let next = tends_same r w (hall g.L.Listener.clients c.events.self) (record { places = c.events.self.places.items; clients = g.L.Listener.clients c.next.new.self; taken = c.events.self.taken; ended = c.events.self.ended; count = c.events.self.count }) refl c.next.ensures refl refl refl in
    let now = tends_then r w Always 0 0 had.tends next (λ xs was so. (tt, tt)) (omega arith) in
    elim c.match-next-2.branch [
      | in-Some-Clients b ↦ rw b.self-is (record { tends = now; quiet = had.quiet })
      | in-Some-Place+in_default b ↦
          let out = b.turn_to.ensures.tends in
          rw b.self-is (record { tends = tends_then r w Always 0 0 now (rw b.in_default.is at out) (λ xs was so. (tt, tt)) (omega arith); quiet = b.turn_to.ensures.quiet ∙ had.quiet })
    ]
