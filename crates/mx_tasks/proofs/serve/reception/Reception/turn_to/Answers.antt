use Rattle.std.proofs.Common.{ap, arith, ◌∙◌}
use Rattle.mx_tasks.specs.Halls.{Always, hall}
use Rattle.mx_tasks.proofs.HallLemmas.{tends_then, vacates}
use Rattle.mx_tasks.proofs.serve.reception.Reception.turn_to.Goals as goal

pub returns-in-Some-Asking-clause-tends : goal.returns-in-Some-Asking-clause-tends
returns-in-Some-Asking-clause-tends g c =
    let r = g.S.Connection.received in
    let w = g.S.Connection.written in
    let rest = c.vacate.ensures.rest in
    let out = vacates r w c.vacate.result (hall g.L.Listener.clients c.args.self.now) (hall g.L.Listener.clients c.vacate.new.self) (ap g.L.Listener.clients rest.0) rest.1 rest.2 rest.3 c.vacate.ensures.seats c.vacate.ensures.asking in
    rw c.in-Some-Asking.field-0-is at (rw c.in-Some-Asking.is at out)

pub returns-in-Some-Asking-clause-fresh : goal.returns-in-Some-Asking-clause-fresh
returns-in-Some-Asking-clause-fresh g c = λ xs was. let seats = (c.vacate.ensures.seats xs was).0 in rw c.in-Some-Asking.field-0-is at (rw c.in-Some-Asking.is at seats)

pub returns-in-Some-Taking-clause-tends : goal.returns-in-Some-Taking-clause-tends
returns-in-Some-Taking-clause-tends g c =
    let r = g.S.Connection.received in
    let w = g.S.Connection.written in
    let rest = c.vacate.ensures.rest in
    let out = vacates r w c.vacate.result (hall g.L.Listener.clients c.args.self.now) (hall g.L.Listener.clients c.vacate.new.self) (ap g.L.Listener.clients rest.0) rest.1 rest.2 rest.3 c.vacate.ensures.seats c.vacate.ensures.asking in
    let seats = c.vacate.ensures.seats in
    let seats = rw c.in-Some-Taking.field-0-is at (rw c.in-Some-Taking.is at seats) in
    tends_then r w Always 0 0 (rw c.in-Some-Taking.field-0-is at (rw c.in-Some-Taking.is at out)) c.tend.ensures.tends (λ xs was so. (tt, (seats xs was).0)) (omega arith)

pub returns-in-Some-Taking-clause-quiet : goal.returns-in-Some-Taking-clause-quiet
returns-in-Some-Taking-clause-quiet g c = c.tend.ensures.quiet ∙ c.vacate.ensures.rest.4

pub returns-in-None-clause-tends : goal.returns-in-None-clause-tends
returns-in-None-clause-tends g c =
    let r = g.S.Connection.received in
    let w = g.S.Connection.written in
    let rest = c.vacate.ensures.rest in
    let out = vacates r w c.vacate.result (hall g.L.Listener.clients c.args.self.now) (hall g.L.Listener.clients c.vacate.new.self) (ap g.L.Listener.clients rest.0) rest.1 rest.2 rest.3 c.vacate.ensures.seats c.vacate.ensures.asking in
    rw c.in-None.is at out
