use Rattle.std.proofs.Common.{ap, ◌∙◌}
use Rattle.mx_tasks.specs.Halls.{hall}
use Rattle.mx_tasks.proofs.HallLemmas.{frees, vacates}
use Rattle.mx_tasks.proofs.serve.reception.Reception.clear.Goals as goal

pub returns-in-Some-clause-tends : goal.returns-in-Some-clause-tends
returns-in-Some-clause-tends g c =
    let r = g.S.Connection.received in
    let w = g.S.Connection.written in
    let rest = c.vacate.ensures.rest in
    let out = vacates r w c.vacate.result (hall g.L.Listener.clients c.args.self.now) (hall g.L.Listener.clients c.vacate.new.self) (ap g.L.Listener.clients rest.0) rest.1 rest.2 rest.3 c.vacate.ensures.seats c.vacate.ensures.asking in
    let seats = c.vacate.ensures.seats in
    let seats = rw c.in-Some.is at seats in
    frees r w c.in-Some.seat (rw c.in-Some.is at out) (λ xs was. (seats xs was).0) c.leave.ensures.tends

pub returns-in_default-clause-tends : goal.returns-in_default-clause-tends
returns-in_default-clause-tends g c =
    let r = g.S.Connection.received in
    let w = g.S.Connection.written in
    let rest = c.vacate.ensures.rest in
    let out = vacates r w c.vacate.result (hall g.L.Listener.clients c.args.self.now) (hall g.L.Listener.clients c.vacate.new.self) (ap g.L.Listener.clients rest.0) rest.1 rest.2 rest.3 c.vacate.ensures.seats c.vacate.ensures.asking in
    rw c.in_default.is at out

pub returns-in-Some-clause-quiet : goal.returns-in-Some-clause-quiet
returns-in-Some-clause-quiet g c = c.leave.ensures.quiet ∙ c.vacate.ensures.rest.4
