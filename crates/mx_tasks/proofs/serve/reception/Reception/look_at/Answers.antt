use Rattle.std.proofs.Common.{arith, ◌∙◌}
use Rattle.mx_tasks.specs.Halls.{Always}
use Rattle.mx_tasks.proofs.HallLemmas.{tends_then}
use Rattle.mx_tasks.proofs.serve.reception.Reception.look_at.Goals as goal

pub returns-in-Some-clause-tends : goal.returns-in-Some-clause-tends
returns-in-Some-clause-tends g c =
    let r = g.S.Connection.received in
    let w = g.S.Connection.written in
    let turned = c.turn_to.ensures.tends in
    let fresh = c.turn_to.ensures.fresh in
    let fresh = rw c.in-Some.is at fresh in
    tends_then r w Always 0 0 (rw c.in-Some.is at turned) c.put.ensures.tends (λ xs was so. (tt, fresh xs was)) (omega arith)

pub returns-in-Some-clause-quiet : goal.returns-in-Some-clause-quiet
returns-in-Some-clause-quiet g c = c.put.ensures.quiet ∙ c.turn_to.ensures.quiet

pub returns-in_default-clause-tends : goal.returns-in_default-clause-tends
returns-in_default-clause-tends g c = let turned = c.turn_to.ensures.tends in rw c.in_default.is at turned
