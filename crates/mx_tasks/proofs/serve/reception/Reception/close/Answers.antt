use Rattle.std.proofs.Common.{refl, arith}
use Rattle.mx_tasks.specs.Halls.{hall}
use Rattle.mx_tasks.proofs.HallLemmas.{closes}
use Rattle.mx_tasks.proofs.serve.reception.Reception.close.Goals as goal

pub returns-clause-tends : goal.returns-clause-tends
returns-clause-tends g c =
    let tells = c.ended.ensures in
    closes g.S.Connection.received g.S.Connection.written c.args.seat (hall g.L.Listener.clients c.args.self.now) _ refl (rw c.into_stream.ensures at tells) (let more = c.saturating_add-self.ensures in omega (arith, more)) refl refl
