use Rattle.std.proofs.Common.{◌≡◌}
use Rattle.mx_tasks.specs.Halls.{Always, Tends, hall}
use Rattle.mx_tasks.proofs.serve.reception.Reception.look_back.Given as goal

abbrev pub invariant-told : goal.invariant-told
invariant-told g l = record {
  tends : Tends g.S.Connection.received g.S.Connection.written Always 0 0 (hall g.L.Listener.clients l.fn.self) (hall g.L.Listener.clients l.self);
  quiet : l.self.alarm ≡ l.fn.self.alarm;
}
