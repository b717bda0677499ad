use Rattle.std.proofs.Common.{◌≡◌, ◌≤◌, [], length}
use Rattle.mx_tasks.specs.Connections.{Gathers}
use Rattle.mx_tasks.specs.Halls.{hall}
use Rattle.mx_tasks.proofs.serve.round.gather.Given as goal

abbrev pub invariant-looks : goal.invariant-looks
invariant-looks g l = record {
  gathers : Gathers g.B.Book.fails g.S.Connection.received g.S.Connection.written (g.B.Book.view l.fn.office.book) (g.B.Book.view l.office.book) l.fn.desk.workspace.callers l.desk.workspace.callers
      (hall g.L.Listener.clients l.fn.reception) (hall g.L.Listener.clients l.reception) [] l.round.items;
  few : length l.round.items ≤ 64;
  unmoved : length l.round.items ≡ 0 → (l.office ≡ l.fn.office) × (l.desk.workspace.callers ≡ l.fn.desk.workspace.callers);
  quiet : l.reception.alarm ≡ l.fn.reception.alarm;
}
