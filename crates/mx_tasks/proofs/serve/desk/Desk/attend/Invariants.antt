use Rattle.std.proofs.Common.{◌≡◌}
use Rattle.mx_tasks.specs.Seats.{IsFresh}
use Rattle.mx_tasks.proofs.serve.desk.Desk.attend.Given as goal

abbrev pub invariant-reads : goal.invariant-reads
invariant-reads g l = record {
  fresh : IsFresh g.S.Connection.received g.S.Connection.written l.fn.visitor → IsFresh g.S.Connection.received g.S.Connection.written l.visitor;
  office : l.office ≡ l.fn.office;
  callers : l.self.workspace.callers ≡ l.fn.self.workspace.callers;
}
