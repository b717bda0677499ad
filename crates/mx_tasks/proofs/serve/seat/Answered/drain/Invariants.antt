use Rattle.std.proofs.Common.{◌≡◌, ℕ, List}
use Rattle.std.specs.Prelude.{IfSome}
use Rattle.mx_tasks.specs.Clients.{IsPrefix}
use Rattle.mx_tasks.specs.Seats.{IsSentSo, WaitsOn, answer_of}
use Rattle.mx_tasks.proofs.serve.seat.Answered.drain.Given as goal

abbrev pub invariant-reads : goal.invariant-reads
invariant-reads g l = record {
  answer : answer_of l.self ≡ answer_of l.fn.self;
  sent : IsSentSo g.S.Connection.written l.fn.self → IsSentSo g.S.Connection.written l.self;
  received : (came : List ℕ) → IfSome (g.S.Connection.received l.fn.self.stream) (IsPrefix came) → IfSome (g.S.Connection.received l.self.stream) (IsPrefix came);
  waits : WaitsOn l.now l.fn.self l.self;
}
