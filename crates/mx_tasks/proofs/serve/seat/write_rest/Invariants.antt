use Rattle.std.proofs.Common.{◌≡◌, ◌≤◌, ◌-◌, length, take}
use Rattle.mx_tasks.specs.Clients.{IsKnown}
use Rattle.mx_tasks.proofs.serve.seat.write_rest.Given as goal

abbrev pub invariant-writes : goal.invariant-writes
invariant-writes g l = record {
  sent : l.fn.sent ≤ length l.text → l.sent ≤ length l.text;
  bytes : IsKnown (g.S.Connection.written l.fn.stream) (take l.fn.sent l.text) → IsKnown (g.S.Connection.written l.stream) (take l.sent l.text);
  received : g.S.Connection.received l.stream ≡ g.S.Connection.received l.fn.stream;
}

abbrev pub decreases-writes : goal.decreases-writes
decreases-writes g l = length l.text - l.sent
