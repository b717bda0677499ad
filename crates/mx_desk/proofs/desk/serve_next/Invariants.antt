use Rattle.std.proofs.Common.{◌≡◌, ◌+◌, ◌≤◌, ◌<◌, ℕ, List, [], ◌++◌, length, true, false}
use Rattle.std.specs.Io.KnownBytes.{Appends, Consumes, IsAtEnd}
use Rattle.mx_desk.specs.Devices.{capped}
use Rattle.mx_desk.proofs.desk.serve_next.Given as goal

abbrev pub invariant-pieces : goal.invariant-pieces
invariant-pieces g l = record {
  came : (came : List ℕ) × Consumes (g.R.Read.remaining l.fn.reader.device) (g.R.Read.remaining l.reader.device) came × (l.input ≡ l.fn.input ++ came);
  reads : (reads : ℕ) × (l.fn.turns ≡ l.turns + reads) × (0 < reads → reads + length l.fn.input ≤ 12288) × (l.reader.calls ≡ capped (l.fn.reader.calls + reads)) × (l.ended ≡ false → reads + length l.fn.input ≤ length l.input) × (reads ≡ 0 → l.input ≡ l.fn.input);
  ended : l.ended ≡ true → IsAtEnd (g.R.Read.remaining l.reader.device);
  read_failures : l.reader.failures ≡ l.fn.reader.failures;
  write_failures : l.writer.failures ≡ l.fn.writer.failures;
  wrote : Appends (g.W.Write.contents l.fn.writer.device) (g.W.Write.contents l.writer.device) [];
  office : l.office ≡ l.fn.office;
  callers : l.workspace.callers ≡ l.fn.workspace.callers;
  alone : l.workspace.round.alone ≡ l.fn.workspace.round.alone;
}

abbrev pub decreases-pieces : goal.decreases-pieces
decreases-pieces g l = l.turns
