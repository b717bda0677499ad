use Rattle.std.proofs.Common.{◌≡◌, take}
use Rattle.std.specs.Io.KnownBytes.{Appends}
use Rattle.mx_desk.specs.Held.{texts}
use Rattle.mx_desk.proofs.rounds.write_all.Given as goal

abbrev pub invariant-loop-one : goal.invariant-loop-one
invariant-loop-one g l = record {
  sent : Appends (g.W.Write.contents l.fn.writer.device) (g.W.Write.contents l.writer.device) (texts l.kept (take l.one-index l.held));
  failures : l.writer.failures ≡ l.fn.writer.failures;
}
