use Rattle.std.proofs.Common.{ℕ, ◌<◌}
use Rattle.sqlite_wal.specs.Recovery.{Passes}
use Rattle.mx_log.proofs.damage.first_broken.Given as goal

abbrev pub invariant-loop-i : goal.invariant-loop-i
invariant-loop-i l = (i : ℕ) → i < l.i → Passes l.size l.log i
