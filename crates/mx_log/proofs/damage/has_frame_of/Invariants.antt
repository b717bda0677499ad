use Rattle.std.proofs.Common.{ℕ, ◌<◌}
use Rattle.sqlite_wal.specs.Recovery.{frame, sum_before}
use Rattle.mx_log.specs.Damage.{GoesOn}
use Rattle.mx_log.proofs.damage.has_frame_of.Given as goal

abbrev pub invariant-loop-i : goal.invariant-loop-i
invariant-loop-i l = (i : ℕ) → i < l.i → GoesOn l.is_big (sum_before l.size l.log i) (frame l.size l.log i) → ⊥
