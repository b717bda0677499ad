use Rattle.std.proofs.Common.{ℕ, ◌<◌, ◌≤◌}
use Rattle.mx_log.specs.Damage.{IsOpen}
use Rattle.mx_log.proofs.damage.first_shut.Given as goal

abbrev pub invariant-loop-i : goal.invariant-loop-i
invariant-loop-i l = (i : ℕ) → l.from ≤ i → i < l.i → IsOpen l.size l.log i
