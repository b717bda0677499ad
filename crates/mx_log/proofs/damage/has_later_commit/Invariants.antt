use Rattle.std.proofs.Common.{ℕ, ◌+◌, ◌≤◌, ◌↔◌, IsTrue}
use Rattle.mx_log.specs.Damage.{Begins, IsWhole}
use Rattle.mx_log.proofs.damage.has_later_commit.Given as goal

abbrev pub invariant-loop-next : goal.invariant-loop-next
invariant-loop-next l =
    (l.next ≤ l.count)
    × (IsTrue l.is_whole ↔ IsWhole l.size l.log l.next)
    × ((behind : ℕ) → l.stop.broken ≤ behind → l.next ≤ behind + 1
    → Begins l.size l.log l.stop.broken behind → IsWhole l.size l.log (behind + 1) → ⊥)

abbrev pub decreases-loop-next : goal.decreases-loop-next
decreases-loop-next l = l.next
