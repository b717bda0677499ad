use Rattle.std.proofs.Common.{ℕ, ◌<◌, Bool, slice_index}
use Rattle.sqlite_wal.specs.Recovery.{frame, sum_before}
use Rattle.mx_log.specs.Damage.{GoesOn, IsIn, page_sizes}
use Rattle.mx_log.proofs.damage.has_frame.Given as goal

abbrev pub invariant-loop-size : goal.invariant-loop-size
invariant-loop-size l = (place : ℕ) → place < l.size-index → (big : Bool) (i : ℕ) →
    let size = slice_index page_sizes place in
    IsIn size l.log i → GoesOn big (sum_before size l.log i) (frame size l.log i) → ⊥
