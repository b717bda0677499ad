use Rattle.mx_tables.proofs.Common.{◌≡◌, ◌<◌, ℕ}
use Rattle.std.proofs.Common.{get_or}
use Rattle.mx_tables.proofs.same.same_items.Given as goal

abbrev pub invariant-loop-i : goal.invariant-loop-i
invariant-loop-i g l = (k : ℕ) (d : g.row.T.Denot) → k < l.i → get_or l.a k d ≡ get_or l.b k d
