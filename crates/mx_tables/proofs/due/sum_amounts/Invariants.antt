use Rattle.mx_tables.proofs.Common.{◌≡◌, ◌≤◌, take, going}
use Rattle.std.specs.FinMap as fmap
use Rattle.std.specs.Prelude.{◌*◌, sum_by}
use Rattle.mx_memory.specs.Due.{amount_at}
use Rattle.mx_pay.specs.Limits.{most_amount}
use Rattle.mx_tables.specs.Cached.{ReadsThrough}
use Rattle.mx_tables.specs.declared.cache.Cache.{Cache}
use Rattle.mx_tables.proofs.due.sum_amounts.Given as goal

-- the sum is that of the redemptions so far, and no amount is too large
abbrev pub invariant-loop-key : goal.invariant-loop-key
invariant-loop-key g l =
    ((k : Cache) → ReadsThrough g.S.Store l.initial.conn l.conn k k going (λ r w _. l.sum ≡ sum_by (λ key. amount_at (fmap.get r.redemptions key)) (take l.key-index l.keys)))
    × (l.sum ≤ l.key-index * most_amount)
