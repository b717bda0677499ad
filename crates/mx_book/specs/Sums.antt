-- Sums over the values of a map.
use Rattle.std.specs.Prelude.{ℕ, sum_by}
use Rattle.std.specs.declared.cmp.Ordering.{Ordering}
use Rattle.std.specs.FinMap as fmap

-- the sum of a number of each key and value
unfoldable pub sum_entries : {K X : Type 0} {R : K → K → Ordering} → (K → X → ℕ) → fmap.FinMap R X → ℕ
sum_entries f m = sum_by (λ e. f e.0 e.1) (fmap.entries m)

-- the sum of a number of each value
unfoldable pub sum_values : {K X : Type 0} {R : K → K → Ordering} → (X → ℕ) → fmap.FinMap R X → ℕ
sum_values f m = sum_by (λ e. f e.1) (fmap.entries m)
