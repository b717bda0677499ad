-- A row that has a number, the types of its table and these columns is one that stores these cells.
use Rattle.std.proofs.Common.{◌≡◌, ℕ, ℤ, ◌+◌, ◌≤◌, suc, true, List, [], ◌∷◌, Option, length, drop, refl, ap, ap₂, arith}
use Rattle.std.specs.Prelude.{IsTrue}
use Rattle.std.specs.List.{AllByRecursion}
use Rattle.std.specs.Cmp.{second_so}
use Rattle.sqlite_value.specs.declared.value.Value.{Value}
use Rattle.sqlite_value.specs.declared.value.Value.TheVariants.{Null, Int, Real, Text, Blob}
use Rattle.sqlite_value.specs.Order.{Row, column}
use Rattle.sqlite_trees.specs.Tree.{rowid}
use Rattle.sqlite_trees.specs.View.{is_int}
use Rattle.sqlite_schema.specs.declared.schema.Column.{Column}
use Rattle.sqlite_schema.specs.Rules.{are_typed}

-- these values stand in the columns from the n-th on
abbrev pub At : Row → ℕ → Row → Type 0
At r n [] = Unit {0}
At r n (v ∷ vs) = (column r n ≡ v) × At r (suc n) vs

abbrev pub IsPresent : Value → Type 0
IsPresent Null = ⊥
IsPresent (Int n) = Unit {0}
IsPresent (Real x) = Unit {0}
IsPresent (Text t) = Unit {0}
IsPresent (Blob b) = Unit {0}

behind : (x : Value) (r : Row) (n : ℕ) (cells : Row) → At (x ∷ r) (suc n) cells → At r n cells
behind x r n [] h = tt
behind x r n (v ∷ vs) h = (h.0, behind x r (suc n) vs h.1)

no_column : (v : Value) → Null ≡ v → IsPresent v → ⊥
no_column Null is h = h
no_column (Int n) is h = cc
no_column (Real x) is h = cc
no_column (Text t) is h = cc
no_column (Blob b) is h = cc

same_cells : (r cells : Row) → At r 0 cells → AllByRecursion IsPresent cells → length r ≤ length cells → r ≡ cells
same_cells [] [] h there few = refl
same_cells [] (v ∷ vs) h there few = absurd (no_column v h.0 there.0)
same_cells (x ∷ r) [] h there few = absurd (omega (arith, few))
same_cells (x ∷ r) (v ∷ vs) h there few = ap₂ ◌∷◌ h.0 (same_cells r vs (behind x r 0 vs h.1) there.1 (omega (arith, few)))

-- a row has no column more than its table
pub few_columns : (key : Option ℕ) (at : ℕ) (cs : List Column) (vs : Row) → are_typed key at cs vs ≡ true → length vs ≤ length cs
few_columns key at [] [] h = omega arith
few_columns key at [] (v ∷ vs) h = absurd (cc)
few_columns key at (c ∷ cs) [] h = omega arith
few_columns key at (c ∷ cs) (v ∷ vs) h = let rest = few_columns key (at + 1) cs vs (second_so _ _ h) in omega (arith, rest)

pub stores_cells : (row cells : Row) → IsTrue (is_int (rowid row)) → length (drop 1 row) ≤ length cells → AllByRecursion IsPresent cells → At row 1 cells → (id : ℤ) × (row ≡ Int id ∷ cells)
stores_cells [] cells number few there h = absurd (cc)
stores_cells (Int id ∷ r) cells number few there h = (id, ap (λ (vs : Row). Int id ∷ vs) (same_cells r cells (behind (Int id) r 0 cells h) there few))
stores_cells (Null ∷ r) cells number few there h = absurd (cc)
stores_cells (Real x ∷ r) cells number few there h = absurd (cc)
stores_cells (Text t ∷ r) cells number few there h = absurd (cc)
stores_cells (Blob b ∷ r) cells number few there h = absurd (cc)
