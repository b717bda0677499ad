-- Where a key stands among rows.
use Rattle.std.specs.Prelude.{◌≡◌, ℕ, ◌+◌, ◌<◌, ◌≤◌, List, ◌∷◌, ◌++◌, length, take, drop, Some, None, slice_get, not}
use Rattle.std.specs.declared.vec.Vec.{Vec}
use Rattle.std.specs.declared.cmp.Ordering.{Ordering}
use Rattle.std.specs.declared.cmp.Ordering.TheVariants.{Less, Greater}
use Rattle.std.specs.List.{AllByRecursion}
use Rattle.std.specs.Ordering.{eq_by_cmp}
use Rattle.std.specs.FinMap.{find}
use Rattle.std.specs.FinMap.Entries.{put, where_key}
use Rattle.mx_sorted.specs.Blocks.{rows_in, rows_from}
use Rattle.mx_sorted.specs.declared.blocks.Found.{Found}
use Rattle.mx_sorted.specs.declared.blocks.Found.TheVariants.{At, Before}

-- the key comes after each of these rows
abbrev pub IsAfter : {K V : Type 0} → (K → K → Ordering) → K → List (K × V) → Type 0
IsAfter R key = AllByRecursion (λ e. R key e.0 ≡ Greater)

-- the key comes before each of these rows
abbrev pub IsBefore : {K V : Type 0} → (K → K → Ordering) → K → List (K × V) → Type 0
IsBefore R key = AllByRecursion (λ e. R key e.0 ≡ Less)

-- the rows but that of the key
abbrev pub without : {K V : Type 0} → (K → K → Ordering) → K → List (K × V) → List (K × V)
without R key = where_key R (λ x. not (eq_by_cmp R key x))

-- the row there has the key
pub record IsAt {K V : Type 0} (R : K → K → Ordering) (key : K) (rows : List (K × V)) (i : ℕ) : Type 0 where
  pub within : i < length rows
  pub put_is : (old : K × V) → slice_get rows i ≡ Some old → (v : V) → put R key v rows ≡ take i rows ++ (old.0, v) ∷ drop (i + 1) rows
  pub find_is : (old : K × V) → slice_get rows i ≡ Some old → find R key rows ≡ Some old.1
  pub without_is : without R key rows ≡ take i rows ++ drop (i + 1) rows
  pub from_is : rows_from R key rows ≡ drop i rows

-- no row has the key, and its row would stand there
pub record IsAhead {K V : Type 0} (R : K → K → Ordering) (key : K) (rows : List (K × V)) (i : ℕ) : Type 0 where
  pub within : i ≤ length rows
  pub put_is : (v : V) → put R key v rows ≡ take i rows ++ (key, v) ∷ drop i rows
  pub find_is : find R key rows ≡ None
  pub without_is : without R key rows ≡ rows
  pub from_is : rows_from R key rows ≡ drop i rows

-- At i: the row there has the key. Before i: its row would stand there
abbrev pub MatchPlace : {K V : Type 0} → (K → K → Ordering) → K → List (K × V) → Found → Type 0
MatchPlace R key rows (At i) = IsAt R key rows i
MatchPlace R key rows (Before i) = IsAhead R key rows i

-- the row of the key is in the block at i, or would stand there
pub record IsBlockFor {K V Z : Type 0} (R : K → K → Ordering) (key : K) (blocks : List (Vec (K × V) Z)) (i : ℕ) : Type 0 where
  pub within : i < length blocks
  pub after : IsAfter R key (rows_in (take i blocks))
  pub before : IsBefore R key (rows_in (drop (i + 1) blocks))
