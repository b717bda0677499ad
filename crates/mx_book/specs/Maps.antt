-- The entries of a finite map that are picked, each with a new value.
use Rattle.std.specs.Prelude.{List, [], ◌∷◌, Option, Some, None}
use Rattle.std.specs.declared.cmp.Ordering.{Ordering}
use Rattle.std.specs.FinMap as fmap

-- an entry where there is a new value for it
abbrev pub with_picked : {K Y : Type 0} → K → Option Y → List (K × Y) → List (K × Y)
with_picked k None es = es
with_picked k (Some y) es = (k, y) ∷ es

-- the entries that f gives a value, with that value
abbrev pub picked : {K X Y : Type 0} → (X → Option Y) → List (K × X) → List (K × Y)
picked f [] = []
picked f (e ∷ es) = with_picked e.0 (f e.1) (picked f es)

-- the map of the entries that f gives a value
abbrev pub pick : {K X Y : Type 0} {R : K → K → Ordering} → (X → Option Y) → fmap.FinMap R X → fmap.FinMap R Y
pick f m = fmap.from_sorted (picked f (fmap.entries m))
