-- A finite map whose keys are pairs, under one first key; and a map with new values.
use Rattle.std.specs.Prelude.{Bool, true, false, List, [], ◌∷◌}
use Rattle.std.specs.declared.cmp.Ordering.{Ordering}
use Rattle.std.specs.Ordering.{ordering_then, eq_by_cmp}
use Rattle.std.specs.FinMap as fmap

-- pairs by their first parts, and where these are equal by the second
abbrev pub pair_cmp : {A K : Type 0} → (A → A → Ordering) → (K → K → Ordering) → A × K → A × K → Ordering
pair_cmp P R a b = ordering_then (P a.0 b.0) (R a.1 b.1)

-- an entry under its second key, where it is one of those
abbrev pub with_second : {A K V : Type 0} → Bool → (A × K) × V → List (K × V) → List (K × V)
with_second true e es = (e.0.1, e.1) ∷ es
with_second false e es = es

-- the entries under a first key, in order
abbrev pub those : {A K V : Type 0} → (A → A → Ordering) → A → List ((A × K) × V) → List (K × V)
those P p [] = []
those P p (e ∷ es) = with_second (eq_by_cmp P p e.0.0) e (those P p es)

-- the map of the entries under a first key
unfoldable pub under : {A K V : Type 0} → (P : A → A → Ordering) (R : K → K → Ordering) → A → fmap.FinMap (pair_cmp P R) V → fmap.FinMap R V
under P R p m = fmap.from_sorted (those P p (fmap.entries m))

-- entries with each value made from its key and the old value
abbrev pub remade : {K X Y : Type 0} → (K → X → Y) → List (K × X) → List (K × Y)
remade f [] = []
remade f (e ∷ es) = (e.0, f e.0 e.1) ∷ remade f es

-- a map with each value made from its key and the old value
unfoldable pub remake : {K X Y : Type 0} {R : K → K → Ordering} → (K → X → Y) → fmap.FinMap R X → fmap.FinMap R Y
remake f m = fmap.from_sorted (remade f (fmap.entries m))
