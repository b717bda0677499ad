-- The one World of which something is so.
use Rattle.std.specs.Prelude.{◌≡◌, ℕ, zero, suc, [], refl}
use mathlib.Core.Logic.{∥∥₁_elim, ∥∥₁_prop}
use mathlib.Core.HLevel.{Σ_prop_path}
use Rattle.mx_book.specs.World.{World, opening}
use Rattle.mx_standing.specs.One.{world_set}

-- this is so of that World, and of no other
abbrev pub Only : (World → Type 0) → World → Type 0
Only P w = P w × ((u : World) → P u → u ≡ w)

-- this is so of exactly one World
abbrev pub IsOfOne : (World → Type 0) → Type 0
IsOfOne P = ∥ ((w : World) × Only P w) ∥₁

-- the World of which it is so, with that
abbrev pub Found : (World → Type 0) → Type 0
Found P = (w : World) × ∥ Only P w ∥₁

found_prop : (P : World → Type 0) → IsProp (Found P)
found_prop P (u, a) (v, b) = Σ_prop_path (λ _. ∥∥₁_prop) (∥∥₁_elim a (world_set u v) (λ x. ∥∥₁_elim b (world_set u v) (λ y. y.1 u x.0)))

found : (P : World → Type 0) → IsOfOne P → Found P
found P h = ∥∥₁_elim h (found_prop P) (λ x. (x.0, ∣ x.1 ∣₁))

-- that World
pub the : {P : World → Type 0} → IsOfOne P → World
the {P} h = (found P h).0

-- it is the one
pub the_is : {P : World → Type 0} (h : IsOfOne P) (w : World) → P w → w ≡ the h
unfolding the
the_is {P} h w p = ∥∥₁_elim ((found P h).1) (world_set _ _) (λ x. x.1 w p)

-- it is so of that World
pub so_of_the : {P : World → Type 0} (h : IsOfOne P) → ∥ P (the h) ∥₁
unfolding the
so_of_the {P} h = ∥∥₁_elim ((found P h).1) ∥∥₁_prop (λ x. ∣ x.0 ∣₁)

-- the one World of which it is so where n is 0; else it stands for nothing
abbrev pub world_at : {P : World → Type 0} (n : ℕ) → (n ≡ 0 → IsOfOne P) → World
world_at zero h = the (h refl)
world_at (suc n) h = opening []
