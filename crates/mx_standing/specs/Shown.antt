-- What a book of rows shows, each of which are the rows of one World.
use Rattle.std.proofs.Common.{◌≡◌, ◌≤◌, ◌⊎◌, ℕ, zero, suc, refl, subst, ◌∙◌, arith}
use mathlib.Core.Logic.{∥∥₁_elim}
use Rattle.mx_book.specs.World.{World}
use Rattle.mx_book.specs.Conditions.{IsWorld}
use Rattle.mx_book.specs.declared.rows.RowBook.{Ghosts}
use Rattle.mx_standing.specs.One.{world_set}
use Rattle.mx_standing.specs.Props.{is_world_prop}
use Rattle.mx_standing.specs.The.{IsOfOne, the_is, so_of_the, world_at}
use Rattle.mx_book.specs.Views.{View, IsLawful}

module _ {B : Type 0} (g : Ghosts B) where
  -- the rows are those of one World, where there is no doubt
  abbrev pub IsOne : B → Type 0
  IsOne b = g.doubt b ≡ 0 → IsOfOne (g.spells (g.rows b))

  -- so are those that the last settle left, where there is no harm
  abbrev pub IsKept : B → Type 0
  IsKept b = g.harm b ≡ 0 → IsOfOne (g.spells (g.base b))

  -- and all that a stop leaves, while no lie was told
  abbrev pub AreLeft : B → Type 0
  AreLeft b = g.harm b ≤ 1 → (r : g.Rows) → g.leaves b r → IsOfOne (g.spells r)

  -- such a book shows the World of its rows
  abbrev pub shown : (b : B) → IsOne b → IsKept b → View
  shown b one kept = record {
    doubt = g.doubt b;
    harm = g.harm b;
    world = world_at (g.doubt b) one;
    base = world_at (g.harm b) kept;
    defers = g.defers;
    IsSettled = g.settled b;
    leaves = λ w. (r : g.Rows) × g.leaves b r × ∥ g.spells r w ∥₁;
    faults = g.faults b;
    limited = g.limited b;
  }

module _ {R : Type 0} (spells : R → World → Type 0) where
  -- what rows spell is the World at them
  pub world_is : (r s : R) (n : ℕ) (h : n ≡ 0 → IsOfOne (spells r)) (w : World) → n ≡ 0 → s ≡ r → spells s w → w ≡ world_at {P = spells r} n h
  world_is r s zero h w sure is sp = the_is (h refl) w (subst (λ (q : R). spells q w) is sp)
  world_is r s (suc n) h w sure is sp = absurd (omega (arith, sure))

  -- what is so of each World that the rows spell is so of that
  pub for_the : (r : R) (n : ℕ) (h : n ≡ 0 → IsOfOne (spells r)) (P : World → Type 0) → ((w : World) → IsProp (P w)) → n ≡ 0 → ((w : World) → spells r w → P w) → P (world_at {P = spells r} n h)
  for_the r zero h P prop sure all = ∥∥₁_elim (so_of_the (h refl)) (prop _) (λ x. all _ x)
  for_the r (suc n) h P prop sure all = absurd (omega (arith, sure))

  -- the same rows spell the same World, however it is known
  pub world_same : (r s : R) (n m : ℕ) (h : n ≡ 0 → IsOfOne (spells r)) (g : m ≡ 0 → IsOfOne (spells s)) → n ≡ 0 → m ≡ 0 → s ≡ r → world_at {P = spells s} m g ≡ world_at {P = spells r} n h
  world_same r s n m h g sure after is = for_the s m g (λ w. w ≡ world_at {P = spells r} n h) (λ w. world_set w _) after (λ w sp. world_is r s n h w sure is sp)

module _ {B : Type 0} (g : Ghosts B)
    (sound : (r : g.Rows) (w : World) → g.spells r w → IsWorld w)
    (steady : (b : B) (r : g.Rows) → g.harm b ≡ 0 → g.leaves b r → r ≡ g.base b)
    (rest : (b : B) → g.settled b → (g.doubt b ≡ g.harm b) × (g.harm b ≡ 0 → g.rows b ≡ g.base b))
    (deep : (b : B) → g.harm b ≤ g.doubt b) where
  -- what it shows is lawful
  pub lawful_of : (b : B) (one : IsOne g b) (kept : IsKept g b) → IsLawful (shown g b one kept)
  lawful_of b one kept = record {
    sound = λ sure. for_the g.spells (g.rows b) (g.doubt b) one IsWorld is_world_prop sure (sound (g.rows b));
    based = λ none. for_the g.spells (g.base b) (g.harm b) kept IsWorld is_world_prop none (sound (g.base b));
    left = λ w left. ∥∥₁_elim left.2 (is_world_prop w) (sound left.0 w);
    steady = λ none w left. ∥∥₁_elim left.2 (world_set _ _) (world_is g.spells (g.base b) left.0 (g.harm b) kept w none (steady b left.0 none left.1));
    rest = λ still.
        let it = rest b still in
        (it.0, λ none. world_same g.spells (g.base b) (g.rows b) (g.harm b) (g.doubt b) kept one none (it.0 ∙ none) (it.1 none));
    deep = deep b;
  }
