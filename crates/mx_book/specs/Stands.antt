-- Changes that were asked, made or given up.
use Rattle.std.specs.Prelude.{◌≡◌, ◌⊎◌, Bool, true, List, [], ◌∷◌, if◌then◌else◌}
use Rattle.mx_book.specs.World.{World}

-- a change that is asked, and whether it was given up, which changes nothing. All changes of a round are one.
pub record Attempt : Type 0 where
  pub given_up : Bool
  pub change : World → World

abbrev pub attempt : Bool → (World → World) → List Attempt
attempt given_up change = record { given_up = given_up; change = change } ∷ []

-- the World after an attempt
abbrev pub attempt_one : World → Attempt → World
attempt_one w t = if t.given_up then w else t.change w

-- and after attempts, in order
abbrev pub attempt_all : World → List Attempt → World
attempt_all w [] = w
attempt_all w (t ∷ ts) = attempt_all (attempt_one w t) ts

-- one of them that was given up was made after all, and nothing was changed behind it
abbrev pub OneMore : World → List Attempt → World → Type 0
OneMore w [] v = ⊥
OneMore w (t ∷ ts) v = ((t.given_up ≡ true) × (attempt_all w ts ≡ w) × (v ≡ t.change w)) ⊎ OneMore (attempt_one w t) ts v
