-- What the code finds of a field's name.
use Rattle.std.specs.Prelude.{◌≡◌, ℕ, ◌<◌, List, [], ◌∷◌, length}
use Rattle.mx_desk.specs.declared.fields.Only.{Only}
use Rattle.mx_desk.specs.declared.fields.Only.TheVariants as it

-- none of the values, the one, or more than one
abbrev pub IsOnly : Only → List (List ℕ) → Type 0
IsOnly it.Absent values = values ≡ []
IsOnly (it.One v) values = values ≡ v.now ∷ []
IsOnly it.Many values = 1 < length values
