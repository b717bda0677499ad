-- What the code of a log does with its sixteen places, of which the first hold the details in order.
use Rattle.std.specs.Prelude.{ℕ, Bool, List, [], ◌∷◌, Option, Some, None, if◌then◌else◌}
use Rattle.std.specs.Ordering.{is_lt, eq_by_cmp}
use Rattle.mx_pay.specs.Details.{Details, details_cmp}
use Rattle.mx_pay.specs.Log.{Entries, has_logged, owns}

-- the places after details are put where they belong: each later one moves on by one
abbrev pub put_in : Details → List (Option Details) → List (Option Details)
put_in d [] = []
put_in d (None ∷ es) = Some d ∷ es
put_in d (Some e ∷ es) = if is_lt (details_cmp d e) then Some d ∷ put_in e es else Some e ∷ put_in d es

-- whether a place has these details
abbrev pub holds_at : Details → Option Details → Bool
holds_at d None = Bool.false
holds_at d (Some e) = eq_by_cmp details_cmp d e

-- whether a place has nothing, or details of a log
abbrev pub stands_in : Entries → Option Details → Bool
stands_in log None = Bool.true
stands_in log (Some d) = has_logged log d

-- whether a place has nothing, or details that come before these
abbrev pub is_behind : Details → Option Details → Bool
is_behind d None = Bool.true
is_behind d (Some e) = is_lt (details_cmp e d)

-- whether a place has nothing, or details of a purse
abbrev pub owns_place : List ℕ → ℕ → Option Details → Bool
owns_place name next None = Bool.true
owns_place name next (Some d) = owns name next d

-- the details at a place, if the place is there and has some
abbrev pub option_join : Option (Option Details) → Option Details
option_join None = None
option_join (Some o) = o
