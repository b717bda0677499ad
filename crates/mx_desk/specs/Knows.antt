-- What the desk remembers of a World.
use Rattle.std.specs.Prelude.{◌≡◌, ℕ, ◌%◌, List, Option, Some, None, replicate, slice_index_or, slice_set, if◌then◌else◌, All, IfSome}
use Rattle.std.specs.Int.{w128, from_be_bytes}
use Rattle.mx_pay.specs.Tokens.{is_token}
use Rattle.mx_book.specs.Views.{View, RestsAt}
use Rattle.mx_book.specs.World.{World, Token}
use Rattle.mx_book.specs.Reads.{who_of}
use Rattle.mx_book.specs.declared.values.Caller.{Caller}

-- the place of a token: its bytes as one number, modulo how many places there are
abbrev pub place : Token → ℕ
place token = from_be_bytes w128 token % 1021

-- places at which no token is remembered yet
abbrev pub free_places : List (Option (Token × Caller))
free_places = replicate 1021 None

-- whose a token is, by what stands at a place
abbrev pub whose : Option (Token × Caller) → Token → Option Caller
whose (Some e) token = if is_token e.0 token then Some e.1 else None
whose None token = None

-- whose a token is, where its place says so
abbrev pub remembered : List (Option (Token × Caller)) → Token → Option Caller
remembered places token = whose (slice_index_or places (place token) None) token

-- a token is remembered at its place, where there is such a place
abbrev pub remembering : List (Option (Token × Caller)) → Token → Caller → List (Option (Token × Caller))
remembering places token caller = slice_set places (place token) (Some (token, caller))

-- each token that is remembered is its caller's
abbrev pub Knows : World → List (Option (Token × Caller)) → Type 0
Knows w places = All (λ (place : Option (Token × Caller)). IfSome place (λ e. who_of w e.0 ≡ Some e.1)) places

-- a book has this World, in which what is remembered is so
abbrev pub Has : View → List (Option (Token × Caller)) → World → Type 0
Has v places w = (v.world ≡ w) × Knows w places

-- a book rests at this World, in which what is remembered is so
abbrev pub RestsKnown : View → List (Option (Token × Caller)) → World → Type 0
RestsKnown v places w = RestsAt v w × Knows w places
