-- Requests that are answered together: one settle keeps what all of them change.
use Rattle.std.specs.Prelude.{◌≡◌, ◌≤◌, Bool, true, false, List, [], ◌∷◌, ◌++◌, length, map, if◌then◌else◌}
use Rattle.mx_book.specs.Stands.{Attempt, attempt_all}
use Rattle.mx_book.specs.Views.{View, MovesTo}
use Rattle.mx_book.specs.World.{World}
use Rattle.mx_command.specs.declared.values.Command.{Command}
use Rattle.mx_command.specs.declared.values.Command.TheVariants.{NewMember, NewHolder}
use Rattle.mx_desk.specs.Respond.{is_routed}
use Rattle.mx_desk.specs.Serve.{Marked, world_after}

-- at most 64 requests, with the marks that they have before they are settled, and whether the round was given up, since its settle
-- failed
pub record Round : Type 0 where
  pub held : List Marked
  pub few : length held ≤ 64
  pub given_up : Bool

-- whether a command makes a token, so that a round ends behind it
abbrev pub makes_token : Command → Bool
makes_token (NewMember m t) = true
makes_token (NewHolder h t) = true
makes_token _ = false

-- in a round that is given up, each request that has a route is
abbrev pub lost : Marked → Marked
lost m = record { request = m.request; given_up = is_routed m.request }

-- the requests of a round, with their marks
abbrev pub marked_of : Round → List Marked
marked_of r = if r.given_up then map lost r.held else r.held

-- and those of rounds, in order
abbrev pub all_of : List Round → List Marked
all_of [] = []
all_of (r ∷ rs) = marked_of r ++ all_of rs

-- rounds as attempts to change the World
abbrev pub attempts : List Round → List Attempt
attempts rs = map (λ (r : Round). record { given_up = r.given_up; change = λ w. world_after w r.held }) rs

-- Rounds lead a book from where it rests to where it rests again, and one World to another, also where the book's isn't known.
pub record Moves (old new : View) (w : World) (rs : List Round) (now : World) : Type 0 where
  pub moves : MovesTo old new (attempts rs)
  pub world : now ≡ attempt_all w (attempts rs)

-- rounds were answered, of whose requests and of the World then this holds, and the book moved so
pub record Leads (Holds : List Marked → World → Type 0) (Moves : List Round → World → Type 0) : Type 0 where
  pub end : World
  pub rounds : List Round
  pub holds : Holds (all_of rounds) end
  pub moves : Moves rounds end
