-- The book moves from one World to another by rounds.
use Rattle.std.proofs.Common.{◌≡◌, List, [], ◌++◌, refl, sym, ◌∙◌, ap, subst}
use Rattle.std.proofs.lemmas.List.{map-append}
use Rattle.mx_book.specs.Stands.{attempt_all}
use Rattle.mx_book.specs.Views.{View, RestsAt}
use Rattle.mx_book.specs.World.{World}
use Rattle.mx_book.proofs.StandLemmas.{attempt_all-append}
use Rattle.mx_book.proofs.ViewLemmas.{moves_none, moves_then, rests_moved}
use Rattle.mx_desk.specs.Rounds.{Moves, Round, attempts}

-- no round
pub moves_not : {v : View} {w : World} → RestsAt v w → Moves v v w [] w
moves_not {v} at = record { moves = moves_none v at.still; world = refl }

-- from the same book by another name
pub moves_since : {B : Type 0} (view : B → View) {a b : B} {c : View} {w now : World} {rs : List Round} → a ≡ b → Moves (view a) c w rs now → Moves (view b) c w rs now
moves_since view {c = c} {w = w} {now = now} {rs = rs} same moved = subst (λ x. Moves (view x) c w rs now) same moved

-- rounds behind rounds
pub moves_on : {a b c : View} (w v now : World) (rs ss : List Round) → Moves a b w rs v → Moves b c v ss now → Moves a c w (rs ++ ss) now
moves_on w v now rs ss one two = record {
  moves = rw map-append (moves_then (attempts rs) (attempts ss) one.moves two.moves);
  world = two.world ∙ ap (λ u. attempt_all u (attempts ss)) one.world ∙ rw map-append (sym (attempt_all-append w (attempts rs) (attempts ss)));
}

-- they lead to where the book rests
pub rests_on : {old new : View} {w now : World} {rs : List Round} → RestsAt old w → Moves old new w rs now → RestsAt new now
rests_on {new = new} {rs = rs} at moved = subst (RestsAt new) (sym moved.world) (rests_moved (attempts rs) at moved.moves)
