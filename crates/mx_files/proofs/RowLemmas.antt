-- Rounds over a book of rows, and the rows that they leave.
use Rattle.std.proofs.Common.{◌≡◌, ◌≤◌, inl, inr, List, sym, subst}
use mathlib.Core.Logic.{∥∥₁_elim}
use Rattle.mx_book.specs.Views.{RestsAt}
use Rattle.mx_book.specs.World.{World}
use Rattle.mx_book.specs.declared.rows.RowBook.{Ghosts}
use Rattle.mx_desk.specs.Durable.{Lasts}
use Rattle.mx_desk.specs.Rounds.{Moves, Round}
use Rattle.mx_desk.proofs.DurableLemmas.{moves_last}
use Rattle.mx_desk.proofs.MoveLemmas.{rests_on}
use Rattle.mx_standing.specs.One.{world_set}
use Rattle.mx_standing.specs.Shown.{AreLeft, IsKept, IsOne, shown}
use Rattle.mx_standing.proofs.ShownLemmas.{left_shown, shown_is, spelled_shown}

-- what a stop leaves, known otherwise
lasts_so : {P Q : World → Type 0} (w : World) (rs : List Round) (now : World) → ((v : World) → P v → Q v) → Lasts P w rs now → Lasts Q w rs now
lasts_so w rs now f (inl here) = inl (f now here)
lasts_so w rs now f (inr more) = inr (more.0, more.1, f _ more.2)

module _ {B : Type 0} (g : Ghosts B) where
  -- a book whose rows spell a World rests at it
  pub rests_shown : (b : B) (one : IsOne g b) (kept : IsKept g b) (w : World) → g.settled b → ∥ g.spells (g.rows b) w ∥₁ → RestsAt (shown g b one kept) w
  rests_shown b one kept w still spelled = record {
    still = still;
    is = λ sure. ∥∥₁_elim spelled (world_set _ _) (λ sp. sym (shown_is g b one kept w sure sp));
  }

  module _ (old new : B) (one : IsOne g old) (kept : IsKept g old) (one' : IsOne g new) (kept' : IsKept g new) (w now : World) (rs : List Round)
      (at : RestsAt (shown g old one kept) w) (moved : Moves (shown g old one kept) (shown g new one' kept') w rs now) where
    -- after rounds the rows spell the World now
    pub spelled_moved : g.doubt new ≡ 0 → ∥ g.spells (g.rows new) now ∥₁
    spelled_moved sure = subst (λ v. ∥ g.spells (g.rows new) v ∥₁) ((rests_on at moved).is sure) (spelled_shown g new one' kept' sure)

    -- and what a stop leaves, where nothing but that World was left before
    pub lasts_moved : ((r : g.Rows) → g.leaves old r → r ≡ g.rows old) → ((r : g.Rows) (u v : World) → g.spells r u → g.spells r v → u ≡ v) → ∥ g.spells (g.rows old) w ∥₁ → AreLeft g new
        → g.doubt new ≤ 1 → g.harm new ≤ 1 → (r : g.Rows) → g.leaves new r → Lasts (λ u. ∥ g.spells r u ∥₁) w rs now
    lasts_moved steady single spelled left low less r leaves =
        let found = left_shown g new one' kept' left less r leaves in
        lasts_so w rs now (λ (u : World) (is : found.0 ≡ u). subst (λ (v : World). ∥ g.spells r v ∥₁) is found.2) (moves_last rs was at moved low found.0 found.1)
      where
        was : (v : World) → ((q : g.Rows) × g.leaves old q × ∥ g.spells q v ∥₁) → v ≡ w
        was v (q, l, sp) =
            ∥∥₁_elim sp (world_set _ _) (λ s. ∥∥₁_elim spelled (world_set _ _) (λ t. single (g.rows old) v w (subst (λ (r : g.Rows). g.spells r v) (steady q l) s) t))
