-- What a stop leaves of rounds, and lives with stops between them.
use Rattle.std.proofs.Common.{◌≡◌, ◌≤◌, ◌⊎◌, inl, inr, List, [], ◌∷◌, ◌++◌, refl, sym, ◌∙◌, ap}
use Rattle.mx_book.specs.Stands.{attempt_all, attempt_one, OneMore}
use Rattle.mx_book.specs.Views.{View, RestsAt}
use Rattle.mx_book.specs.World.{World}
use Rattle.mx_book.proofs.ViewLemmas.{left_moved}
use Rattle.mx_desk.specs.Durable.{IsGivenUpOf, Lasts, Lives, ended, stopped, unborn}
use Rattle.mx_desk.specs.Leaves.{Lawful}
use Rattle.mx_desk.specs.Rounds.{Moves, Round, all_of, attempts}
use Rattle.mx_desk.specs.Serve.{Marked, world_after}
use Rattle.mx_desk.proofs.LawfulLemmas.{lawful_requests, lawful_then}
use Rattle.mx_desk.proofs.RoundLemmas.{attempts_lead}

-- what was made after all is what a round does that was given up, to the World at the end
more_rounds : (w : World) (rs : List Round) (v : World) → OneMore w (attempts rs) v → (r : Round) × IsGivenUpOf w rs r × (v ≡ world_after (world_after w (all_of rs)) r.held)
more_rounds w [] v one = absurd one
more_rounds w (r ∷ rs) v (inl one) =
    let here : attempt_one w (record { given_up = r.given_up; change = λ u. world_after u r.held }) ≡ w = rw one.0 refl in
    let still : world_after w (all_of (r ∷ rs)) ≡ w = sym (attempts_lead w (r ∷ rs)) ∙ ap (λ u. attempt_all u (attempts rs)) here ∙ one.1 in
    (r, ([], rs, refl, one.0, sym still), one.2 ∙ ap (λ u. world_after u r.held) (sym still))
more_rounds w (q ∷ rs) v (inr one) =
    let after = attempt_one w (record { given_up = q.given_up; change = λ u. world_after u q.held }) in
    let more = more_rounds after rs v one in
    let place = more.1 in
    let same : (l : List Round) → world_after after (all_of l) ≡ world_after w (all_of (q ∷ l)) = λ l. sym (attempts_lead after l) ∙ attempts_lead w (q ∷ l) in
    (more.0, (q ∷ place.0, place.1, ap (λ l. q ∷ l) place.2, place.3, sym (same place.0) ∙ place.4 ∙ same rs), more.2 ∙ ap (λ u. world_after u more.0.held) (same rs))

-- a stop leaves what it could leave before, where nothing was done, or the World now, or that with one round more
pub left_last : {old new : View} {w now : World} (rs : List Round) → RestsAt old w → Moves old new w rs now → new.doubt ≤ 1 → (v : World) → new.leaves v
    → (old.leaves v × (now ≡ w)) ⊎ Lasts (λ u. v ≡ u) w rs now
left_last {old} {w = w} {now = now} rs at moved low v left = by (left_moved (attempts rs) at moved.moves low v left) where
  is : now ≡ world_after w (all_of rs)
  is = moved.world ∙ attempts_lead w rs

  by : (old.leaves v × (attempt_all w (attempts rs) ≡ w)) ⊎ ((v ≡ attempt_all w (attempts rs)) ⊎ OneMore w (attempts rs) v) → (old.leaves v × (now ≡ w)) ⊎ Lasts (λ u. v ≡ u) w rs now
  by (inl before) = inl (before.0, moved.world ∙ before.1)
  by (inr (inl here)) = inr (inl (here ∙ sym moved.world))
  by (inr (inr more)) =
      let one = more_rounds w rs v more in
      inr (inr (one.0, one.1, one.2 ∙ ap (λ u. world_after u one.0.held) (sym is)))

-- of a book that left nothing but its World, a stop leaves nothing else
pub moves_last : {old new : View} {w now : World} (rs : List Round) → ((v : World) → old.leaves v → v ≡ w) → RestsAt old w → Moves old new w rs now → new.doubt ≤ 1 → (v : World) → new.leaves v
    → Lasts (λ u. v ≡ u) w rs now
moves_last {old} {w = w} {now = now} rs was at moved low v left = by (left_last rs at moved low v left) where
  by : (old.leaves v × (now ≡ w)) ⊎ Lasts (λ u. v ≡ u) w rs now → Lasts (λ u. v ≡ u) w rs now
  by (inl before) = inl (was v before.0 ∙ sym before.1)
  by (inr lasts) = lasts

-- ---- lives

-- what is promised of requests holds of those of lives
pub lives_lawful : (w now : World) (ms : List Marked) → Lives w ms now → Lawful w ms now
lives_lawful _ _ _ (unborn {w}) = lawful_requests w w [] refl
lives_lawful _ _ _ (ended {w} {v} {now} {ms} {ns} before life) = lawful_then w v now ms ns (lives_lawful w v ms before) life
lives_lawful _ _ _ (stopped {w} {v} {now} {ms} {rs} before life r given_up) =
    lawful_then w v _ ms (all_of rs ++ r.held) (lives_lawful w v ms before) (lawful_then v now _ (all_of rs) r.held life (lawful_requests now _ r.held refl))
