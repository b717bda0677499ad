-- How calls of a book follow one another: reads and changes, rounds, and attempts.
use Rattle.std.proofs.Common.{◌≡◌, ◌≤◌, ◌⊎◌, Bool, true, false, inl, inr, List, [], ◌∷◌, ◌++◌, refl, sym, ap, ◌∙◌, arith, Result, Ok, Err}
use Rattle.mx_book.specs.World.{World}
use Rattle.mx_book.specs.Stands.{Attempt, attempt, attempt_one, attempt_all, OneMore}
use Rattle.mx_book.proofs.StandLemmas.{sure_before, low_before, low_sure, later_then, attempt_all-append}
use Rattle.mx_book.specs.Views.{View, IsLawful, Bides, Keeps, Changes, Settles, Drafts, RestsAt, AreGivenUp, IsLeft, MovesTo, Attempts}

-- ---- reads and changes

pub bides_none : (v : View) → Bides v v
bides_none v = record { lasts = omega arith; stands = λ waits none. (refl, waits); stops = λ low w left. left }

pub bides_then : {a b c : View} → Bides a b → Bides b c → Bides a c
bides_then one two = record {
  lasts = later_then one.lasts two.lasts;
  stands = λ waits none.
      let after = two.stands waits none in
      let before = one.stands after.1 (sure_before two.lasts none) in
      (after.0 ∙ before.0, before.1);
  stops = λ low w left. one.stops (low_before two.lasts low) w (two.stops low w left);
}

pub keeps_none : (v : View) → Keeps v v
keeps_none v = record { later = omega arith; same = λ sure. refl; bides = bides_none v; rests = λ still. still; counts = omega arith; limits = λ limited. limited }

pub keeps_then : {a b c : View} → Keeps a b → Keeps b c → Keeps a c
keeps_then one two = record {
  later = later_then one.later two.later;
  same = λ sure. two.same sure ∙ one.same (sure_before two.later sure);
  bides = bides_then one.bides two.bides;
  rests = λ still. two.rests (one.rests still);
  counts = later_then one.counts two.counts;
  limits = λ limited. one.limits (two.limits limited);
}

-- ---- a round

pub drafts_none : (v : View) → Drafts v v (λ w. w)
drafts_none v = record { later = omega arith; world = λ sure. refl; bides = bides_none v }

-- a read is no change
pub drafts_kept : {old new : View} → Keeps old new → Drafts old new (λ w. w)
drafts_kept keeps = record { later = keeps.later; world = keeps.same; bides = keeps.bides }

-- changes after changes
pub drafts_then : {a b c : View} (one two : World → World) → Drafts a b one → Drafts b c two → Drafts a c (λ w. two (one w))
drafts_then one two first next = record {
  later = later_then first.later next.later;
  world = λ sure. next.world sure ∙ ap two (first.world (sure_before next.later sure));
  bides = bides_then first.bides next.bides;
}

-- a change by another name
pub drafts_as : {old new : View} (one two : World → World) → (new.doubt ≡ 0 → one old.world ≡ two old.world) → Drafts old new one → Drafts old new two
drafts_as one two same drafts = record { later = drafts.later; world = λ sure. drafts.world sure ∙ same sure; bides = drafts.bides }

-- a change that was made, and one that wasn't
pub drafts_made : {T E : Type 0} {fails : E → Type 0} {old new : View} {x : T} (change : World → World) → Changes {T = T} fails old new (Ok x) change → Drafts old new change
drafts_made change changes = record { later = changes.later; world = changes.ok; bides = changes.bides }

pub drafts_undone : {T E : Type 0} {fails : E → Type 0} {old new : View} {e : E} (change : World → World) → Changes {T = T} fails old new (Err e) change → Drafts old new (λ w. w)
drafts_undone change changes = record { later = changes.later; world = changes.err; bides = changes.bides }

-- ---- attempts

given_then : (ts us : List Attempt) → AreGivenUp ts → AreGivenUp us → AreGivenUp (ts ++ us)
given_then [] us first next = next
given_then (t ∷ ts) us first next = (first.0, given_then ts us first.1 next)

-- what was given up changes nothing
pub given_all : (w : World) (ts : List Attempt) → AreGivenUp ts → attempt_all w ts ≡ w
given_all w [] given = refl
given_all w (t ∷ ts) given = rw given.0 (given_all w ts given.1)

-- more attempts that are given up come behind one
OneMore-behind : (w : World) (ts us : List Attempt) (v : World) → AreGivenUp us → OneMore w ts v → OneMore w (ts ++ us) v
OneMore-behind w [] us v given one = absurd one
OneMore-behind w (t ∷ ts) us v given (inl one) = inl (one.0, attempt_all-append w ts us ∙ given_all _ us given ∙ one.1, one.2)
OneMore-behind w (t ∷ ts) us v given (inr one) = inr (OneMore-behind (attempt_one w t) ts us v given one)

-- attempts come before it
OneMore-before : (w : World) (ts us : List Attempt) (v : World) → OneMore (attempt_all w ts) us v → OneMore w (ts ++ us) v
OneMore-before w [] us v one = one
OneMore-before w (t ∷ ts) us v one = inr (OneMore-before (attempt_one w t) ts us v one)

-- nothing was done
pub moves_none : (v : View) → v.IsSettled → MovesTo v v []
moves_none v still = record { later = omega arith; rests = still; world = λ sure. refl; left = λ low w left. inl (left, tt) }

-- attempts after attempts
pub moves_then : {a b c : View} (ts us : List Attempt) → MovesTo a b ts → MovesTo b c us → MovesTo a c (ts ++ us)
moves_then {a} {b} {c} ts us one two = record {
  later = later_then one.later two.later;
  rests = two.rests;
  world = λ sure. two.world sure ∙ rw (one.world (sure_before two.later sure)) (sym (attempt_all-append a.world ts us));
  left = λ low w left. by w (low_before two.later low) (two.left low w left);
}
  where
    behind : (w : World) → AreGivenUp us → IsLeft a ts w → IsLeft a (ts ++ us) w
    behind w given (inl (left, all)) = inl (left, given_then ts us all given)
    behind w given (inr (sure, inl is)) = inr (sure, inl (is ∙ sym (attempt_all-append a.world ts us ∙ given_all _ us given)))
    behind w given (inr (sure, inr more)) = inr (sure, inr (OneMore-behind a.world ts us w given more))

    by : (w : World) → b.doubt ≤ 1 → IsLeft b us w → IsLeft a (ts ++ us) w
    by w low (inl (left, given)) = behind w given (one.left low w left)
    by w low (inr (sure, inl is)) = inr (sure_before one.later sure, inl (is ∙ rw (one.world sure) (sym (attempt_all-append a.world ts us))))
    by w low (inr (sure, inr more)) = inr (sure_before one.later sure, inr (OneMore-before a.world ts us w (rw (sym (one.world sure)) more)))

-- from where a book rests attempts lead to where it rests again, also from a World that isn't known there any more
pub rests_here : {v : View} → v.IsSettled → RestsAt v v.world
rests_here still = record { still = still; is = λ sure. refl }

pub rests_moved : {old new : View} {w : World} (ts : List Attempt) → RestsAt old w → MovesTo old new ts → RestsAt new (attempt_all w ts)
rests_moved ts at moved = record {
  still = moved.rests;
  is = λ sure. moved.world sure ∙ ap (λ v. attempt_all v ts) (at.is (sure_before moved.later sure));
}

pub left_moved : {old new : View} {w : World} (ts : List Attempt) → RestsAt old w → MovesTo old new ts → new.doubt ≤ 1 → (v : World) → new.leaves v
    → (old.leaves v × (attempt_all w ts ≡ w)) ⊎ ((v ≡ attempt_all w ts) ⊎ OneMore w ts v)
left_moved {old} {w = w} ts at moved low v left = by (moved.left low v left)
  where
    by : IsLeft old ts v → (old.leaves v × (attempt_all w ts ≡ w)) ⊎ ((v ≡ attempt_all w ts) ⊎ OneMore w ts v)
    by (inl (left, given)) = inl (left, given_all w ts given)
    by (inr (sure, inl is)) = inr (inl (is ∙ ap (λ u. attempt_all u ts) (at.is sure)))
    by (inr (sure, inr more)) = inr (inr (rw (sym (at.is sure)) more))

-- an attempt at a change that is the same in this World
pub moves_as : {old new : View} (given_up : Bool) (one two : World → World) → (old.doubt ≡ 0 → one old.world ≡ two old.world) → MovesTo old new (attempt given_up one) → MovesTo old new (attempt given_up two)
moves_as {old} {new} given_up one two same moved = record {
  later = moved.later;
  rests = moved.rests;
  world = λ sure. moved.world sure ∙ alike given_up (sure_before moved.later sure);
  left = λ low w left. by w (moved.left low w left);
}
  where
    alike : (g : Bool) → old.doubt ≡ 0 → attempt_all old.world (attempt g one) ≡ attempt_all old.world (attempt g two)
    alike true sure = refl
    alike false sure = same sure

    by : (w : World) → IsLeft old (attempt given_up one) w → IsLeft old (attempt given_up two) w
    by w (inl (left, given)) = inl (left, given)
    by w (inr (sure, inl is)) = inr (sure, inl (is ∙ alike given_up sure))
    by w (inr (sure, inr (inl more))) = inr (sure, inr (inl (more.0, refl, more.2 ∙ same sure)))
    by w (inr (sure, inr (inr more))) = absurd more

pub attempts_as : {T E : Type 0} {old new : View} (one two : World → World) (result : Result T E) → (old.doubt ≡ 0 → one old.world ≡ two old.world) → Attempts old new result one → Attempts old new result two
attempts_as one two (Ok x) same done = record { made = moves_as false one two same done.made; undone = tt; sure = done.sure }
attempts_as one two (Err e) same done = record { made = tt; undone = moves_as true one two same done.undone; sure = done.sure }

-- ---- a round and its settle

-- doubt of what is settled is harm
is_harm : {v : View} → IsLawful v → v.IsSettled → v.doubt ≡ 0 → v.harm ≡ 0
is_harm law still sure = sym (law.rest still).0 ∙ sure

low_harm : {v : View} → IsLawful v → v.IsSettled → v.doubt ≤ 1 → v.harm ≤ 1
low_harm law still low = let same = (law.rest still).0 in omega (arith, low, same)

module _ {a b c : View} (first : IsLawful a) (last : IsLawful c) (at : a.IsSettled) where
  -- a round adds to the doubt of what is settled, or leaves it
  pub later_settled : {T E : Type 0} (r : Result T E) → Bides a b → Settles b c r → a.doubt ≤ c.doubt
  later_settled r bides done =
      let one = (first.rest at).0 in
      let two = (last.rest done.ends).0 in
      let three = bides.lasts in
      let four = done.lasts in
      omega (arith, one, two, three, four)

  module _ {T E : Type 0} (made : World → World) (drafts : Drafts a b made) where
    -- after a settle that answered the World is what the round made of it
    made_by : (x : T) → Settles {E = E} b c (Ok x) → c.doubt ≤ 1 → (b.doubt ≡ 0) × (c.harm ≡ 0) × (c.world ≡ made a.world)
    made_by x done low = let it = done.ok (low_harm last done.ends low) in (it.0, it.1, it.2 ∙ drafts.world it.0)

    left_made : (x : T) → Settles {E = E} b c (Ok x) → c.doubt ≤ 1 → (w : World) → c.leaves w → (a.doubt ≡ 0) × (w ≡ made a.world)
    left_made x done low w left =
        let it = made_by x done low in
        (sure_before drafts.later it.0, last.steady it.1 w left ∙ sym ((last.rest done.ends).1 it.1) ∙ it.2)

    -- after one that failed it is what it was
    back : (e : E) → Settles {T = T} b c (Err e) → c.doubt ≡ 0 → c.world ≡ a.world
    back e done sure =
        let none = is_harm last done.ends sure in
        let it = done.err none in
        let early = sure_before done.lasts none in
        let base = drafts.bides.stands it.0 early in
        it.1 ∙ base.0 ∙ sym ((first.rest at).1 (sure_before drafts.bides.lasts early))

    left_back : (e : E) → Settles {T = T} b c (Err e) → c.doubt ≤ 1 → (w : World) → c.leaves w → a.leaves w ⊎ ((a.doubt ≡ 0) × (w ≡ made a.world))
    left_back e done low w left = by (low_before done.lasts (low_harm last done.ends low)) (done.stops (low_harm last done.ends low) w left)
      where
        by : b.harm ≤ 1 → b.leaves w ⊎ ((b.doubt ≡ 0) × (w ≡ b.world)) → a.leaves w ⊎ ((a.doubt ≡ 0) × (w ≡ made a.world))
        by low (inl left) = inl (drafts.bides.stops low w left)
        by low (inr (sure, is)) = inr (sure_before drafts.later sure, is ∙ drafts.world sure)

  -- a round of changes that a settle made stand, or gave up
  pub attempts_settled : {T E : Type 0} (r : Result T E) (change : World → World) → Drafts a b change → Settles b c r → Attempts a c r change
  attempts_settled (Ok x) change drafts done = record {
    made = record {
      later = later_settled (Ok x) drafts.bides done;
      rests = done.ends;
      world = λ sure. (made_by change drafts x done (low_sure sure)).2;
      left = λ low w left. let it = left_made change drafts x done low w left in inr (it.0, inl it.1);
    };
    undone = tt;
    sure = λ low. (last.rest done.ends).0 ∙ (made_by change drafts x done low).1;
  }
  attempts_settled (Err e) change drafts done = record {
    made = tt;
    undone = record {
      later = later_settled (Err e) drafts.bides done;
      rests = done.ends;
      world = back change drafts e done;
      left = λ low w left. by w (left_back change drafts e done low w left);
    };
    sure = λ low. tt;
  }
    where
      by : (w : World) → a.leaves w ⊎ ((a.doubt ≡ 0) × (w ≡ change a.world)) → IsLeft a (attempt true change) w
      by w (inl left) = inl (left, (refl, tt))
      by w (inr (sure, is)) = inr (sure, inr (inl (refl, refl, is)))

  -- a round in which nothing was changed is given up, however its settle ended
  pub moves_nothing : {T E : Type 0} (r : Result T E) (change : World → World) → Drafts a b (λ w. w) → Settles b c r → MovesTo a c (attempt true change)
  moves_nothing (Ok x) change drafts done = record {
    later = later_settled (Ok x) drafts.bides done;
    rests = done.ends;
    world = λ sure. (made_by (λ w. w) drafts x done (low_sure sure)).2;
    left = λ low w left. let it = left_made (λ w. w) drafts x done low w left in inr (it.0, inl it.1);
  }
  moves_nothing (Err e) change drafts done = record {
    later = later_settled (Err e) drafts.bides done;
    rests = done.ends;
    world = back (λ w. w) drafts e done;
    left = λ low w left. by w (left_back (λ w. w) drafts e done low w left);
  }
    where
      by : (w : World) → a.leaves w ⊎ ((a.doubt ≡ 0) × (w ≡ a.world)) → IsLeft a (attempt true change) w
      by w (inl left) = inl (left, (refl, tt))
      by w (inr (sure, is)) = inr (sure, inl is)
