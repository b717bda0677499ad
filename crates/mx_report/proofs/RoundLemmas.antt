-- The rounds of an import: what the last settle left, what waits since then, and what the import leaves that a fault ends.
use Rattle.std.proofs.Common.{◌≡◌, ◌≢◌, ◌≤◌, ◌⊎◌, ℕ, List, [], length, inl, inr, refl, sym, ◌∙◌, arith, Result, Ok, Err, OnErr}
use Rattle.mx_book.specs.World.{World}
use Rattle.mx_book.proofs.StandLemmas.{low_sure, sure_before}
use Rattle.mx_book.specs.Views.{View, IsLawful, Bides, RestsAt, Settles}
use Rattle.mx_office.proofs.CallLemmas.{bides_none, bides_then}
use Rattle.mx_office.specs.Reachable.{IsReachable, StandsBalanced}
use Rattle.mx_report.specs.declared.rolls.RollFaultKind.{RollFaultKind}
use Rattle.mx_report.specs.declared.rolls.RollFaultKind.TheVariants.{NotRoll}
use Rattle.mx_report.specs.Import.{AreFirst, IsBroken, IsNoRoll, SettlesRows, StandsImported, Tally, rows_counted}
use Rattle.mx_report.specs.Reading.{Records}
use Rattle.mx_report.specs.Roll.{Fields}
use Rattle.mx_report.proofs.ImportLemmas.{Come, are_first, stands_balanced, stands_none}

-- what holds anyway
pub on_err : {T E : Type 0} (r : Result T E) (P : Type 0) → P → OnErr r P
on_err (Ok v) P p = tt
on_err (Err e) P p = p

-- a fault that isn't of the roll says nothing of it
pub not_no_roll : (text : List ℕ) (rows : ℕ) (kind : RollFaultKind) → kind ≢ NotRoll → kind ≡ NotRoll → IsNoRoll text rows
not_no_roll text rows kind not is = absurd (not is)

module _ where
  -- how far an import has come since this book, while nothing is doubted
  abbrev pub ComeTo : (text : List ℕ) (first now : View) (it : Records) (tally : Tally) → Type 0
  ComeTo text first now it tally = Come (λ w. (now.doubt ≡ 0) × (first.world ≡ w)) (λ v. now.world ≡ v) text it tally

  -- a settle that kept the rows, and one that didn't
  pub rows_made : {T E : Type 0} {x y : View} {v : T} {all before done : ℕ} → Settles {E = E} x y (Ok v) → done ≡ all → SettlesRows x y all before done
  rows_made settles is = record {
    lasts = settles.lasts;
    ends = settles.ends;
    keeps = λ none. let it = settles.ok (low_sure none) in inl (is, it.0, it.2);
  }

  pub rows_undone : {T E : Type 0} {x y : View} {e : E} {all before done : ℕ} → Settles {T = T} x y (Err e) → done ≡ before → SettlesRows x y all before done
  rows_undone settles is = record {
    lasts = settles.lasts;
    ends = settles.ends;
    keeps = λ none. let it = settles.err none in inr (is, it.0, it.1);
  }

  -- what a settle says of another answer
  pub settles_made : {T E U F : Type 0} {x y : View} {v : T} (u : U) → Settles {E = E} x y (Ok v) → Settles {E = F} x y (Ok u)
  settles_made u settles = record { lasts = settles.lasts; ends = settles.ends; ok = settles.ok; err = λ none. tt; stops = settles.stops }

  pub settles_undone : {T E U F : Type 0} {x y : View} {e : E} (f : F) → Settles {T = T} x y (Err e) → Settles {T = U} x y (Err f)
  settles_undone f settles = record { lasts = settles.lasts; ends = settles.ends; ok = λ low. tt; err = settles.err; stops = settles.stops }

  -- what an import leaves that a fault ends: so many of the first records, and no other
  pub record Ended (text : List ℕ) (first now : View) (done : ℕ) : Type 0 where
    pub later : first.IsSettled → first.doubt ≤ now.doubt
    pub broken : (w : World) → now.doubt ≡ 0 → RestsAt first w → IsBroken (λ v. now.world ≡ v) w text done

  -- a call that leaves the rows, or what a settle kept, leaves how far the import has come
  pub come_on : (text : List ℕ) (first x y : View) (it : Records) (tally : Tally) → (y.doubt ≡ 0 → (x.doubt ≡ 0) × (y.world ≡ x.world)) → ComeTo text first x it tally → ComeTo text first y it tally
  come_on text first x y it tally same come = record {
    records = come.records;
    going = come.going;
    stands = λ w before. let at = same before.0 in rw at.1 (come.stands w (at.0, before.1));
    counts = λ w before. come.counts w ((same before.0).0, before.1);
  }

module _ {B : Type 0} (show : B → View) where
  -- What the last settle left: a book that rests, with so many of the first records imported. What was done since then waits.
  pub record Round (text : List ℕ) (first now : View) (kept : ℕ) : Type 0 where
    pub start : B
    pub law : IsLawful (show start)
    pub still : (show start).IsSettled
    pub later : first.doubt ≤ (show start).doubt
    pub bides : Bides (show start) now
    pub records : List Fields
    pub begin : AreFirst text records
    pub counted : length records ≡ kept
    pub stands : (w : World) → (show start).doubt ≡ 0 → (first.world ≡ w) → StandsImported (λ v. (show start).world ≡ v) w records

  -- an import begins with a round, if nothing waits
  pub round_first : (text : List ℕ) (first : B) → IsLawful (show first) → (show first).IsSettled → Round text (show first) (show first) 0
  round_first text first law still = record {
    start = first;
    law = law;
    still = still;
    later = omega arith;
    bides = bides_none (show first);
    records = [];
    begin = inl refl;
    counted = refl;
    stands = λ w sure spelled. stands_none (λ v. (show first).world ≡ v) w spelled;
  }

  -- it goes on
  pub round_more : (text : List ℕ) (first x y : View) (kept : ℕ) → Round text first x kept → Bides x y → Round text first y kept
  round_more text first x y kept round bides = record {
    start = round.start;
    law = round.law;
    still = round.still;
    later = round.later;
    bides = bides_then round.bides bides;
    records = round.records;
    begin = round.begin;
    counted = round.counted;
    stands = round.stands;
  }

  module _
      (text : List ℕ) (first : View) (x at : B) (law : IsLawful (show at)) where
    -- a settle that kept the rows leaves them
    pub same_kept : {T E : Type 0} {v : T} → Settles {E = E} (show x) (show at) (Ok v) → (show at).doubt ≡ 0 → ((show x).doubt ≡ 0) × ((show at).world ≡ (show x).world)
    same_kept settles sure = let it = settles.ok (low_sure (sure_before (law.deep) sure)) in (it.0, it.2)

    -- doubt doesn't fall over rounds
    pub round_later : (kept : ℕ) → Round text first (show x) kept → (show x).harm ≤ (show at).harm → (show at).IsSettled → first.doubt ≤ (show at).doubt
    round_later kept round lasts ends =
        let one = round.later in
        let two = (round.law.rest round.still).0 in
        let three = round.bides.lasts in
        let four = (law.rest ends).0 in
        omega (arith, one, two, three, lasts, four)

    -- a settle that kept the rows begins a round
    pub round_kept : {T E : Type 0} {v : T} (kept n : ℕ) (it : Records) (tally : Tally) → Settles {E = E} (show x) (show at) (Ok v) → n ≡ rows_counted tally
        → ComeTo text first (show x) it tally → Round text first (show x) kept → Round text first (show at) n
    round_kept kept n it tally settles count come round = record {
      start = at;
      law = law;
      still = settles.ends;
      later = round_later kept round settles.lasts settles.ends;
      bides = bides_none (show at);
      records = come.records;
      begin = are_first text it tally come.records come.going;
      counted = sym come.going.counted ∙ sym count;
      stands = λ w sure spelled. let same = same_kept settles sure in rw same.1 (come.stands w (same.0, spelled));
    }

    -- where a settle of some rows leads
    pub come_some : {T E : Type 0} {v : T} (kept n all : ℕ) (it : Records) (tally : Tally)
        → ((n ≡ kept) × (at ≡ x)) ⊎ ((n ≡ all) × Settles {E = E} (show x) (show at) (Ok v))
        → ComeTo text first (show x) it tally → ComeTo text first (show at) it tally
    come_some kept n all it tally (inl same) come = rw same.1 come
    come_some kept n all it tally (inr kept_all) come = come_on text first (show x) (show at) it tally (same_kept kept_all.1) come

    pub round_some : {T E : Type 0} {v : T} (kept n all : ℕ) (it : Records) (tally : Tally)
        → ((n ≡ kept) × (at ≡ x)) ⊎ ((n ≡ all) × Settles {E = E} (show x) (show at) (Ok v)) → all ≡ rows_counted tally
        → ComeTo text first (show x) it tally → Round text first (show x) kept → Round text first (show at) n
    round_some kept n all it tally (inl same) count come round = rw (same.0, same.1) round
    round_some kept n all it tally (inr kept_all) count come round = round_kept kept n it tally kept_all.1 (kept_all.0 ∙ count) come round

    -- what an import leaves that a fault ends
    round_broken : (kept all done : ℕ) (it : Records) (tally : Tally) (w : World) → SettlesRows (show x) (show at) all kept done → all ≡ rows_counted tally
        → ComeTo text first (show x) it tally → Round text first (show x) kept → (first.doubt ≡ 0 → (first.world ≡ w)) → (show at).doubt ≡ 0 → IsBroken (λ v. (show at).world ≡ v) w text done
    round_broken kept all done it tally w settles count come round was sure = by (settles.keeps none)
      where
        none : (show at).harm ≡ 0
        none = sure_before (law.deep) sure

        spelled : (first.world ≡ w)
        spelled = was (sure_before (round_later kept round settles.lasts settles.ends) sure)

        still_none : (show x).harm ≡ 0
        still_none = sure_before settles.lasts none

        first_none : (show round.start).harm ≡ 0
        first_none = sure_before round.bides.lasts still_none

        by : ((done ≡ all) × ((show x).doubt ≡ 0) × ((show at).world ≡ (show x).world)) ⊎ ((done ≡ kept) × (show x).defers × ((show at).world ≡ (show x).base)) → IsBroken (λ v. (show at).world ≡ v) w text done
        by (inl made) = record {
          records = come.records;
          first = are_first text it tally come.records come.going;
          rows_before = sym come.going.counted ∙ sym (made.0 ∙ count);
          stands = rw made.2 (come.stands w (made.1, spelled));
        }
        by (inr back) =
            let same : (show at).world ≡ (show round.start).world = back.2 ∙ (round.bides.stands back.1 still_none).0 ∙ sym ((round.law.rest round.still).1 first_none) in
            record {
              records = round.records;
              first = round.begin;
              rows_before = round.counted ∙ sym back.0;
              stands = rw same (round.stands w ((round.law.rest round.still).0 ∙ first_none) spelled);
            }

    pub round_ended : (kept all done : ℕ) (it : Records) (tally : Tally) → SettlesRows (show x) (show at) all kept done → all ≡ rows_counted tally
        → ComeTo text first (show x) it tally → (first.IsSettled → Round text first (show x) kept) → Ended text first (show at) done
    round_ended kept all done it tally settles count come round = record {
      later = λ still. round_later kept (round still) settles.lasts settles.ends;
      broken = λ w sure was. round_broken kept all done it tally w settles count come (round was.still) was.is sure;
    }

-- and its World is balanced
pub broken_balanced : (now w : World) (text : List ℕ) (rows : ℕ) → IsBroken (λ v. now ≡ v) w text rows → IsReachable w → StandsBalanced now
broken_balanced now w text rows is reachable = stands_balanced now w is.records is.stands reachable
