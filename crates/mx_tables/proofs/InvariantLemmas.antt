-- What tables keep true of their connection and their cache, over each call.
use Rattle.mx_tables.proofs.Common.{◌≡◌, Bool, true, false, List, Ok, refl, fold, rewritten, Rows, Database, Holds, state}
use Rattle.std.proofs.Common.{Err, IsTrue, Result, OnOk, OnErr, IfOk, sym, subst}
use Rattle.sqlite_trees.specs.declared.store.Store.{Ghosts}
use Rattle.sqlite.specs.Held.{Held}
use Rattle.sqlite.specs.State.{State, HasCleanDisk}
use Rattle.mx_book.specs.Edits.{Fits}
use Rattle.mx_book.specs.Spells as book
use Rattle.mx_book.specs.World.{World}
use Rattle.mx_book.specs.declared.contract.StoreFault.{StoreFault}
use Rattle.mx_book.specs.declared.edits.Edit.{Edit}
use Rattle.mx_tables.specs.Cached.{Agrees, EditsThrough, Invariant, ReadsThrough}
use Rattle.mx_tables.specs.Holds.{Spells, SpellsOne}
use Rattle.mx_tables.specs.Rounds.{ChangesRound, Ends}
use Rattle.mx_tables.specs.States.{IsOurs, Stays, unsure, worry}
use Rattle.mx_tables.specs.declared.cache.Cache.{Cache}
use Rattle.mx_tables.proofs.BookLemmas.{kept_of, kept_settled, ours_of}
use Rattle.mx_tables.proofs.RoundLemmas.{before}
use Rattle.mx_tables.proofs.CacheLemmas.{fit_all}
use Rattle.mx_tables.proofs.KeptLemmas.{one_held, spelled_after, spelled_one, spells_after}
use Rattle.mx_tables.proofs.StateLemmas.{no_worry, sound, sure, sure_before, sure_first, sure_in}

-- a World that is there
abbrev pub IsWorldly : Database → Type 0
IsWorldly db = (w : World) × Spells db w

moved : (old new : Database) → new ≡ old → IsWorldly old → IsWorldly new
moved old new same = subst IsWorldly (sym same)

pub ours_in : {b known : Bool} {s : State} {k : Cache} → Invariant b s k known → IsOurs b s
ours_in {b} {s = s} it = ours_of b s it.kept

-- ---- reads

pub stays_invariant : {b known : Bool} {old new : State} {k : Cache} → Invariant b old k known → Stays b old new → Invariant b new k known
stays_invariant {b} {old = old} {new = new} it stays = record {
  kept = kept_of b new stays.ours;
  caches = λ calm r w holds spells. it.caches (sure_first stays.later calm) r w (subst (λ (d : Database). Holds d r) (stays.same calm) holds) spells;
  represents = λ known. record {
    now = λ calm. moved old.now new.now (stays.same calm) ((it.represents known).now (sure_first stays.later calm));
    base = λ none. moved old.committed new.committed (stays.base none) ((it.represents known).base (sure_before old new stays.lasts none));
  };
}

module _ {S : Type 0} (g : Ghosts S) {b known : Bool} {old new : Held S} {k l : Cache} {T : Type 0} {r : Result T StoreFault} {is : Rows → World → T → Type 0} (it : Invariant b (state g old) k known) (read : ReadsThrough g old new k l r is) where
  pub through_stays : Stays b (state g old) (state g new)
  through_stays = read.stays (ours_in it)

  agrees_in : unsure b (state g new) ≡ 0 → (rows : Rows) (w : World) (h : Spells (state g old).now w) → h.rows ≡ rows → Agrees rows l × IfOk r (is rows w)
  agrees_in calm rows w h same =
      let it_is = read.agrees (ours_in it) calm h.rows w h.holds h.spells (it.caches (sure_first through_stays.later calm) h.rows w h.holds h.spells) in
      subst (λ (x : Rows). Agrees x l × IfOk r (is x w)) same it_is

  -- what was filled agrees
  pub through_invariant : Invariant b (state g new) l known
  through_invariant =
      let kept = stays_invariant it through_stays in
      record {
        kept = kept.kept;
        caches = λ calm rows w holds spells.
            (agrees_in calm rows w (record { rows = rows; holds = subst (λ (d : Database). Holds d rows) (through_stays.same calm) holds; spells = spells }) refl).0;
        represents = kept.represents;
      }

  -- and what is given is so of the World
  pub through_value : (says : World → T → Type 0) → ((rows : Rows) (w : World) → IfOk r (is rows w) → IfOk r (says w)) → (w : World) → unsure b (state g new) ≡ 0 → SpellsOne (state g old).now w → IfOk r (says w)
  through_value says f w calm one = f one.spelled.rows w (agrees_in calm one.spelled.rows w one.spelled refl).1

-- ---- a round

-- after a change of the World, which fits it
module _ (es : List Edit) (b after : Bool) (old new : State) {k : Cache} {known : Bool} (it : Invariant b old k known) (fits : (w : World) → unsure b old ≡ 0 → SpellsOne old.now w → Fits w es) where
  abbrev Changed : Cache → Result (Unit {0}) StoreFault → Type 0
  Changed l r = ChangesRound b old after new r (EditsThrough es old new k l)

  -- rows of a World have these edits, and the cache agrees with that
  pub edits_made : (l : Cache) → EditsThrough es old new k l → unsure b old ≡ 0 → (w : World) (was : Spells old.now w) → Holds new.now (fold rewritten was.rows es) × Agrees (fold rewritten was.rows es) l
  edits_made l went early w was =
      went.rows was.rows was.holds (fit_all was.rows w es was.spells.spelled (fits w early (spelled_one was)).each) (it.caches early was.rows w was.holds was.spells)

  -- the World is another, or the same
  changed_world : (l : Cache) (r : Result (Unit {0}) StoreFault) → Changed l r → known ≡ true → unsure after new ≡ 0 → IsWorldly new.now
  changed_world l (Ok x) changes is calm =
      let early = sure_first (changes.later it.kept) calm in
      let was = (it.represents is).now early in
      (_, spelled_after es was.0 old.now new.now was.1 (fits was.0 early (spelled_one was.1)) (edits_made l (changes.ok it.kept calm) early was.0 was.1).0)
  changed_world l (Err e) changes is calm = moved old.now new.now (changes.err it.kept calm) ((it.represents is).now (sure_first (changes.later it.kept) calm))

  changed_by : (l m : Cache) (r : Result (Unit {0}) StoreFault) → Changed l r → ((calm : unsure after new ≡ 0) (rows : Rows) (w : World) → Holds new.now rows → book.Spells rows w → Agrees rows m) → Invariant after new m known
  changed_by l m r changes agrees =
      let abides = changes.abides it.kept in
      record {
        kept = changes.kept it.kept;
        caches = agrees;
        represents = λ is. record {
          now = changed_world l r changes is;
          base = λ none.
              let here = sure new none in
              moved old.committed new.committed (abides.committed here.1 here.0) ((it.represents is).base (no_worry old (abides.opens here.1 here.0) (before old new abides.clean here.1)));
        };
      }

  -- with nothing cached
  pub changed_afresh : (l m : Cache) (r : Result (Unit {0}) StoreFault) → Changed l r → ((rows : Rows) → Agrees rows m) → Invariant after new m known
  changed_afresh l m r changes all = changed_by l m r changes (λ calm rows w holds spells. all rows)

  -- with a cache that followed
  pub changed_followed : (l : Cache) (r : Result (Unit {0}) StoreFault) → Changed l r → known ≡ true → OnOk r (Invariant after new l known)
  changed_followed l (Err e) changes is = tt
  changed_followed l (Ok x) changes is = changed_by l l (Ok x) changes (λ calm rows w holds spells.
      let early = sure_first (changes.later it.kept) calm in
      let was = (it.represents is).now early in
      let s = was.1 in
      let made = edits_made l (changes.ok it.kept calm) early was.0 s in
      let then : Spells new.now _ = record { rows = fold rewritten s.rows es; holds = made.0; spells = spells_after es was.0 s.rows s.spells (fits was.0 early (spelled_one s)) } in
      let now : Spells new.now w = record { rows = rows; holds = holds; spells = spells } in
      subst (λ (x : Rows). Agrees x l) (one_held new.now _ w then now) made.1)

-- ---- the end of a round

module _ {S : Type 0} (g : Ghosts S) {b known : Bool} {old new : State} {k : Cache} (it : Invariant b old k known) where
  -- what waited stands
  pub settled_invariant : (r : Result (Unit {0}) StoreFault) → Ends b old new r → OnOk r (Invariant false new k known)
  settled_invariant (Err e) ends = tt
  settled_invariant (Ok x) ends =
      let done = λ (clean : HasCleanDisk new). ends.ok it.kept clean in
      record {
        kept = kept_settled g b old new (Ok x) it.kept ends;
        caches = λ calm rows w holds spells. let here = sure_in false new calm in it.caches (done here.1).0 rows w (subst (λ (d : Database). Holds d rows) (done here.1).3 holds) spells;
        represents = λ is. record {
          now = λ calm. let here = sure_in false new calm in moved old.now new.now (done here.1).3 ((it.represents is).now (done here.1).0);
          base = λ none. let here = sure new none in moved old.now new.committed (done here.1).4 ((it.represents is).now (done here.1).0);
        };
      }

  -- or what was committed before, with nothing cached
  pub settled_afresh : (l : Cache) (r : Result (Unit {0}) StoreFault) → Ends b old new r → ((rows : Rows) → Agrees rows l) → OnErr r (Invariant false new l known)
  settled_afresh l (Ok x) ends all = tt
  settled_afresh l (Err e) ends all =
      let gone = λ (clean : HasCleanDisk new) (live : IsTrue new.is_open). (ends.err it.kept clean).1 live in
      let was = λ (is : known ≡ true) (clean : HasCleanDisk new) (live : IsTrue new.is_open). (it.represents is).base (no_worry old (ends.opens clean live) (before old new ends.clean clean)) in
      record {
        kept = kept_settled g b old new (Err e) it.kept ends;
        caches = λ calm rows w holds spells. all rows;
        represents = λ is. record {
          now = λ calm. let here = sure_in false new calm in moved old.committed new.now (gone here.1 here.0).0 (was is here.1 here.0);
          base = λ none. let here = sure new none in moved old.committed new.committed (gone here.1 here.0).1 (was is here.1 here.0);
        };
      }

-- ---- the beginning

-- over tables that rest, with nothing cached
pub first_invariant : {k : Cache} {known : Bool} (s : State) → IsOurs false s → (known ≡ true → worry s ≡ 0 → IsWorldly s.now) → ((rows : Rows) → Agrees rows k) → Invariant false s k known
first_invariant s ours there all = record {
  kept = kept_of false s ours;
  caches = λ calm rows w holds spells. all rows;
  represents = λ is. record {
    now = λ calm. there is (sound false s calm);
    base = λ none. let clean = (sure s none).1 in moved s.now s.committed (ours.steady none (ours.idle clean refl)) (there is none);
  };
}
