-- A book over a connection, in a round or in none: what begins a round, changes in it and ends it give what the trait says.
use Rattle.mx_tables.proofs.Common.{◌≡◌, ℕ, ◌≤◌, Ok, inl, inr, refl, ◌∙◌, true, false, arith, office_schema, Database, Rows, state}
use Rattle.std.proofs.Common.{Err, Result, Bool, IsTrue, OnOk, OnErr, sym, ap, ap₂, subst}
use Rattle.std.proofs.lemmas.Bool.{cases_Bool}
use Rattle.std.proofs.lemmas.Result.{IfErr-weaker}
use Rattle.std.specs.Prelude.{is_err, IsSome}
use Rattle.std.specs.Result.{IsErr}
use Rattle.sqlite_trees.specs.Tree.{Trees}
use Rattle.sqlite_trees.proofs.Doubt.{clean_of}
use Rattle.sqlite_trees.specs.declared.store.Store.{Ghosts}
use Rattle.sqlite_schema.specs.declared.schema.Schema.{Schema}
use Rattle.sqlite.specs.Held.{Held}
use Rattle.sqlite.specs.State.{State, HasCleanDisk}
use Rattle.mx_book.specs.Keeps.{Bides, Explains, HasCause, Keeps, Settles}
use Rattle.mx_book.specs.declared.contract.StoreFault.{StoreFault}
use Rattle.mx_book.specs.declared.contract.StoreFault.TheVariants.{Memory, Store}
use Rattle.mx_tables.specs.Holds.{SpellsOne}
use Rattle.mx_tables.specs.Cached.{BringsThrough}
use Rattle.mx_tables.specs.States.{Blames, IsExplained, SpellAny, worry, unsure, IsOurs, Leaves, Stays}
use Rattle.mx_tables.specs.Rounds.{ChangesRound, IsKept, Abides, Begins, ChangesIn, Ends, Lent, LeavesBase, IsLimited, IsSettled, faults_of, rows_of, base_of, doubt_of, harm_of}
use Rattle.mx_tables.specs.declared.cache.Cache.{Cache}
use Rattle.mx_tables.proofs.RoundLemmas.{before}
use Rattle.mx_tables.proofs.ThroughLemmas.{through_same}
use Rattle.mx_tables.proofs.StateLemmas.{sure, sure_in, no_unsure, no_worry, not_lied, unsure_later, worry_later, sure_before}

-- ---- steps

pub abides_then : (a b c : State) → Abides a b → Abides b c → Abides a c
abides_then a b c one two = record {
  clean = (let e = one.clean in let f = two.clean in omega arith);
  opens = λ clean live. one.opens (before b c two.clean clean) (two.opens clean live);
  committed = λ clean live. two.committed clean live ∙ one.committed (before b c two.clean clean) (two.opens clean live);
  stops = λ clean db left. one.stops (before b c two.clean clean) db (two.stops clean db left);
}

module _ {S : Type 0} (g : Ghosts S) where
  -- what is settled abides
  pub bides_by : (old new : Lent S) → IsKept old.1 (state g old.0) → Abides (state g old.0) (state g new.0)
      → Bides (harm_of g) (base_of g) (Unit {0}) (LeavesBase g) old new
  bides_by old new kept abides =
      let a = state g old.0 in
      let b = state g new.0 in
      record {
        lasts = worry_later a b abides.clean abides.opens;
        stands = λ waits none. abides.committed (sure b none).1 (sure b none).0;
        stops = λ low db left. record {
          base = λ none. kept.base (sure a none).1 (sure a none).0;
          schema = left.schema;
          trees = abides.stops (not_lied b low) db.trees left.trees;
        };
      }

  settled_by : (begun : Bool) (old new : State) (r : Result (Unit {0}) StoreFault) → IsKept begun old → Ends begun old new r → HasCleanDisk new → IsTrue new.is_open → new.now ≡ new.committed
  settled_by begun old new (Ok x) kept ends clean live = let it = ends.ok kept clean in it.3 ∙ sym it.4
  settled_by begun old new (Err e) kept ends clean live = let it = (ends.err kept clean).1 live in it.0 ∙ sym it.1

  -- a settle
  pub settles_by : (old : Lent S) (new : Held S) (r : Result (Unit {0}) StoreFault) → IsKept old.1 (state g old.0) → Ends old.1 (state g old.0) (state g new) r
      → Settles (doubt_of g) (rows_of g) (harm_of g) (base_of g) (Unit {0}) (IsSettled g) (LeavesBase g) old (new, false) r
  settles_by old new r kept ends = record {
    lasts = worry_later (state g old.0) (state g new) ends.clean ends.opens;
    ends = λ clean. (refl, λ live. settled_by old.1 (state g old.0) (state g new) r kept ends clean live);
    ok = λ low. ok_by r (ends.ok kept (not_lied (state g new) low)) (not_lied (state g new) low);
    err = λ none. err_by r (ends.err kept (sure (state g new) none).1) (sure (state g new) none).0;
    stops = λ low db left. elim (ends.stops kept (not_lied (state g new) low) db.trees left.trees) [
      | inl was ↦ inl (record {
        base = λ none. kept.base (sure (state g old.0) none).1 (sure (state g old.0) none).0;
        schema = left.schema;
        trees = was;
      })
      | inr made ↦ inr (
        made.0,
        let it = sure_in old.1 (state g old.0) made.0 in
            ap₂ (λ (s : Schema) (t : Trees). record { schema = s; trees = t }) (left.schema ∙ sym (kept.schema it.1 it.0)) made.1,
      )
    ];
  }
    where
      ok_by : (q : Result (Unit {0}) StoreFault) → OnOk q ((unsure old.1 (state g old.0) ≡ 0) × IsTrue (state g new).is_open × ((state g new).in_transaction ≡ false) × ((state g new).now ≡ (state g old.0).now) × ((state g new).committed ≡ (state g old.0).now))
          → HasCleanDisk (state g new) → OnOk q ((doubt_of g old ≡ 0) × (harm_of g (new, false) ≡ 0) × (rows_of g (new, false) ≡ rows_of g old))
      ok_by (Ok x) it clean = (it.0, no_worry (state g new) it.1 clean, it.3)
      ok_by (Err e) it clean = tt

      err_by : (q : Result (Unit {0}) StoreFault) → OnErr q (((state g new).in_transaction ≡ false) × (IsTrue (state g new).is_open → ((state g new).now ≡ (state g old.0).committed) × ((state g new).committed ≡ (state g old.0).committed)))
          → IsTrue (state g new).is_open → OnErr q (Unit {0} × (rows_of g (new, false) ≡ base_of g old))
      err_by (Ok x) it live = tt
      err_by (Err e) it live = (tt, (it.1 live).0)

  pub kept_settled : (begun : Bool) (old new : State) (r : Result (Unit {0}) StoreFault) → IsKept begun old → Ends begun old new r → IsKept false new
  kept_settled begun old new (Ok x) kept ends = record {
    idle = λ clean none. (ends.ok kept clean).2;
    steady = λ clean live outside. let it = ends.ok kept clean in it.3 ∙ sym it.4;
    schema = λ clean live. let it = ends.ok kept clean in ap (λ (d : Database). d.schema) it.3 ∙ kept.schema (before old new ends.clean clean) (ends.opens clean live);
    base = λ clean live. let it = ends.ok kept clean in ap (λ (d : Database). d.schema) it.4 ∙ kept.schema (before old new ends.clean clean) (ends.opens clean live);
  }
  kept_settled begun old new (Err e) kept ends = record {
    idle = λ clean none. (ends.err kept clean).0;
    steady = λ clean live outside. let it = (ends.err kept clean).1 live in it.0 ∙ sym it.1;
    schema = λ clean live. ap (λ (d : Database). d.schema) ((ends.err kept clean).1 live).0 ∙ kept.base (before old new ends.clean clean) (ends.opens clean live);
    base = λ clean live. ap (λ (d : Database). d.schema) ((ends.err kept clean).1 live).1 ∙ kept.base (before old new ends.clean clean) (ends.opens clean live);
  }

-- ---- a change in a round

pub began_was : (b after : Bool) (old mid : State) (r : Result (Unit {0}) StoreFault) → IsKept b old → Begins b old after mid r → unsure after mid ≡ 0 → unsure b old ≡ 0
began_was b after old mid r kept begins h =
    let it = sure_in after mid h in
    no_unsure b old ((begins.abides kept).opens it.1 it.0) (before old mid begins.clean it.1) (elim (cases_Bool b) [
      | inl u ↦ let later = begins.later u in inr (later.1 (elim it.2 [ inl none ↦ absurd (cc) | inr inside ↦ inside ]))
      | inr v ↦ inl v
    ])

module _ (begun : Bool) (mid new : State) (Done : Type 0) (went : HasCleanDisk mid → (begun ≡ true) × IsTrue mid.in_transaction) where
  pub changed_was : (r : Result (Unit {0}) StoreFault) → ChangesIn mid new r Done → unsure begun new ≡ 0 → unsure begun mid ≡ 0
  changed_was r changes h =
      let it = sure_in begun new h in
      let early = before mid new changes.clean it.1 in
      let there = went early in
      no_unsure begun mid ((changes.abides it.1 there.1).opens it.1 it.0) early (inr there.1)

  pub changed_abides : (r : Result (Unit {0}) StoreFault) → ChangesIn mid new r Done → Abides mid new
  changed_abides r changes = record {
    clean = changes.clean;
    opens = λ clean live. (changes.abides clean (went (before mid new changes.clean clean)).1).opens clean live;
    committed = λ clean live. (changes.abides clean (went (before mid new changes.clean clean)).1).committed clean live;
    stops = λ clean db left. (changes.abides clean (went (before mid new changes.clean clean)).1).stops clean db left;
  }

  pub changed_err : (r : Result (Unit {0}) StoreFault) → ChangesIn mid new r Done → unsure begun new ≡ 0 → OnErr r (new.now ≡ mid.now)
  changed_err (Ok x) changes h = tt
  changed_err (Err e) changes h =
      let it = sure_in begun new h in
      let there = went (before mid new changes.clean it.1) in
      elim (changes.err it.1 there.1) [
        | inl same ↦ same.1 it.0
        | inr over ↦ absurd (elim it.2 [ inl none ↦ (let x = there.0 in cc) | inr inside ↦ (let x = over.0 in cc) ])
      ]

  pub changed_kept : (r : Result (Unit {0}) StoreFault) → ChangesIn mid new r Done → IsKept begun mid → (Done → mid.now.schema ≡ office_schema → new.now.schema ≡ office_schema) → IsKept begun new
  changed_kept (Ok x) changes kept spares = record {
    idle = λ clean none. absurd (let x = (went (before mid new changes.clean clean)).0 in cc);
    steady = λ clean live outside. absurd (let x = (changes.ok clean (went (before mid new changes.clean clean)).1).2 in cc);
    schema = λ clean live.
        let early = before mid new changes.clean clean in
        let there = went early in
        spares (changes.ok clean there.1).3 (kept.schema early (changes.ok clean there.1).0);
    base = λ clean live.
        let early = before mid new changes.clean clean in
        let there = went early in
        ap (λ (d : Database). d.schema) ((changes.abides clean there.1).committed clean live) ∙ kept.base early ((changes.abides clean there.1).opens clean live);
  }
  changed_kept (Err e) changes kept spares = record {
    idle = λ clean none. absurd (let x = (went (before mid new changes.clean clean)).0 in cc);
    steady = λ clean live outside.
        let there = went (before mid new changes.clean clean) in
        elim (changes.err clean there.1) [
          | inl same ↦ absurd (let x = same.0 in cc)
          | inr over ↦ over.1 live ∙ sym ((changes.abides clean there.1).committed clean live)
        ];
    schema = λ clean live.
        let early = before mid new changes.clean clean in
        let there = went early in
        elim (changes.err clean there.1) [
          | inl same ↦ ap (λ (d : Database). d.schema) (same.1 live) ∙ kept.schema early ((changes.abides clean there.1).opens clean live)
          | inr over ↦ ap (λ (d : Database). d.schema) (over.1 live) ∙ kept.base early ((changes.abides clean there.1).opens clean live)
        ];
    base = λ clean live.
        let early = before mid new changes.clean clean in
        let there = went early in
        ap (λ (d : Database). d.schema) ((changes.abides clean there.1).committed clean live) ∙ kept.base early ((changes.abides clean there.1).opens clean live);
  }

pub sure_zero : (a b : ℕ) → a ≤ b → b ≡ 0 → a ≡ 0
sure_zero a b later sure = omega (arith, later, sure)

pub err_then : {A T E : Type 0} (x y z : A) (r : Result T E) → OnErr r (x ≡ y) → y ≡ z → OnErr r (x ≡ z)
err_then x y z (Ok v) h same = tt
err_then x y z (Err e) h same = h ∙ same

-- the change that a round makes, where its begin failed
pub round_stopped : (b after : Bool) (old new : State) (r q : Result (Unit {0}) StoreFault) (Done : Type 0) → IsErr q → Begins b old after new r → ChangesRound b old after new q Done
round_stopped b after old new r (Ok x) Done err begins = absurd (cc)
round_stopped b after old new r (Err e) Done err begins = record {
  later = λ kept. unsure_later b after old new begins.clean (began_was b after old new r kept begins);
  abides = begins.abides;
  kept = begins.kept;
  ok = λ kept h. tt;
  err = λ kept h. let it = sure_in after new h in begins.same kept it.1 it.2 it.0;
}

-- and where it began
pub round_changed : {fits : Rows → Type 0} {change : Rows → Rows} {k l : Cache} (b after : Bool) (old mid new : State) (r : Result (Unit {0}) StoreFault) → Begins b old after mid (Ok tt)
    → ChangesIn mid new r (mid.now.schema ≡ office_schema → BringsThrough fits change mid new k l) → ChangesRound b old after new r (BringsThrough fits change old new k l)
round_changed {fits} {change} {k} {l} b after old mid new r begins changes =
    let went = λ (kept : IsKept b old). begins.ok kept in
    let abides = λ (kept : IsKept b old). abides_then old mid new (begins.abides kept) (changed_abides after mid new _ (went kept) r changes) in
    let same = λ (kept : IsKept b old) (h : unsure after new ≡ 0).
    let here = sure_in after mid (changed_was after mid new _ (went kept) r changes h) in
    begins.same kept here.1 here.2 here.0 in
    record {
      later = λ kept. unsure_later b after old new (abides kept).clean (λ h. began_was b after old mid (Ok tt) kept begins (changed_was after mid new _ (went kept) r changes h));
      abides = abides;
      kept = λ kept. changed_kept after mid new _ (went kept) r changes (begins.kept kept) (λ done has. (done has).schema);
      ok = λ kept h. ok_by r (let it = sure_in after new h in changes.ok it.1 (went kept (before mid new changes.clean it.1)).1) (same kept h) (let here = sure_in after mid (changed_was after mid new _ (went kept) r changes h) in (begins.kept kept).schema here.1 here.0);
      err = λ kept h. err_then _ _ _ r (changed_err after mid new _ (went kept) r changes h) (same kept h);
    }
  where
    ok_by : (q : Result (Unit {0}) StoreFault) → OnOk q (IsTrue mid.is_open × IsTrue new.is_open × IsTrue new.in_transaction × (mid.now.schema ≡ office_schema → BringsThrough fits change mid new k l)) → mid.now ≡ old.now → mid.now.schema ≡ office_schema
        → OnOk q (BringsThrough fits change old new k l)
    ok_by (Ok x) it is has = through_same old mid new new is refl (it.3 has)
    ok_by (Err e) it is has = tt

-- what is said of an answer that is no fault, and of one that is
pub ok_said : {T E P : Type 0} (r : Result T E) (b : Bool) → b ≡ is_err r → b ≡ false → OnOk r P → P
ok_said (Ok x) b is none it = it
ok_said (Err e) b is none it = absurd (cc)

pub err_said : {T E P : Type 0} (r : Result T E) (b : Bool) → b ≡ is_err r → b ≡ true → OnErr r P → P
err_said (Ok x) b is one it = absurd (cc)
err_said (Err e) b is one it = it

-- ---- reads

pub ours_of : (begun : Bool) (s : State) → IsKept begun s → IsOurs begun s
ours_of begun s k = record {
  idle = k.idle;
  steady = λ h outside. sym (k.steady (sure s h).1 (sure s h).0 outside);
  schema = λ h. k.schema (sure s h).1 (sure s h).0;
  base = λ h. k.base (sure s h).1 (sure s h).0;
}

pub kept_of : (begun : Bool) (s : State) → IsOurs begun s → IsKept begun s
kept_of begun s o = record {
  idle = o.idle;
  steady = λ c live outside. sym (o.steady (no_worry s live c) outside);
  schema = λ c live. o.schema (no_worry s live c);
  base = λ c live. o.base (no_worry s live c);
}

clean_worry : (s : State) → HasCleanDisk s → worry s ≤ 1
clean_worry s clean = let it : IsTrue s.is_clean = clean_of s.is_clean clean in grind (arith, it)

low_first : (a b : ℕ) → a ≤ b → b ≤ 1 → a ≤ 1
low_first a b later low = omega (arith, later, low)

-- what is to blame for a fault is its cause
blamed : (old new : State) (e : StoreFault) → Blames old new e → HasCause (IsSome old.step_limit) old.faults new.faults e
blamed old new Memory h = tt
blamed old new Store (inl more) = λ free counted. omega (arith, more, counted)
blamed old new Store (inr limited) = λ free counted. absurd (free limited)

-- why a read fails is what the trait says
pub explains_by : {S : Type 0} (g : Ghosts S) {T : Type 0} {r : Result T StoreFault} (old : Lent S) (new : Held S) → IsOurs old.1 (state g old.0) → Stays old.1 (state g old.0) (state g new)
    → IsExplained g old.0 new r SpellAny → Explains (doubt_of g) (rows_of g) SpellsOne (faults_of g) (IsLimited g) old (new, old.1) r
explains_by g {r = r} old new ours stays why = record {
  counts = stays.counts;
  limits = subst IsSome stays.limit;
  cause = λ w sure one. IfErr-weaker r _ _ (blamed (state g old.0) (state g new)) (why old.1 ours sure one.spelled.rows one.spelled.holds (w, one.spelled.spells));
}

-- what a read leaves keeps what the trait says
pub keeps_stays : {S : Type 0} (g : Ghosts S) (old : Lent S) (new : Held S) → IsKept old.1 (state g old.0) → Stays old.1 (state g old.0) (state g new)
    → Keeps (doubt_of g) (rows_of g) (harm_of g) (base_of g) (Unit {0}) (IsSettled g) (LeavesBase g) old (new, old.1)
keeps_stays g old new kept stays =
    let a = state g old.0 in
    let b = state g new in
    record {
      later = stays.later;
      same = stays.same;
      bides = record {
        lasts = stays.lasts;
        stands = λ waits none. stays.base none;
        stops = λ low db left. record {
          base = λ none. kept.base (sure a none).1 (sure a none).0;
          schema = left.schema;
          trees = stays.stops low db.trees left.trees;
        };
      };
      rests = λ settled clean.
          let cold = not_lied a (low_first (worry a) (worry b) stays.lasts (clean_worry b clean)) in
          let it = settled cold in (
            it.0,
            λ live.
                let none = no_worry b live clean in
                let early = sure a (sure_before a b stays.lasts none) in
                stays.same (no_unsure old.1 b live clean (inl it.0)) ∙ it.1 early.0 ∙ sym (stays.base none),
          );
    }

-- ---- the opening and the end

-- what no round has begun on rests
pub rests_ours : {S : Type 0} (g : Ghosts S) (h : Held S) → IsOurs false (state g h) → IsSettled g (h, false)
rests_ours g h ours clean = (refl, λ live. sym (ours.steady (no_worry (state g h) live clean) (ours.idle clean refl)))

-- what rests is as outside a round, and a stop leaves it
module _ {S : Type 0} (g : Ghosts S) (t : Lent S) (kept : IsKept t.1 (state g t.0)) (settled : IsSettled g t) where
  pub rests_idle : HasCleanDisk (state g t.0) → (state g t.0).in_transaction ≡ false
  rests_idle clean = kept.idle clean (settled clean).0

  pub ours_rested : IsOurs false (state g t.0)
  ours_rested =
      let ours = ours_of t.1 (state g t.0) kept in
      record { idle = λ clean none. rests_idle clean; steady = ours.steady; schema = ours.schema; base = ours.base }

  pub left_rested : (IsTrue (state g t.0).is_open → (state g t.0).may_leave (state g t.0).committed.trees) → worry (state g t.0) ≡ 0 → Leaves (state g t.0) (state g t.0).now
  left_rested law none =
      let it = sure (state g t.0) none in
      record {
        base = λ h. kept.base it.1 it.0;
        schema = kept.schema it.1 it.0;
        trees = subst (λ (d : Database). (state g t.0).may_leave d.trees) (sym ((settled it.1).1 it.0)) (law it.0);
      }
