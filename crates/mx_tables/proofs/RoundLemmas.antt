-- What BEGIN and COMMIT do, as texts.
use Rattle.mx_tables.proofs.Common.{arith, ◌≡◌, ℕ, ◌≤◌, List, [], codes, length, Ok, inl, inr, refl, ◌∙◌, true, false, office_schema, None, Some}
use Rattle.std.proofs.Common.{◌⊎◌, Err, Result, Bool, IsTrue, sym, ap, subst, le_refl}
use Rattle.sqlite_trees.specs.Tree.{Trees}
use Rattle.sqlite_schema.specs.declared.command.Command.{Command}
use Rattle.sqlite_schema.specs.declared.command.Command.TheVariants.{Begin, Commit}
use Rattle.sqlite_resolve.specs.declared.compiled.Compiled.{Compiled}
use Rattle.sqlite_resolve.specs.declared.error.CompileError.{CompileError}
use Rattle.sqlite_tied.specs.Compute.{everything}
use Rattle.sqlite.specs.declared.error.Error.{Error}
use Rattle.sqlite.specs.Given.{IsPlain}
use Rattle.sqlite.specs.Listing.{understood}
use Rattle.sqlite.specs.Effect.{Database}
use Rattle.sqlite.specs.Steps.{Discards, FailsAtMark}
use Rattle.sqlite.specs.State.{State, Savepoint, HasCleanDisk, IsUnchanged, IsRolledBack, Executes, ExecutesIn, IsNotRun, IsNoStatement, CommitsBy, Survives, Shows, Marks, ReleasesAt, begins_at}
use Rattle.sqlite.proofs.Callers.{command_of, runs_as}
use Rattle.sqlite_trees.specs.View.{doubt}
use Rattle.std.proofs.Common.{zero, suc, ◌+◌, ◌++◌, ◌∷◌, map, take, slice_get, not}
use Rattle.std.specs.Prelude.{option_map}
use Rattle.std.proofs.lemmas.Option.{get_or_from_slice_get, slice_get-map, slice_get_within}
use Rattle.mx_book.specs.declared.contract.StoreFault.{StoreFault}
use Rattle.std.specs.Result.{IsErr}
use Rattle.sqlite_trees.specs.declared.store.Store.{Ghosts}
use Rattle.sqlite.specs.Held.{Held, state}
use Rattle.mx_tables.specs.Rounds.{Begins, ChangesIn, Ends, IsKept}
use Rattle.mx_tables.specs.States.{unsure}
use Rattle.mx_tables.specs.States.{IsUndone, Within}
use Rattle.mx_tables.proofs.StateLemmas.{Quits, no_unsure, quits, quits_now, leaves_less}

-- the text is one statement, which takes nothing
abbrev pub IsOne : List ℕ → Result Compiled CompileError → Type 0
IsOne sql (Ok c) = (length sql ≤ c.tail) × (0 ≡ length c.names)
IsOne sql (Err e) = ⊥

-- the text is this command
pub record IsControl (sql : List ℕ) (k : Command) : Type 0 where
  pub is : command_of (understood office_schema sql) ≡ k
  pub plain : IsPlain (understood office_schema sql)
  pub one : IsOne sql (understood office_schema sql)

abbrev pub begin : List ℕ
begin = codes "BEGIN"

abbrev pub commit : List ℕ
commit = codes "COMMIT"

pub begin_is : IsControl begin Begin
unfolding understood everything
begin_is = record { is = refl; plain = (refl, refl); one = (le_refl _, refl) }

pub commit_is : IsControl commit Commit
unfolding understood everything
commit_is = record { is = refl; plain = (refl, refl); one = (le_refl _, refl) }

module _ (sql : List ℕ) (k : Command) (control : IsControl sql k) (old new : State) (has : old.now.schema ≡ office_schema) where
  known : {r : Result Compiled CompileError} → understood old.now.schema sql ≡ r → understood office_schema sql ≡ r
  known is = ap (λ s. understood s sql) (sym has) ∙ is

  command : (c : Compiled) → understood old.now.schema sql ≡ Ok c → c.command ≡ k
  command c is = ap command_of (sym (known is)) ∙ control.is

  bare : (c : Compiled) → understood old.now.schema sql ≡ Ok c → (c.returning ≡ None) × (c.formats ≡ [])
  bare c is = subst IsPlain (known is) control.plain

  -- it is a statement
  pub never_refused : (e : Error) → IsNoStatement old sql [] e → ⊥
  never_refused e (inl h) = subst (IsOne sql) (known h.1) control.one
  never_refused e (inr h) =
      let one = subst (IsOne sql) (known h.1) control.one in
      elim h.2 [
        | inl part ↦ part.0 one.0
        | inr (inl count) ↦ count.0 one.1
        | inr (inr clock) ↦ clock.0 (bare h.0 h.1).1
      ]

  -- where it isn't run, the store failed
  pub not_run_fails : (e : Error) → IsNotRun old new sql [] e → IsRolledBack old new
  unfolding IsNotRun
  not_run_fails e (inl h) = absurd (never_refused e h.0)
  not_run_fails e (inr h) = h.3

-- a COMMIT in a transaction that fails is undone
pub commit_fails : (old new : State) → old.now.schema ≡ office_schema → IsTrue old.in_transaction → (e : Error) → Executes commit [] old new (Err e) → IsRolledBack old new
unfolding ExecutesIn
commit_fails old new has inside e (inl h) = not_run_fails commit Commit commit_is old new has e h
commit_fails old new has inside e (inr ran) =
    let is = command commit Commit commit_is old new has ran.0 ran.1.is in
    let plain = bare commit Commit commit_is old new has ran.0 ran.1.is in
    let it = rw (is, plain.0) at ran.2 in
    elim it [
      | inl (inl (inl misplaced), same) ↦ absurd (elim misplaced.1 [ inl begins ↦ (let x = begins.0 in cc) | inr outside ↦ (let x = outside.1 in cc) ])
      | inl (inl (inr named), same) ↦ absurd (elim named.2 [ inl x ↦ cc | inr x ↦ cc ])
      | inl (inr changes, same) ↦ absurd (elim changes.0 [ inl never ↦ never | inr some ↦ (let x = some in cc) ])
      | inr failed ↦ failed.3
    ]

-- and what a stop adds is what was there
pub commit_leaves : (old : State) → IsTrue old.in_transaction → (db : Trees) → CommitsBy commit [] old db → db ≡ old.now.trees
unfolding CommitsBy
commit_leaves old inside db h = elim h.2 [ inl kept ↦ kept.1 | inr wrote ↦ absurd (let x = wrote.0 in cc) ]

-- a BEGIN commits nothing
pub begin_leaves : (old : State) → old.now.schema ≡ office_schema → (db : Trees) → CommitsBy begin [] old db → ⊥
unfolding CommitsBy
begin_leaves old has db h =
    let is = command begin Begin begin_is old old has h.0 h.1.is in
    let plain = bare begin Begin begin_is old old has h.0 h.1.is in
    let it = rw (is, plain.0) at h.2 in
    elim it [
      | inl ends ↦ elim ends.0 [ inl x ↦ cc | inr x ↦ (let y = x.2 in cc) ]
      | inr wrote ↦ (let x = wrote.3 in cc)
    ]

-- a BEGIN outside a transaction that fails leaves what was committed
pub begin_fails : (old new : State) → old.now.schema ≡ office_schema → old.in_transaction ≡ false → (e : Error) → Executes begin [] old new (Err e) → IsRolledBack old new
unfolding ExecutesIn
begin_fails old new has outside e (inl h) = not_run_fails begin Begin begin_is old new has e h
begin_fails old new has outside e (inr ran) =
    let is = command begin Begin begin_is old new has ran.0 ran.1.is in
    let plain = bare begin Begin begin_is old new has ran.0 ran.1.is in
    let it = rw (is, plain.0) at ran.2 in
    elim it [
      | inl (inl (inl misplaced), same) ↦ absurd (elim misplaced.1 [ inl begins ↦ (let x = begins.1 in cc) | inr ends ↦ elim ends.0 [ inl x ↦ cc | inr x ↦ cc ] ])
      | inl (inl (inr named), same) ↦ absurd (elim named.2 [ inl x ↦ cc | inr x ↦ cc ])
      | inl (inr changes, same) ↦ absurd (elim changes.0 [ inl never ↦ never | inr some ↦ (let x = some in cc) ])
      | inr failed ↦ failed.3
    ]

pub before : (old new : State) → doubt old.is_clean ≤ doubt new.is_clean → HasCleanDisk new → HasCleanDisk old
before old new clean now = omega (arith, clean, now)

-- ---- the begin of a round

-- that isn't made, since the text isn't prepared
pub begins_refused : (begun : Bool) (old new : State) (e : StoreFault) → begun ≡ false → (old.in_transaction ≡ false → new.in_transaction ≡ false) → Survives old new (λ _. ⊥) → (HasCleanDisk new → Quits old new)
    → Begins begun old begun new (Err e)
begins_refused begun old new e none mode survives left =
    let was = λ (c : HasCleanDisk new). before old new survives.clean c in
    let opened = λ (c : HasCleanDisk new) (live : IsTrue new.is_open). (quits old new (left c)).was_open live in
    let same = λ (kept : IsKept begun old) (c : HasCleanDisk new) (live : IsTrue new.is_open).
    quits_now old new (left c) live (sym (kept.steady (was c) (opened c live) (kept.idle (was c) none))) in
    record {
      clean = survives.clean;
      abides = λ kept. record { clean = survives.clean; opens = opened; committed = λ c live. (quits old new (left c)).committed live; stops = leaves_less old new survives };
      kept = λ kept. record {
        idle = λ c x. mode (kept.idle (was c) x);
        steady = λ c live outside. (same kept c live).0 ∙ sym (same kept c live).1;
        schema = λ c live. ap (λ (d : Database). d.schema) (same kept c live).0 ∙ kept.schema (was c) (opened c live);
        base = λ c live. ap (λ (d : Database). d.schema) (same kept c live).1 ∙ kept.schema (was c) (opened c live);
      };
      same = λ kept c either live. (same kept c live).0;
      ok = λ kept c. tt;
      later = λ u. absurd (let x = sym none ∙ u in cc);
    }

-- what was prepared and ran
module _ (begun after : Bool) (old mid new : State) (text : List ℕ) (none : begun ≡ false) (is : after ≡ new.in_transaction) (first : Survives old mid (λ _. ⊥))
    (made : HasCleanDisk mid → (text ≡ begin) × IsUnchanged old mid) (second : Survives mid new (CommitsBy text [] mid)) where
  early : HasCleanDisk new → HasCleanDisk mid
  early c = before mid new second.clean c

  has : (kept : IsKept begun old) → HasCleanDisk mid → mid.now.schema ≡ office_schema
  has kept c = let it = (made c).1 in ap (λ (d : Database). d.schema) it.0.now_is ∙ kept.schema (before old mid first.clean c) it.0.was_open

  outside : (kept : IsKept begun old) → HasCleanDisk mid → mid.in_transaction ≡ false
  outside kept c = (made c).1.0.mode ∙ kept.idle (before old mid first.clean c) none

  leaves : (kept : IsKept begun old) → HasCleanDisk new → (db : Trees) → new.may_leave db → old.may_leave db
  leaves kept c db left = elim (second.crash c db left) [
    | inl was ↦ leaves_less old mid first (early c) db was
    | inr commits ↦ absurd (begin_leaves mid (has kept (early c)) db (subst (λ t. CommitsBy t [] mid db) (made (early c)).0 commits))
  ]

  whole : doubt old.is_clean ≤ doubt new.is_clean
  whole = let e = first.clean in let f = second.clean in omega arith

  pub begins_made : (n : ℕ) → (HasCleanDisk new → Executes text [] mid new (Ok n)) → Begins begun old after new (Ok tt)
  begins_made n ran =
      let went = λ (kept : IsKept begun old) (c : HasCleanDisk new).
      runs_as begin [] mid new office_schema (has kept (early c)) Begin begin_is.is begin_is.plain n (subst (λ t. Executes t [] mid new (Ok n)) (made (early c)).0 (ran c)) in
      record {
        clean = whole;
        abides = λ kept. record {
          clean = whole;
          opens = λ c live. (made (early c)).1.0.was_open;
          committed = λ c live. (went kept c).1.committed_is ∙ (made (early c)).1.0.committed_is;
          stops = leaves kept;
        };
        kept = λ kept. record {
          idle = λ c x. sym is ∙ x;
          steady = λ c live out. absurd (let x = (went kept c).1.mode in cc);
          schema = λ c live. ap (λ (d : Database). d.schema) (went kept c).1.now_is ∙ has kept (early c);
          base = λ c live. ap (λ (d : Database). d.schema) ((went kept c).1.committed_is ∙ (made (early c)).1.0.committed_is) ∙ kept.base (before old new whole c) (made (early c)).1.0.was_open;
        };
        same = λ kept c either live. (went kept c).1.now_is ∙ (made (early c)).1.0.now_is;
        ok = λ kept c. (is ∙ (went kept c).1.mode, (went kept c).1.mode);
        later = λ u. absurd (let x = sym none ∙ u in cc);
      }

  pub begins_failed : (e : Error) (f : StoreFault) → (HasCleanDisk new → Executes text [] mid new (Err e)) → Begins begun old after new (Err f)
  begins_failed e f ran =
      let back = λ (kept : IsKept begun old) (c : HasCleanDisk new).
      begin_fails mid new (has kept (early c)) (outside kept (early c)) e (subst (λ t. Executes t [] mid new (Err e)) (made (early c)).0 (ran c)) in
      let committed = λ (kept : IsKept begun old) (c : HasCleanDisk new) (live : IsTrue new.is_open). ((back kept c).undone live).1 ∙ (made (early c)).1.0.committed_is in
      let now = λ (kept : IsKept begun old) (c : HasCleanDisk new) (live : IsTrue new.is_open). ((back kept c).undone live).0 ∙ (made (early c)).1.0.committed_is in
      record {
        clean = whole;
        abides = λ kept. record {
          clean = whole;
          opens = λ c live. (made (early c)).1.0.was_open;
          committed = committed kept;
          stops = leaves kept;
        };
        kept = λ kept. record {
          idle = λ c x. (back kept c).autocommit;
          steady = λ c live out. now kept c live ∙ sym (committed kept c live);
          schema = λ c live. ap (λ (d : Database). d.schema) (now kept c live) ∙ kept.base (before old new whole c) (made (early c)).1.0.was_open;
          base = λ c live. ap (λ (d : Database). d.schema) (committed kept c live) ∙ kept.base (before old new whole c) (made (early c)).1.0.was_open;
        };
        same = λ kept c either live.
            let cold = before old new whole c in
            now kept c live ∙ sym (kept.steady cold (made (early c)).1.0.was_open (kept.idle cold none));
        ok = λ kept c. tt;
        later = λ u. absurd (let x = sym none ∙ u in cc);
      }

-- a round that has begun goes on
pub begins_on : (begun : Bool) (s : State) → begun ≡ true → IsTrue s.in_transaction → Begins begun s begun s (Ok tt)
begins_on begun s on inside = record {
  clean = omega arith;
  abides = λ kept. record { clean = omega arith; opens = λ c live. live; committed = λ c live. refl; stops = λ c db left. left };
  kept = λ kept. kept;
  same = λ kept c either live. refl;
  ok = λ kept c. (on, inside);
  later = λ y. (y, λ i. i);
}

-- ---- the end of a round

-- what isn't prepared in a database of the office
not_run_back : (sql : List ℕ) (k : Command) → IsControl sql k → (old new : State) → (IsTrue old.is_open → old.now.schema ≡ office_schema) → (e : Error) → IsNotRun old new sql [] e → IsRolledBack old new
unfolding IsNotRun
not_run_back sql k control old new has e (inl h) = absurd (never_refused sql k control old new (has h.1.0.was_open) e h.0)
not_run_back sql k control old new has e (inr h) = h.3

pub ends_refused : (begun : Bool) (old new : State) (e : Error) (f : StoreFault) → Survives old new (λ _. ⊥) → (HasCleanDisk new → Quits old new) → (HasCleanDisk new → IsNotRun old new commit [] e) → Ends begun old new (Err f)
ends_refused begun old new e f survives left refused =
    let back = λ (kept : IsKept begun old) (c : HasCleanDisk new). not_run_back commit Commit commit_is old new (kept.schema (before old new survives.clean c)) e (refused c) in
    record {
      clean = survives.clean;
      opens = λ c live. (quits old new (left c)).was_open live;
      ok = λ kept c. tt;
      err = λ kept c. ((back kept c).autocommit, λ live. (back kept c).undone live);
      stops = λ kept c db gone. inl (leaves_less old new survives c db gone);
    }

module _ (begun : Bool) (old mid new : State) (text : List ℕ) (on : begun ≡ true) (inside : IsTrue mid.in_transaction) (first : Survives old mid (λ _. ⊥))
    (made : HasCleanDisk mid → (text ≡ commit) × IsUnchanged old mid) (second : Survives mid new (CommitsBy text [] mid)) where
  soon : HasCleanDisk new → HasCleanDisk mid
  soon c = before mid new second.clean c

  all : doubt old.is_clean ≤ doubt new.is_clean
  all = let e = first.clean in let f = second.clean in omega arith

  ours : (kept : IsKept begun old) → HasCleanDisk mid → mid.now.schema ≡ office_schema
  ours kept c = let it = (made c).1 in ap (λ (d : Database). d.schema) it.0.now_is ∙ kept.schema (before old mid first.clean c) it.0.was_open

  steady : HasCleanDisk new → unsure begun old ≡ 0
  steady c = let it = (made (soon c)).1.0 in no_unsure begun old it.was_open (before old new all c) (inr (sym it.mode ∙ inside))

  gone : HasCleanDisk new → (db : Trees) → new.may_leave db → old.may_leave db ⊎ ((unsure begun old ≡ 0) × (db ≡ old.now.trees))
  gone c db left = elim (second.crash c db left) [
    | inl was ↦ inl (leaves_less old mid first (soon c) db was)
    | inr commits ↦ inr (steady c, commit_leaves mid inside db (subst (λ t. CommitsBy t [] mid db) (made (soon c)).0 commits) ∙ ap (λ (d : Database). d.trees) (made (soon c)).1.0.now_is)
  ]

  pub ends_made : (n : ℕ) → (HasCleanDisk new → Executes text [] mid new (Ok n)) → Ends begun old new (Ok tt)
  ends_made n ran =
      let went = λ (kept : IsKept begun old) (c : HasCleanDisk new).
      runs_as commit [] mid new office_schema (ours kept (soon c)) Commit commit_is.is commit_is.plain n (subst (λ t. Executes t [] mid new (Ok n)) (made (soon c)).0 (ran c)) in
      record {
        clean = all;
        opens = λ c live. (made (soon c)).1.0.was_open;
        ok = λ kept c.
            let it = (went kept c).1 in
            let same = (made (soon c)).1.0.now_is in
            (steady c, it.is_open, it.mode, it.now_is ∙ same, it.committed_is ∙ same);
        err = λ kept c. tt;
        stops = λ kept. gone;
      }

  pub ends_failed : (e : Error) (f : StoreFault) → (HasCleanDisk new → Executes text [] mid new (Err e)) → Ends begun old new (Err f)
  ends_failed e f ran =
      let back = λ (kept : IsKept begun old) (c : HasCleanDisk new).
      commit_fails mid new (ours kept (soon c)) inside e (subst (λ t. Executes t [] mid new (Err e)) (made (soon c)).0 (ran c)) in
      record {
        clean = all;
        opens = λ c live. (made (soon c)).1.0.was_open;
        ok = λ kept c. tt;
        err = λ kept c.
            let same = (made (soon c)).1.0.committed_is in
            ((back kept c).autocommit, λ live. (((back kept c).undone live).0 ∙ same, ((back kept c).undone live).1 ∙ same));
        stops = λ kept. gone;
      }

-- ---- a change in a savepoint

-- the one behind the others
got_last : {A : Type 0} (xs : List A) (x : A) → slice_get (xs ++ x ∷ []) (length xs) ≡ Some x
got_last [] x = refl
got_last (y ∷ xs) x = got_last xs x

length_last : {A : Type 0} (xs : List A) (x : A) → length (xs ++ x ∷ []) ≡ length xs + 1
length_last [] x = refl
length_last (y ∷ xs) x = let e = length_last xs x in omega (arith, e)

got_suc : {A : Type 0} (xs : List A) (n : ℕ) → slice_get (take (suc n) xs) n ≡ slice_get xs n
got_suc [] n = refl
got_suc (x ∷ xs) zero = refl
got_suc (x ∷ xs) (suc n) = got_suc xs n

got_within : {A : Type 0} (xs : List A) (n : ℕ) → slice_get (take (n + 1) xs) n ≡ slice_get xs n
got_within xs n = let e : n + 1 ≡ suc n = omega arith in rw e (got_suc xs n)

pub begins_got : (s : State) (at : ℕ) (it : Savepoint) → slice_get s.marks at ≡ Some it → begins_at s at ≡ it.begins
begins_got s at it got = get_or_from_slice_get (map (λ (p : Savepoint). p.begins) s.marks) at it.begins false (slice_get-map (λ (p : Savepoint). p.begins) s.marks at ∙ ap (λ o. option_map (λ (p : Savepoint). p.begins) o) got)

-- a savepoint that was begun in a transaction, and steps in it
module _ (old mark mid new : State) (at : ℕ) (first : Survives old mark (λ _. ⊥)) (marked : HasCleanDisk mark → (at ≡ length old.marks) × Marks old mark []) where
  abbrev pub point : Savepoint
  point = record { name = []; begins = not old.in_transaction; db = old.now }

  module _ {T E : Type 0} (r : Result T E) (step : Within (at + 1) mark mid r) where
    -- it is there still, or the transaction was rolled back
    there : HasCleanDisk mid → HasCleanDisk mark
    there c = before mark mid step.clean c

    pub kept_point : HasCleanDisk mid → (slice_get mid.marks at ≡ Some point) ⊎ IsUndone mark mid
    kept_point c =
        let m = marked (there c) in
        let grown : mark.marks ≡ old.marks ++ point ∷ [] = m.1.2 in
        let size : length mark.marks ≡ at + 1 = ap length grown ∙ length_last old.marks point ∙ ap (λ n. n + 1) (sym m.0) in
        let top : slice_get mark.marks at ≡ Some point = rw (grown, m.0) (got_last old.marks point) in
        elim (step.marks c m.1.0.mode) [
          | inl same ↦ inl (sym (got_within mid.marks at) ∙ ap (λ ms. slice_get ms at) (same (omega (arith, size))) ∙ got_within mark.marks at ∙ top)
          | inr back ↦ inr back
        ]

    pub never_begins : IsTrue old.in_transaction → slice_get mid.marks at ≡ Some point → begins_at mid at ≡ false
    never_begins inside got = begins_got mid at point got ∙ ap not inside

-- after steps that answered Ok it is there, and it didn't begin the transaction
pub never_at : (old mark mid : State) (at : ℕ) → Survives old mark (λ _. ⊥) → (HasCleanDisk mark → (at ≡ length old.marks) × Marks old mark []) → Within {T = Unit {0}} {E = StoreFault} (at + 1) mark mid (Ok tt)
    → HasCleanDisk mid → IsTrue old.in_transaction → begins_at mid at ≡ false
never_at old mark mid at first marked step c inside =
    elim (kept_point old mark mid mid at first marked (Ok tt) step c) [
      | inl got ↦ never_begins old mark mid mid at first marked (Ok tt) step inside got
      | inr back ↦ absurd (let x = step.inside c (marked (before mark mid step.clean c)).1.0.mode in let y = back.autocommit in cc)
    ]

-- a change whose savepoint was released
pub change_made : (old mark mid new : State) (at : ℕ) → Survives old mark (λ _. ⊥) → (HasCleanDisk mark → (at ≡ length old.marks) × Marks old mark []) → Within {T = Unit {0}} {E = StoreFault} (at + 1) mark mid (Ok tt)
    → Survives mid new (λ db. IsTrue (begins_at mid at) × (db ≡ mid.now.trees)) → (HasCleanDisk new → ReleasesAt mid new at) → (Done : Type 0)
    → (HasCleanDisk new → mark.now ≡ old.now → new.now ≡ mid.now → IsTrue mark.in_transaction → Done) → ChangesIn old new (Ok tt) Done
change_made old mark mid new at first marked step second released Done done =
    let early : HasCleanDisk new → HasCleanDisk mid = λ c. before mid new second.clean c in
    let start : HasCleanDisk new → HasCleanDisk mark = λ c. before mark mid step.clean (early c) in
    let whole : doubt old.is_clean ≤ doubt new.is_clean = let e = first.clean in let f = step.clean in let h = second.clean in omega arith in
    let never = λ (c : HasCleanDisk new) (inside : IsTrue old.in_transaction). never_at old mark mid at first marked step (early c) inside in
    let drops = λ (c : HasCleanDisk new) (inside : IsTrue old.in_transaction).
    let it : Shows mid new mid.now mid.committed true = elim (released c) [
      | inl commits ↦ absurd (let x = commits.0 in let y = never c inside in cc)
      | inr it ↦ it.1.0
    ] in it in
    let kept = λ (c : HasCleanDisk new) (inside : IsTrue old.in_transaction) (live : IsTrue new.is_open).
    let m = (marked (start c)).1 in
    let k = step.kept (early c) m.0.mode in
    (drops c inside).committed_is ∙ k.committed (drops c inside).was_open ∙ m.0.committed_is in
    record {
      clean = whole;
      abides = λ c inside. record {
        clean = whole;
        opens = λ e live. (marked (start c)).1.0.was_open;
        committed = λ e live. kept c inside live;
        stops = λ e db left. elim (second.crash e db left) [
          | inl was ↦ leaves_less old mark first (start c) db (step.stops (early c) db was)
          | inr commits ↦ absurd (let x = commits.0 in let y = never c inside in cc)
        ];
      };
      ok = λ c inside.
          let m = (marked (start c)).1 in
          (m.0.was_open, (drops c inside).is_open, (drops c inside).mode, done c m.0.now_is (drops c inside).now_is m.0.mode);
      err = λ c inside. tt;
    }

-- a change whose savepoint was undone, be it since a step failed or since its release did
pub change_undone : (old mark mid new : State) (at : ℕ) {T E : Type 0} (r : Result T E) (f : StoreFault) → Survives old mark (λ _. ⊥) → (HasCleanDisk mark → (at ≡ length old.marks) × Marks old mark [])
    → Within (at + 1) mark mid r → doubt mid.is_clean ≤ doubt new.is_clean → (HasCleanDisk new → IsTrue old.in_transaction → (db : Trees) → new.may_leave db → mid.may_leave db)
    → (HasCleanDisk new → Discards mid new at ⊎ ((e : Error) × FailsAtMark mid new at e)) → (Done : Type 0) → ChangesIn old new (Err f) Done
change_undone old mark mid new at r f first marked step clean less ended Done =
    let early : HasCleanDisk new → HasCleanDisk mid = λ c. before mid new clean c in
    let start : HasCleanDisk new → HasCleanDisk mark = λ c. before mark mid step.clean (early c) in
    let whole : doubt old.is_clean ≤ doubt new.is_clean = let e = first.clean in let h = step.clean in omega (arith, clean) in
    let sign = λ (c : HasCleanDisk new). (marked (start c)).1 in
    let keeps = λ (c : HasCleanDisk new). step.kept (early c) (marked (start c)).1.0.mode in
    -- what was committed before the step is committed in the middle
    let middle = λ (c : HasCleanDisk new) (live : IsTrue mid.is_open). (keeps c).committed live ∙ (sign c).0.committed_is in
    let over = λ (c : HasCleanDisk new) (back : IsRolledBack mid new).
    let it : (new.in_transaction ≡ false) × (IsTrue new.is_open → new.now ≡ old.committed) × (IsTrue new.is_open → new.committed ≡ old.committed) =
    (back.autocommit, λ live. (back.undone live).0 ∙ middle c (back.was_open live), λ live. (back.undone live).1 ∙ middle c (back.was_open live)) in it in
    let how = λ (c : HasCleanDisk new) (inside : IsTrue old.in_transaction).
    let it : ((IsTrue new.in_transaction × (IsTrue new.is_open → new.now ≡ old.now)) ⊎ ((new.in_transaction ≡ false) × (IsTrue new.is_open → new.now ≡ old.committed))) × (IsTrue new.is_open → new.committed ≡ old.committed) =
    elim (kept_point old mark mid new at first marked r step (early c)) [
      | inl got ↦ elim (ended c) [
        | inl (inl begins) ↦ absurd (let x = begins.0 in let y = never_begins old mark mid new at first marked r step inside got in cc)
        | inl (inr back) ↦ (
          inl (back.3.mode, λ live. back.3.now_is ∙ (let same : back.0 ≡ point old mark mid new at first marked = cc (sym back.1 ∙ got) in ap (λ (p : Savepoint). p.db) same)),
          λ live. back.3.committed_is ∙ middle c back.3.was_open,
        )
        | inr (e, inl fails) ↦ let it = over c fails.3 in (inr (it.0, it.1), it.2)
        | inr (e, inr late) ↦ absurd (let x = slice_get_within mid.marks at _ got in let y = late.1 in omega (arith, x, y))
      ]
      | inr back ↦ elim (ended c) [
        | inl (inl begins) ↦ let it = over c begins.1 in (inr (it.0, it.1), it.2)
        | inl (inr undone) ↦ absurd (let x = undone.1 in let y = back.unmarked in cc (x, y))
        | inr (e, inl fails) ↦ let it = over c fails.3 in (inr (it.0, it.1), it.2)
        | inr (e, inr late) ↦
            let same = late.2.0 in (
              inr (same.mode ∙ back.autocommit, λ live. same.now_is ∙ (back.undone same.was_open).0 ∙ (sign c).0.committed_is),
              λ live. same.committed_is ∙ (back.undone same.was_open).1 ∙ (sign c).0.committed_is,
            )
      ]
    ] in it in
    record {
      clean = whole;
      abides = λ c inside. record {
        clean = whole;
        opens = λ e live. (marked (start c)).1.0.was_open;
        committed = λ e live. (how c inside).1 live;
        stops = λ e db left. leaves_less old mark first (start c) db (step.stops (early c) db (less c inside db left));
      };
      ok = λ c inside. tt;
      err = λ c inside. (how c inside).0;
    }

pub not_twice : (b : Bool) → not (not b) ≡ b
not_twice true = refl
not_twice false = refl

pub not_false : (b : Bool) → false ≡ not b → IsTrue b
not_false true h = refl
not_false false h = absurd (cc)

-- what a change is by another name of the connection
pub changes_err : {S : Type 0} (g : Ghosts S) (old : State) (a b : Held S) (Done : Type 0) (r : Result (Unit {0}) StoreFault) → a ≡ b → IsErr r → ((f : StoreFault) → ChangesIn old (state g a) (Err f) Done) → ChangesIn old (state g b) r Done
changes_err g old a b Done (Ok x) same err f = absurd (cc)
changes_err g old a b Done (Err e) same err f = subst (λ h. ChangesIn old (state g h) (Err e) Done) same (f e)

pub changes_ok : {S : Type 0} (g : Ghosts S) (old : State) (a b : Held S) (Done : Held S → Type 0) → a ≡ b → ChangesIn old (state g a) (Ok tt) (Done a) → ChangesIn old (state g b) (Ok tt) (Done b)
changes_ok g old a b Done same it = subst (λ h. ChangesIn old (state g h) (Ok tt) (Done h)) same it
