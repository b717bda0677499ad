-- What a statement leaves of the connection.
use Rattle.mx_tables.proofs.Common.{◌≡◌, inl, inr, ℕ, ◌≤◌, Bool, true, false, List, Ok, Option, Some, None, refl, ◌∙◌, arith, Row, Database, state, Holds, office_schema, Rows}
use Rattle.std.proofs.Common.{take, length, length-take, length-take-le, ◌⊎◌, Err, Result, OnOk, OnErr, IsTrue, sym, ap, subst}
use Rattle.std.proofs.lemmas.Bool.{cases_Bool}
use Rattle.std.proofs.lemmas.Result.{IfOk-from_err}
use Rattle.std.specs.Result.{IsErr}
use Rattle.sqlite_trees.specs.View.{doubt}
use Rattle.sqlite_trees.specs.Tree.{Trees}
use Rattle.sqlite_trees.proofs.Doubt.{no_doubt, clean_of}
use Rattle.sqlite_schema.specs.declared.schema.Schema.{Schema}
use Rattle.sqlite_schema.specs.declared.command.Command.{Command}
use Rattle.sqlite_syntax.specs.declared.statement.Parsed.{Parsed}
use Rattle.sqlite_resolve.specs.declared.error.CompileError.{CompileError}
use Rattle.sqlite_resolve.specs.Lowering.{and_then}
use Rattle.sqlite_resolve.specs.Compile.{first, planned, meaning, compiled, with_command}
use Rattle.sqlite_trees.specs.declared.store.Store.{Ghosts}
use Rattle.sqlite_schema.specs.declared.command.Returning.{Returning}
use Rattle.sqlite_resolve.specs.declared.compiled.Compiled.{Compiled}
use Rattle.sqlite.specs.declared.error.Error.{Error}
use Rattle.sqlite.specs.Given.{IsPlain, HasBegun, IsRefused}
use Rattle.sqlite.specs.Held.{Held}
use Rattle.sqlite.proofs.Callers.{begun_plain}
use Rattle.sqlite.specs.Listing.{understood, listing_schema, if_select}
use Rattle.sqlite.specs.State.{State, HasCleanDisk, IsUnchanged, IsRolledBack, Shows, Fails, FailsToQuery, FailsToShow, IsNotRun, Shown, ShowsRows, KeepsCommit, ExecutesInside, IsTooLate, Survives, CommitsShowing}
use Rattle.mx_tables.specs.States.{unsure, worry, IsAwake, IsAt, IsOurs, IsText, IsSilent, ShowsNothing, StaysIdle, Stays, StaysAt, KeepsMarks, Within, Brings}

-- a statement that fails changes nothing, or its transaction is rolled back
abbrev pub Quits : State → State → Type 0
Quits old new = IsUnchanged old new ⊎ IsRolledBack old new

-- what showed rows was open and stays so, and inside a transaction it commits nothing
abbrev Showed : State → State → Type 0
Showed old new = (now : Database) × (committed : Database) × Shows old new now committed old.in_transaction × (IsTrue old.in_transaction → committed ≡ old.committed)

-- ---- worry

-- without worry the connection is open and its disk clean
pub sure : (s : State) → worry s ≡ 0 → IsTrue s.is_open × HasCleanDisk s
sure s h = (grind (arith, h), no_doubt s.is_clean (grind (arith, h)))

pub no_worry : (s : State) → IsTrue s.is_open → HasCleanDisk s → worry s ≡ 0
no_worry s live clean = rw (live, clean_of s.is_clean clean) refl

-- up to 1 the disk told no lie
pub not_lied : (s : State) → worry s ≤ 1 → HasCleanDisk s
not_lied s h = no_doubt s.is_clean (grind (arith, h))

pub awake : (s : State) → (HasCleanDisk s → IsTrue s.is_open) → IsAwake s
awake s live h = no_worry s (live (not_lied s h)) (not_lied s h)

pub awake_by : {T E : Type 0} (s : State) (r : Result T E) → (HasCleanDisk s → OnOk r (IsTrue s.is_open)) → OnOk r (IsAwake s)
awake_by s (Ok x) live = awake s live
awake_by s (Err e) live = tt

-- what is so anyway is so where the answer is Ok, and where it is a fault nothing is said
pub on_ok_anyway : {T E P : Type 0} (r : Result T E) → P → OnOk r P
on_ok_anyway (Ok x) p = p
on_ok_anyway (Err e) p = tt

pub on_ok_never : {T E : Type 0} (r : Result T E) (P : Type 0) → IsErr r → OnOk r P
on_ok_never r P fault = IfOk-from_err r (λ _. P) fault

pub worry_rises : (a b : ℕ) → a ≤ 2 → (b ≡ 0 → a ≡ 0) → (b ≤ 1 → a ≤ 1) → a ≤ b
worry_rises a b low h k = grind (arith, h, k)

pub worry_later : (old new : State) → doubt old.is_clean ≤ doubt new.is_clean → (HasCleanDisk new → IsTrue new.is_open → IsTrue old.is_open) → worry old ≤ worry new
worry_later old new later opened = worry_rises (worry old) (worry new) (grind arith)
    (λ h. let now = sure new h in no_worry old (opened now.1 now.0) (let e = now.1 in omega arith))
    (λ h. let now = not_lied new h in let clean : IsTrue old.is_clean = clean_of old.is_clean (omega arith) in grind (arith, clean))

pub sure_before : (old new : State) → worry old ≤ worry new → worry new ≡ 0 → worry old ≡ 0
sure_before old new later h = omega arith

-- ---- reads

shows_quit : (old new : State) (sql : List ℕ) (c : Compiled) (params : Row) (e : Error) (what : Option Returning) → FailsToShow old new sql c params e what → Quits old new
shows_quit old new sql c params e None h = inl h.3
shows_quit old new sql c params e (Some what) (inl h) = inl h.1
shows_quit old new sql c params e (Some what) (inr h) = inr h.3

pub not_run_quits : (sql : List ℕ) (params : Row) (old new : State) (e : Error) → IsNotRun old new sql params e → Quits old new
unfolding IsNotRun
not_run_quits sql params old new e (inl h) = inl h.1
not_run_quits sql params old new e (inr h) = inr h.3

pub query_quits : (sql : List ℕ) (params : Row) (old new : State) (e : Error) → FailsToQuery sql params old new e → Quits old new
unfolding FailsToQuery
query_quits sql params old new e (inl h) = not_run_quits sql params old new e h
query_quits sql params old new e (inr h) = shows_quit old new sql h.0 _ e h.0.returning h.2

rows_showed : (old new : State) (sql : List ℕ) (c : Compiled) (params : Row) (rows : List Row) (what : Option Returning) → ShowsRows old new sql c params rows what → Showed old new
rows_showed old new sql c params rows None h = (_, _, h.3.0, λ inside. refl)
rows_showed old new sql c params rows (Some what) h = (_, _, h.1.shown, λ inside. rw inside refl)

pub showed : (sql : List ℕ) (params : Row) (old new : State) (rows : List Row) → Shown sql params old new rows → Showed old new
unfolding Shown
showed sql params old new rows h = rows_showed old new sql h.0 _ rows h.0.returning h.2

pub quits : (old new : State) → Quits old new → KeepsCommit old new
quits old new (inl same) = record { was_open = λ _. same.0.was_open; committed = λ _. same.0.committed_is }
quits old new (inr undone) = record { was_open = undone.was_open; committed = λ o. (undone.undone o).1 }

committed_kept : (old new : State) → Quits old new → IsTrue new.is_open → new.committed ≡ old.committed
committed_kept old new (inl same) live = same.0.committed_is
committed_kept old new (inr undone) live = (undone.undone live).1

pub quits_now : (old new : State) → Quits old new → IsTrue new.is_open → old.committed ≡ old.now → (new.now ≡ old.now) × (new.committed ≡ old.now)
quits_now old new (inl same) live steady = (same.0.now_is, same.0.committed_is ∙ steady)
quits_now old new (inr undone) live steady = let it = undone.undone live in (it.0 ∙ steady, it.1 ∙ steady)

-- ---- doubt of a round

-- what is sure is open and clean, and in its transaction where a round has begun
pub sure_in : (begun : Bool) (s : State) → unsure begun s ≡ 0 → IsTrue s.is_open × HasCleanDisk s × ((begun ≡ false) ⊎ IsTrue s.in_transaction)
sure_in true s h = (grind (arith, h), no_doubt s.is_clean (grind (arith, h)), inr (grind (arith, h)))
sure_in false s h = (grind (arith, h), no_doubt s.is_clean (grind (arith, h)), inl refl)

pub no_unsure : (begun : Bool) (s : State) → IsTrue s.is_open → HasCleanDisk s → (begun ≡ false) ⊎ IsTrue s.in_transaction → unsure begun s ≡ 0
no_unsure true s live clean (inl h) = absurd (cc)
no_unsure true s live clean (inr h) = rw (live, clean_of s.is_clean clean, h) refl
no_unsure false s live clean h = rw (live, clean_of s.is_clean clean) refl

unsure_low : (begun : Bool) (s : State) → unsure begun s ≤ 2
unsure_low begun s = grind arith

unsure_clean : (begun : Bool) (s : State) → unsure begun s ≤ 1 → HasCleanDisk s
unsure_clean begun s h = no_doubt s.is_clean (grind (arith, h))

clean_unsure : (begun : Bool) (s : State) → HasCleanDisk s → unsure begun s ≤ 1
clean_unsure begun s clean = let it : IsTrue s.is_clean = clean_of s.is_clean clean in grind (arith, it)

-- doubt doesn't fall where what is sure then was sure before
pub unsure_later : (one two : Bool) (old new : State) → doubt old.is_clean ≤ doubt new.is_clean → (unsure two new ≡ 0 → unsure one old ≡ 0) → unsure one old ≤ unsure two new
unsure_later one two old new clean was = worry_rises (unsure one old) (unsure two new) (unsure_low one old) was
    (λ low. let now = unsure_clean two new low in clean_unsure one old (omega (arith, clean, now)))

-- what is sure isn't worried about
pub sound : (begun : Bool) (s : State) → unsure begun s ≡ 0 → worry s ≡ 0
sound begun s h = let it = sure_in begun s h in no_worry s it.0 it.1

pub idle_sure : (s : State) → worry s ≡ 0 → unsure false s ≡ 0
idle_sure s h = let it = sure s h in no_unsure false s it.0 it.1 (inl refl)

-- before what is sure all was sure
pub sure_first : {a b : ℕ} → a ≤ b → b ≡ 0 → a ≡ 0
sure_first later h = omega (arith, later, h)

pub stays : {begun : Bool} {of : Schema} {Commits : Trees → Type 0} (old new : State) → IsAt begun of old → (old.in_transaction ≡ false → new.in_transaction ≡ false) → Survives old new Commits
    → (HasCleanDisk new → IsTrue new.is_open → IsTrue old.is_open) → (worry new ≡ 0 → old.now.schema ≡ of → Quits old new)
    → (HasCleanDisk new → (db : Trees) → new.may_leave db → old.may_leave db) → StaysAt begun of old new
stays {begun} old new ours mode survives opened quits crash =
    let clean = survives.clean in
    let lasts = worry_later old new clean opened in
    let left = λ (h : worry new ≡ 0). quits h (ours.schema (sure_before old new lasts h)) in
    let was : unsure begun new ≡ 0 → unsure begun old ≡ 0 = λ h.
    let it = sure_in begun new h in
    no_unsure begun old (opened it.1 it.0) (omega (arith, clean, it.1)) (elim it.2 [
      | inl none ↦ inl none
      | inr inside ↦ inr (elim (cases_Bool old.in_transaction) [ inl u ↦ u | inr v ↦ absurd (let x = mode v in cc) ])
    ]) in
    let later = unsure_later begun begun old new clean was in
    let same : unsure begun new ≡ 0 → new.now ≡ old.now = λ h.
    let it = sure_in begun new h in
    let cold : HasCleanDisk old = omega (arith, clean, it.1) in
    elim (left (sound begun new h)) [
      | inl kept ↦ kept.0.now_is
      | inr back ↦ (back.undone it.0).0 ∙ ours.steady (sure_before old new lasts (sound begun new h)) (elim it.2 [
        | inl none ↦ ours.idle cold none
        | inr inside ↦ absurd (let x = back.autocommit in cc)
      ])
    ] in
    let base : worry new ≡ 0 → new.committed ≡ old.committed = λ h. (committed_kept old new (left h)) (sure new h).0 in
    record {
      ours = record {
        idle = λ c none. mode (ours.idle (omega (arith, clean, c)) none);
        steady = λ h outside. elim (left h) [
          | inl it ↦ it.0.committed_is ∙ ours.steady (sure_before old new lasts h) (sym it.0.mode ∙ outside) ∙ sym it.0.now_is
          | inr back ↦ let it = back.undone (sure new h).0 in it.1 ∙ sym it.0
        ];
        schema = λ h. elim (left h) [
          | inl it ↦ ap (λ (d : Database). d.schema) it.0.now_is ∙ ours.schema (sure_before old new lasts h)
          | inr back ↦ ap (λ (d : Database). d.schema) (back.undone (sure new h).0).0 ∙ ours.base (sure_before old new lasts h)
        ];
        base = λ h. ap (λ (d : Database). d.schema) (base h) ∙ ours.base (sure_before old new lasts h);
      };
      lasts = lasts;
      later = later;
      mode = mode;
      same = same;
      base = base;
      stops = λ h db gone. crash (not_lied new h) db gone;
      counts = survives.counts;
      limit = survives.limit;
    }

-- what is idle and steady is so in its schema
pub is_at : (of : Schema) (s : State) → s.in_transaction ≡ false → (IsTrue s.is_open → s.now ≡ s.committed) → s.now.schema ≡ of → IsAt false of s
is_at of s idle steady has = record {
  idle = λ c none. idle;
  steady = λ h outside. sym (steady (sure s h).0);
  schema = λ _. has;
  base = λ h. ap (λ (d : Database). d.schema) (sym (steady (sure s h).0)) ∙ has;
}

-- so is what is read of it, whatever its schema is
pub stays_found : {of : Schema} (old new : State) → ((s : Schema) → IsAt false s old → StaysAt false s old new) → old.in_transaction ≡ false → (IsTrue old.is_open → old.now ≡ old.committed) → old.now.schema ≡ of
    → StaysAt false of old new
stays_found {of} old new stays idle steady has = stays of (is_at of old idle steady has)

-- what is read between calls stays idle
pub rests_at : {of : Schema} (old new : State) → StaysAt false of old new → StaysIdle old new
rests_at old new h = record { autocommit = h.mode; later = h.lasts; same = λ sure. h.same (idle_sure new sure); stops = h.stops }

pub rests_then : (a b c : State) → StaysIdle a b → StaysIdle b c → StaysIdle a c
rests_then a b c one two = record {
  autocommit = λ idle. two.autocommit (one.autocommit idle);
  later = omega (arith, one.later, two.later);
  same = λ h. two.same h ∙ one.same (sure_before b c two.later h);
  stops = λ h db left. one.stops (let e = two.later in omega arith) db (two.stops h db left);
}

pub stays_same : {begun : Bool} {of : Schema} (a : State) → IsAt begun of a → StaysAt begun of a a
stays_same a ours = record { ours = ours; lasts = omega arith; later = omega arith; mode = λ outside. outside; same = λ h. refl; base = λ h. refl; stops = λ h db left. left; counts = omega arith; limit = refl }

pub stays_then : {begun : Bool} {of : Schema} (a b c : State) → StaysAt begun of a b → StaysAt begun of b c → StaysAt begun of a c
stays_then a b c one two = record {
  ours = two.ours;
  lasts = omega (arith, one.lasts, two.lasts);
  later = omega (arith, one.later, two.later);
  mode = λ outside. two.mode (one.mode outside);
  same = λ h. two.same h ∙ one.same (sure_first two.later h);
  base = λ h. two.base h ∙ one.base (sure_before b c two.lasts h);
  stops = λ h db left. one.stops (let e = two.lasts in omega arith) db (two.stops h db left);
  counts = omega (arith, one.counts, two.counts);
  limit = two.limit ∙ one.limit;
}

-- ---- what a stop leaves

by_command : (k : Result Command CompileError) (formats : List (List ℕ)) (p : Parsed) (c : Compiled) → and_then (and_then (and_then k (λ c. Ok (c, None))) (λ found. Ok (formats, found))) (λ plan. Ok (with_command p plan)) ≡ Ok c → c.returning ≡ None
by_command k formats p c h = grind (arith, h)

by_text : (schema : Schema) (r : Result Parsed CompileError) (c : Compiled) → ShowsNothing r → and_then r (λ p. and_then (planned schema p) (λ plan. Ok (with_command p plan))) ≡ Ok c → c.returning ≡ None
unfolding planned meaning
by_text schema (Ok p) c silent h = by_command _ _ p c (rw (silent schema _) at h)
by_text schema (Err e) c silent h = absurd (cc)

compiled_silent : (schema : Schema) (sql : List ℕ) (c : Compiled) → IsSilent sql → compiled schema sql ≡ Ok c → c.returning ≡ None
unfolding compiled
compiled_silent schema sql c silent h = by_text schema (first sql) c silent h

was_compiled : (r : Result Compiled CompileError) (c : Compiled) → if_select r ≡ Ok c → r ≡ Ok c
was_compiled r c h = grind (arith, h)

understood_silent : (schema : Schema) (sql : List ℕ) (c : Compiled) → IsSilent sql → understood schema sql ≡ Ok c → c.returning ≡ None
unfolding understood
understood_silent schema sql c silent h = grind (arith, h, compiled_silent listing_schema sql c silent, compiled_silent schema sql c silent, was_compiled (compiled listing_schema sql) c)

-- such a query leaves the database, whatever the schema is
pub shown_same : (sql : List ℕ) (params : Row) (old new : State) (rows : List Row) → IsSilent sql → Shown sql params old new rows → IsUnchanged old new
unfolding Shown
shown_same sql params old new rows silent h = let it = rw (understood_silent old.now.schema sql h.0 silent h.1.is) at h.2 in it.3

-- and it commits nothing
never_commits : (sql : List ℕ) (params : Row) (s : State) (db : Trees) → IsSilent sql → CommitsShowing sql params s db → ⊥
unfolding CommitsShowing
never_commits sql params s db silent h = let none = understood_silent s.now.schema sql h.0 silent h.1.is in let some = rw none at h.2 in absurd (cc)

-- so a stop leaves what it could leave before
pub leaves_as : (sql : List ℕ) (params : Row) (old new : State) → IsSilent sql → Survives old new (CommitsShowing sql params old) → HasCleanDisk new → (db : Trees) → new.may_leave db → old.may_leave db
leaves_as sql params old new silent it clean db left = elim (it.crash clean db left) [ inl was ↦ was | inr commits ↦ absurd (never_commits sql params old db silent commits) ]

pub leaves_less : (old new : State) → Survives old new (λ _. ⊥) → HasCleanDisk new → (db : Trees) → new.may_leave db → old.may_leave db
leaves_less old new it clean db left = elim (it.crash clean db left) [ inl was ↦ was | inr never ↦ absurd never ]

-- ---- rows one at a time

begun_open : {S : Type 0} (g : Ghosts S) (sql : List ℕ) (params : Row) (old new : Held S) → HasBegun g sql params old new → IsTrue (state g old).is_open
begun_open g sql params old new (inl h) = h.1.0.was_open
begun_open g sql params old new (inr h) = (showed sql params (state g old) (state g new) _ h.1).2.was_open

-- a query that begins leaves the connection open
pub begun_live : {S : Type 0} (g : Ghosts S) (sql : List ℕ) (params : Row) (old new : Held S) → HasBegun g sql params old new → IsTrue (state g new).is_open
begun_live g sql params old new (inl h) = h.1.0.is_open
begun_live g sql params old new (inr h) = (showed sql params (state g old) (state g new) _ h.1).2.is_open

-- and the rows
pub begun_stays : {S : Type 0} {begun : Bool} {of : Schema} (g : Ghosts S) (sql : List ℕ) (params : Row) (old new : Held S) → IsPlain (understood of sql) → IsSilent sql → IsAt begun of (state g old) → (old.in_transaction ≡ false → new.in_transaction ≡ false)
    → Survives (state g old) (state g new) (CommitsShowing sql params (state g old)) → (HasCleanDisk (state g new) → HasBegun g sql params old new) → StaysAt begun of (state g old) (state g new)
begun_stays g sql params old new text silent ours mode survives begun =
    stays (state g old) (state g new) ours mode survives (λ now live. begun_open g sql params old new (begun now))
    (λ h has. inl (begun_plain g sql params old new (subst (λ s. IsPlain (understood s sql)) (sym has) text) (begun (sure (state g new) h).1)).1)
    (leaves_as sql params (state g old) (state g new) silent survives)

-- and so does one that doesn't
pub refused_stays : {S X : Type 0} {begun : Bool} {of : Schema} (g : Ghosts S) (sql : List ℕ) (params : Row) (old new : Held S) (r : Result X Error) (e : Error) → r ≡ Err e → IsSilent sql → IsAt begun of (state g old)
    → OnErr r (IsRefused g sql params old r new) → StaysAt begun of (state g old) (state g new)
refused_stays g sql params old new (Ok x) e is silent ours h = absurd (cc)
refused_stays g sql params old new (Err f) e is silent ours h =
    let left : HasCleanDisk (state g new) → Quits (state g old) (state g new) = λ clean. query_quits sql params (state g old) (state g new) f (h.err clean) in
    stays (state g old) (state g new) ours h.mode h.survives (λ clean. (quits (state g old) (state g new) (left clean)).was_open) (λ h has. left (sure (state g new) h).1)
    (leaves_as sql params (state g old) (state g new) silent h.survives)

-- and why it doesn't
pub refused_fails : {S X : Type 0} (g : Ghosts S) (sql : List ℕ) (params : Row) (old new : Held S) (r : Result X Error) (e : Error) → r ≡ Err e
    → OnErr r (IsRefused g sql params old r new) → HasCleanDisk (state g new) → FailsToQuery sql params (state g old) (state g new) e
refused_fails g sql params old new (Ok x) e is h clean = absurd (cc)
refused_fails g sql params old new (Err f) e is h clean = subst (FailsToQuery sql params (state g old) (state g new)) {x = f} (cc) (h.err clean)

-- a step to the next row, or one that fails, leaves the rows
pub step_stays : {begun : Bool} {of : Schema} (old new : State) → IsAt begun of old → (old.in_transaction ≡ false → new.in_transaction ≡ false) → Survives old new (λ _. ⊥) → (HasCleanDisk new → Quits old new) → StaysAt begun of old new
step_stays old new ours mode survives left = stays old new ours mode survives (λ clean. (quits old new (left clean)).was_open) (λ h has. left (sure new h).1) (leaves_less old new survives)

pub failed_quits : (old new : State) (e : Error) → Fails old new ⊥ e ⊎ IsUnchanged old new → Quits old new
failed_quits old new e (inl failed) = inr failed.3
failed_quits old new e (inr same) = inl same

-- ---- writes in a transaction

-- what was rolled back is undone, and what quits keeps its savepoints or has none
pub quits_marks : (held : ℕ) (old new : State) → Quits old new → KeepsMarks held old new
quits_marks held old new (inl same) = inl (λ low. ap (take held) same.2)
quits_marks held old new (inr back) = inr (record { was_open = back.was_open; undone = back.undone; autocommit = back.autocommit; unmarked = back.unmarked })

-- inside a savepoint no statement changes what is committed, nor the oldest savepoints, whatever its text and the schema are
pub inside_keeps : (held : ℕ) (sql : List ℕ) (params : Row) (old new : State) (r : Result ℕ Error) → ExecutesInside held sql params old new r → KeepsCommit old new × OnOk r (IsTrue new.in_transaction) × KeepsMarks held old new
inside_keeps held sql params old new (Ok count) h = (record { was_open = λ _. h.1.was_open; committed = λ _. h.1.committed_is }, h.1.mode, inl h.2)
inside_keeps held sql params old new (Err e) (inl h) = (quits old new h.1, tt, quits_marks held old new h.1)
inside_keeps held sql params old new (Err e) (inr h) = (quits old new (inl h.2), tt, quits_marks held old new (inl h.2))

-- ---- reads in a transaction

pub shown_keeps : (sql : List ℕ) (params : Row) (old new : State) (rows : List Row) → IsTrue old.in_transaction → Shown sql params old new rows → KeepsCommit old new × IsTrue new.in_transaction
shown_keeps sql params old new rows inside h =
    let it = showed sql params old new rows h in
    (record { was_open = λ _. it.2.was_open; committed = λ _. it.2.committed_is ∙ it.3 inside }, it.2.mode ∙ inside)

pub refused_quits : (sql : List ℕ) (params : Row) (old new : State) (e : Error) → FailsToQuery sql params old new e ⊎ IsTooLate sql params old new e → Quits old new
refused_quits sql params old new e (inl failed) = query_quits sql params old new e failed
refused_quits sql params old new e (inr late) = inl late.5

-- ---- a transaction as a whole

-- what a call that made all its changes, or none, leaves
abbrev pub Changed : {S : Type 0} → Ghosts S → Held S → Held S → (Rows → Rows) → Type 0
Changed g old new change = (state g old).now.schema ≡ office_schema → Brings change (state g old) (state g new)

keeps_then : (a b c : State) → KeepsCommit a b → KeepsCommit b c → KeepsCommit a c
keeps_then a b c one two = record { was_open = λ o. one.was_open (two.was_open o); committed = λ o. two.committed o ∙ one.committed (two.was_open o) }

-- ---- steps inside a transaction

-- a statement that ran or failed
pub within_by : {T F : Type 0} (held : ℕ) (old new : State) (q : Result T F) → Survives old new (λ _. ⊥)
    → (HasCleanDisk new → IsTrue old.in_transaction → KeepsCommit old new × OnOk q (IsTrue new.in_transaction) × KeepsMarks held old new) → Within held old new q
within_by held old new q survives ran = record {
  clean = survives.clean;
  kept = λ clean inside. (ran clean inside).0;
  inside = λ clean inside. (ran clean inside).1;
  marks = λ clean inside. (ran clean inside).2;
  stops = leaves_less old new survives;
}

-- what is taken whole is as long
taken_length : {A : Type 0} (n : ℕ) (xs ys : List A) → n ≤ length xs → take n ys ≡ take n xs → n ≤ length ys
taken_length n xs ys low same =
    let one : length (take n ys) ≡ length (take n xs) = ap length same in
    let size : length (take n xs) ≡ n = length-take-le n xs low in
    let most = length-take n ys in
    omega (arith, one, size, most)

-- savepoints stay over both, where the transaction went on after the first
marks_then : (held : ℕ) (a b c : State) → KeepsCommit a b → KeepsMarks held a b → IsTrue b.in_transaction → KeepsMarks held b c → KeepsMarks held a c
marks_then held a b c kept one inside two = elim one [
  | inl same ↦ elim two [
    | inl again ↦ inl (λ low. let size = taken_length held a.marks b.marks low (same low) in again size ∙ same low)
    | inr back ↦ inr (record {
      was_open = λ live. kept.was_open (back.was_open live);
      undone = λ live. let it = back.undone live in let was = kept.committed (back.was_open live) in (it.0 ∙ was, it.1 ∙ was);
      autocommit = back.autocommit;
      unmarked = back.unmarked;
    })
  ]
  | inr back ↦ absurd (let x = back.autocommit in cc)
]

-- one step and then another
pub within_then : {T U E F : Type 0} (held : ℕ) (a b c : State) (x : T) (r : Result U F) → Within {T = T} {E = E} held a b (Ok x) → Within held b c r → Within held a c r
within_then held a b c x r one two =
    let early = λ (clean : HasCleanDisk c). let it : HasCleanDisk b = (let e = two.clean in omega arith) in it in
    record {
      clean = let e = one.clean in let f = two.clean in omega arith;
      kept = λ clean inside. keeps_then a b c (one.kept (early clean) inside) (two.kept clean (one.inside (early clean) inside));
      inside = λ clean inside. two.inside clean (one.inside (early clean) inside);
      marks = λ clean inside. marks_then held a b c (one.kept (early clean) inside) (one.marks (early clean) inside) (one.inside (early clean) inside) (two.marks clean (one.inside (early clean) inside));
      stops = λ clean db left. one.stops (early clean) db (two.stops clean db left);
    }

pub within_none : {T F : Type 0} (held : ℕ) (a : State) (x : T) → Within {T = T} {E = F} held a a (Ok x)
within_none held a x = record { marks = λ clean inside. inl (λ low. refl); clean = omega arith; kept = λ clean inside. record { was_open = λ o. o; committed = λ o. refl }; inside = λ clean inside. inside; stops = λ clean db left. left }

-- a change of rows that were the same before, and leave the same
pub brings_same : (change : Rows → Rows) (a b c d : State) → b.now ≡ a.now → d.now ≡ c.now → Brings change b c → Brings change a d
brings_same change a b c d before after went = record {
  schema = ap (λ (x : Database). x.schema) after ∙ went.schema;
  rows = λ r holds. subst (λ (x : Database). Holds x (change r)) (sym after) (went.rows r (subst (λ (x : Database). Holds x r) (sym before) holds));
}

-- no change
pub brings_none : (a : State) → a.now.schema ≡ office_schema → Brings (λ r. r) a a
brings_none a has = record { schema = has; rows = λ r holds. holds }
