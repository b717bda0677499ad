-- What the bytes of files hold, and what a close leaves of them.
use Rattle.std.proofs.Common.{◌≡◌, ◌≤◌, ◌⊎◌, Bor, Bool, true, false, ℕ, inl, inr, List, Ok, Err, None, Option, Some, Result, IsTrue, ap, ap₂, arith, refl, rules, sym, subst, ◌∙◌}
use Rattle.std.proofs.lemmas.Result.{IfOk-weaker, on_err_weaker}
use Rattle.std.specs.Prelude.{IfOk, IsErr, IsOk, OnErr, OnOk}
use mathlib.Core.Logic.{∥∥₁_elim, ∥∥₁_map}
use Rattle.sqlite_disk.specs.declared.Disk.{Ghosts}
use Rattle.sqlite_disk.specs.declared.Files.{Files}
use Rattle.sqlite_schema.specs.declared.schema.Schema.{Schema}
use Rattle.sqlite_store.specs.declared.store.FileStore.{FileStore}
use Rattle.sqlite_trees.specs.Props.{Trees-set}
use Rattle.sqlite_trees.specs.Tree.{Trees}
use Rattle.sqlite_wal.specs.Files.{outcomes}
use Rattle.sqlite_wal.specs.Recovery.{Image}
use Rattle.sqlite.specs.Closing.{HoldsAlone, IsCopied}
use Rattle.sqlite.specs.Effect.{Database, IsDatabase}
use Rattle.sqlite.specs.Files.{IsOpened, file_state, image_of}
use Rattle.sqlite.specs.Held.{Held}
use Rattle.sqlite.specs.Start.{FindsIn}
use Rattle.sqlite.specs.State.{Opens, State, HasCleanDisk}
use Rattle.sqlite_trees.proofs.Doubt.{clean_of}
use Rattle.sqlite_trees.specs.View.{IsClean}
use Rattle.sqlite_store.specs.FileStore.{view}
use Rattle.sqlite_wal.specs.Reads.{AreClean}
use Rattle.mx_book.specs.World.{World}
use Rattle.mx_standing.specs.One.{world_set}
use Rattle.mx_audit.specs.declared.opening.Refusal.{Refusal}
use Rattle.mx_audit.specs.declared.opening.Refusal.TheVariants as refusal
use Rattle.mx_tables.specs.Made.{IsUnknown}
use Rattle.mx_tables.specs.Migration.{Migrates}
use Rattle.mx_tables.specs.Schema.{office_schema, schema_of}
use Rattle.mx_tables.specs.States.{IsOurs, IsSound, IsHonest, StaysIdle, worry, worry_at}
use Rattle.mx_tables.specs.declared.making.Version.{Version}
use Rattle.mx_tables.specs.declared.making.Version.TheVariants.{One, Two}
use Rattle.mx_tables.specs.declared.migration.Migrated.{Migrated}
use Rattle.mx_tables.specs.declared.migration.Migrated.TheVariants.{Done, Already}
use Rattle.mx_tables.proofs.StateLemmas.{no_worry, not_lied}
use Rattle.mx_files.specs.Durable.{Represents, RepresentsIn}
use Rattle.mx_tasks.specs.declared.fault.TaskFault.{TaskFault}
use Rattle.mx_tasks.specs.declared.fault.TaskFault.TheVariants.{Store}
use Rattle.mx_tasks.specs.declared.work.Done.{Done as Work}
use Rattle.mx_files.specs.declared.closing.Ended.{Ended}
use Rattle.mx_args.specs.declared.task.Task.{Task as Planned}
use Rattle.mx_files.specs.Opened.{IsRefusal, IsWrong, open_fault_of}
use Rattle.mx_files.specs.Performed.{Checks, EndsRun, EndsWith, EndsWork, Performs, PerformsAct, PerformsPlan, Streams, ended_of, CopiesBooks, HoldTaken, MigratesBooks, PerformsCopy, EndsSaying}
use Rattle.mx_files.specs.Plans.{planned_task}
use Rattle.mx_files.specs.declared.plan.Plan.{Plan}
use Rattle.mx_files.specs.declared.plan.Plan.TheVariants.{InFile}
use Rattle.mx_files.specs.declared.plan.Act.{Act}
use Rattle.mx_files.specs.InFiles.{AreClosed, AreHonest, AreShut, Closes, HoldBooksAlone, HoldBooksIn, HoldTables, HoldTablesIn, HoldTrees, HoldWorld, IsLeftOf, IsOpenedOver, IsRefused, Keeps, Raises, closed_answer, version_before, HoldCopy, HoldRaised, IsKept}
use Rattle.mx_files.specs.declared.closing.Left.{Left}
use Rattle.mx_files.proofs.FolderLemmas.{on_any}
use Rattle.mx_files.specs.declared.closing.Left.TheVariants.{Closed, Unclosed, Nothing}

-- tables that represent a World have the schema of the office, and represent no other
pub one_world : {db : Database} (u w : World) → Represents db u → (db.schema ≡ office_schema → Represents db w) → w ≡ u
one_world u w one stands = ∥∥₁_elim one (world_set w u) (λ a. ∥∥₁_elim (stands a.spelled.holds.has.schema) (world_set w u) (λ b. a.only w b.spelled))

-- books are tables that represent their World
pub tables_of : {v : Version} {bytes : Image} {w : World} → HoldBooksIn v bytes w → HoldTablesIn v bytes w
tables_of books = record { trees = books.trees; held = books.held; stands = books.stands }

-- a database of this schema with these trees
is_of : (of : Schema) (db : Database) (trees : Trees) → db.schema ≡ of → db.trees ≡ trees → db ≡ record { schema = of; trees = trees }
is_of of db trees schema same = ap₂ (λ (s : Schema) (t : Trees). record { schema = s; trees = t }) schema same

-- up to 1 where the disk told no lie
low_at : (live : Bool) → worry_at live true ≤ 1
low_at true = omega arith
low_at false = omega arith

pub low_if_clean : (s : State) → HasCleanDisk s → worry s ≤ 1
low_if_clean s clean = rw (clean_of s.is_clean clean) (low_at s.is_open)

-- a disk that told no lie had told none before
pub clean_before : (old new : State) → worry old ≤ worry new → worry new ≤ 1 → HasCleanDisk old
clean_before old new later low = not_lied old (omega (arith, later, low))

-- a store to which nothing happens rests
pub rests_none : (s : State) → StaysIdle s s
rests_none s = record { autocommit = λ idle. idle; later = omega arith; same = λ sound. refl; stops = λ honest db left. left }

module _ {D : Type 0} {g : Ghosts D} where
  -- a close of the books of a World leaves their bytes
  pub books_closed : (c : Held (FileStore D g)) (files : Files D) (w : World) → (worry (file_state c) ≡ 0 → IsOurs false (file_state c)) → (worry (file_state c) ≡ 0 → Represents (file_state c).now w) → IsDatabase (file_state c).now → IsCopied c files → AreClosed g files w
  books_closed c files w ours stands listed copied = record { seen = hold _ copied.seen; left = λ bytes left. hold bytes (copied.left bytes left) } where
    sure : worry (file_state c) ≡ 0
    sure = no_worry (file_state c) copied.was_open copied.was_clean

    same : (file_state c).now ≡ record { schema = office_schema; trees = (file_state c).committed.trees }
    same = is_of office_schema (file_state c).now _ ((ours sure).schema sure) (sym (ap (λ (db : Database). db.trees) ((ours sure).steady sure ((ours sure).idle copied.was_clean refl))))

    now : Represents (record { schema = office_schema; trees = (file_state c).committed.trees }) w
    now = subst (λ (db : Database). Represents db w) same (stands sure)

    whole : IsDatabase (record { schema = office_schema; trees = (file_state c).committed.trees })
    whole = subst IsDatabase same listed

    hold : (bytes : Image) → HoldsAlone bytes (file_state c).committed.trees → HoldBooksAlone bytes w
    hold bytes held = record {
      both = record { trees = (file_state c).committed.trees; held = held.both; listed = whole; stands = now };
      alone = record { trees = (file_state c).committed.trees; held = held.alone; listed = whole; stands = now };
    }

  -- books that are opened over bytes represent what these say
  pub books_found : (v : Version) (c : Held (FileStore D g)) (bytes : Image) (w : World) → HoldTablesIn v bytes w → FindsIn bytes (file_state c) → Opens (file_state c) → (file_state c).now.schema ≡ schema_of v
      → RepresentsIn v (file_state c).now w
  books_found v c bytes w books finds opens schema = subst (λ (db : Database). RepresentsIn v db w) (sym (is_of (schema_of v) (file_state c).now books.trees schema trees)) books.stands where
    committed : (file_state c).committed.trees ≡ books.trees
    committed = ∥∥₁_elim books.held (Trees-set _ _) (finds.holds books.trees)

    trees : (file_state c).now.trees ≡ books.trees
    trees = ap (λ (d : Database). d.trees) opens.clean ∙ committed

  -- where they are of this version
  pub books_over : (v : Version) (c : Held (FileStore D g)) (bytes : Image) (w : World) → HasCleanDisk (file_state c) → IsOpenedOver bytes c → HoldTablesIn v bytes w → (file_state c).now.schema ≡ schema_of v → RepresentsIn v (file_state c).now w
  books_over v c bytes w clean over books = by (over clean) where
    by : FindsIn bytes (file_state c) × IsOpened c → (file_state c).now.schema ≡ schema_of v → RepresentsIn v (file_state c).now w
    by (finds, opened) = books_found v c bytes w books finds opened.0

  -- so the World of tables that were opened over them is theirs
  pub same_world : (c : Held (FileStore D g)) (bytes : Image) (u w : World) → HasCleanDisk (file_state c) → IsOpenedOver bytes c → HoldTables bytes w → Represents (file_state c).now u → w ≡ u
  same_world c bytes u w clean over books one = one_world u w one (books_over Two c bytes w clean over books)

  -- what a close leaves keeps what was in the store
  pub closes_so : (c : Held (FileStore D g)) (left : Left D g) → (IsTrue (file_state c).is_open → IsDatabase (file_state c).now)
      → (c.in_transaction ≡ false → IsTrue (file_state c).is_open → (file_state c).committed.trees ≡ (file_state c).now.trees) → IsLeftOf c left → Closes c left
  closes_so c (Closed files) listed settled copied = record {
    honest = λ clean. low_if_clean (file_state c) (copied clean).was_clean;
    sound = λ clean shut. no_worry (file_state c) (copied clean).was_open (copied clean).was_clean;
    world = λ clean w ours stands. closed clean w ours stands;
    trees = λ clean db outside same shut.
        let it = copied clean in
        let is = settled outside it.was_open ∙ same (no_worry (file_state c) it.was_open it.was_clean) in
        subst (λ (t : Trees). HoldsAlone (image_of g files) t × ((bytes : Image) → outcomes g files.log files.db bytes → HoldsAlone bytes t)) is (it.seen, it.left);
    rounds = λ clean w rs now ours endures. closed clean now ours endures.stands;
  } where
    closed : AreClean g files.log files.db → (w : World) → IsOurs false (file_state c) → (IsSound (file_state c) → Represents (file_state c).now w) → AreClosed g files w
    closed clean w ours stands = books_closed c files w (λ _. ours) stands (listed (copied clean).was_open) (copied clean)
  closes_so c (Unclosed last) listed settled quiet = record {
    honest = honest;
    sound = λ clean shut. absurd shut;
    world = λ clean w ours stands. tt;
    trees = λ clean db outside same stays found left. elim stays [ inl shut ↦ absurd shut | inr only ↦ only found (quiet.outcomes found left) ];
    rounds = λ clean w rs now ours endures db found. endures.lasts (honest clean) _ (record { base = ours.base; schema = refl; trees = quiet.outcomes db found });
  } where
    was_clean : IsClean (view last) → HasCleanDisk (file_state c)
    was_clean clean = (let falls = quiet.clean in omega (arith, falls, clean))

    honest : IsClean (view last) → IsHonest (file_state c)
    honest clean = low_if_clean (file_state c) (was_clean clean)
  closes_so c Nothing listed settled none = absurd none

  -- and where it is no fault, they were closed
  pub shut_so : {X : Type 0} (c : Held (FileStore D g)) (left : Left D g) (answer : Result X TaskFault) → IsLeftOf c left → IsOk (closed_answer left answer) → AreShut left
  shut_so c (Closed files) answer it ok = tt
  shut_so c (Unclosed last) (Ok x) it ok = absurd (cc)
  shut_so c (Unclosed last) (Err e) it ok = absurd (cc)
  shut_so c Nothing answer it ok = it

  -- a store that was refused is in its files still
  pub refused_held : (c last : Held (FileStore D g)) (left : Left D g) → ((db : Trees) → IsTrue (file_state c).is_open → (file_state c).may_leave db → db ≡ (file_state c).committed.trees) → StaysIdle (file_state c) (file_state last) → Closes last left
      → AreHonest left → Opens (file_state c) → HoldTrees left (file_state c).now.trees
  refused_held c last left law rests closes honest opens =
      closes.trees honest (file_state c).now.trees (rests.autocommit opens.autocommit) (λ sound. ap (λ (db : Database). db.trees) (rests.same sound))
      (inr (λ found may. law found opens.is_open (rests.stops (closes.honest honest) found may) ∙ sym (ap (λ (db : Database). db.trees) opens.clean)))

  pub kept_so : (c last : Held (FileStore D g)) (left : Left D g) → ((db : Trees) → IsTrue (file_state c).is_open → (file_state c).may_leave db → db ≡ (file_state c).committed.trees) → StaysIdle (file_state c) (file_state last) → Closes last left
      → AreHonest left → IsKept c left
  kept_so c last left law rests closes honest =
      record { clean = clean_before (file_state c) (file_state last) rests.later (closes.honest honest); held = refused_held c last left law rests closes honest }

  -- which is the database of the bytes over which it was opened
  pub keeps_so : (c : Held (FileStore D g)) (bytes : Image) (left : Left D g) → HasCleanDisk (file_state c) → IsOpenedOver bytes c → (Opens (file_state c) → HoldTrees left (file_state c).now.trees) → Keeps bytes left (file_state c).now
  keeps_so c bytes left clean over held = by (over clean) where
    by : FindsIn bytes (file_state c) × IsOpened c → Keeps bytes left (file_state c).now
    by (finds, opened) = record {
      found = λ db holds. ap (λ (d : Database). d.trees) opened.0.clean ∙ finds.holds db holds;
      held = held opened.0;
    }

  pub refused_over : {X Y : Type 0} (c : Held (FileStore D g)) (bytes : Image) (ended : Ended X D g) (answer : Result Y TaskFault) → IsOpenedOver bytes c → ((U : Type 0) → IsRefusal U ended.answer → IsRefusal U answer)
      → IsRefused c ended → (tables : Database) × Keeps bytes ended.left tables × IsRefusal (IsUnknown (λ _. 2) tables) answer
  refused_over c bytes ended answer over told it = ((file_state c).now, keeps_so c bytes ended.left it.kept.clean over it.kept.held, told _ it.fault)

  -- and so is one that was copied
  pub copied_over : {C : Type 0} {h : Ghosts C} (c : Held (FileStore D g)) (bytes : Image) (left : Left D g) (copy : Left C h) → IsOpenedOver bytes c → (AreHonest left → IsKept c left) → HoldCopy c left copy → CopiesBooks bytes left copy
  copied_over c bytes left copy over keeps it = (
    it.shut.0,
    it.shut.1,
    λ honest.
        let kept = keeps honest in
        let it = it.world honest in
        (it.0, λ u books. same_world c bytes it.0 u kept.clean over books it.1, it.2, it.3),
  )

  pub checks_over : (Wrong : Type 0) (c : Held (FileStore D g)) (bytes : Image) (left : Left D g) → IsOpenedOver bytes c
      → HasCleanDisk (file_state c) × ((Wrong × (Opens (file_state c) → HoldTrees left (file_state c).now.trees)) ⊎ (AreShut left → (w : World) × Represents (file_state c).now w × HoldWorld left w)) → Checks bytes left Wrong
  checks_over Wrong c bytes left over (clean, inl it) = inl (it.0, (file_state c).now, keeps_so c bytes left clean over it.1)
  checks_over Wrong c bytes left over (clean, inr it) = inr (λ shut. let found = it shut in (found.0, λ u books. same_world c bytes found.0 u clean over books found.1, found.2))

-- ---- refusals

pub refusal_of : {X : Type 0} (U : Type 0) (fault : Refusal) → (fault ≡ refusal.NotThisSchema → U) → IsRefusal {X = X} U (Err (open_fault_of fault))
refusal_of U refusal.Memory is = inl refl
refusal_of U refusal.Store is = inr (inl refl)
refusal_of U refusal.NotThisSchema is = inr (inr (refl, is refl))
refusal_of U (refusal.Unsound checked) is = inr (inl refl)

as_told : {X Y : Type 0} (e f : TaskFault) (answer : Result X TaskFault) (result : Result Y TaskFault) → answer ≡ Err e → result ≡ Err e → answer ≡ Err f → result ≡ Err f
as_told e f answer result was is it = let same : e ≡ f = cc in is ∙ ap Err same

refusal_told : {X Y : Type 0} (e : TaskFault) (answer : Result X TaskFault) (result : Result Y TaskFault) → answer ≡ Err e → result ≡ Err e → (U : Type 0) → IsRefusal U answer → IsRefusal U result
refusal_told e answer result was is U (inl memory) = inl (as_told e _ answer result was is memory)
refusal_told e answer result was is U (inr (inl store)) = inr (inl (as_told e _ answer result was is store))
refusal_told e answer result was is U (inr (inr other)) = inr (inr (as_told e _ answer result was is other.0, other.1))

-- a fault is no answer
pub never_ok : {X P : Type 0} (r : Result X TaskFault) → IsErr r → IsOk r → P
never_ok (Ok x) err ok = absurd (cc)
never_ok (Err e) err ok = absurd (cc)

-- a close leaves a fault
pub fault_closed : {D X : Type 0} {g : Ghosts D} (left : Left D g) (e : TaskFault) → closed_answer {X = X} left (Err e) ≡ Err e
fault_closed (Closed files) e = refl
fault_closed (Unclosed store) e = refl
fault_closed Nothing e = refl

-- where a run or work was refused, nothing is written behind it
pub run_refused : {X : Type 0} (run : Result ℕ TaskFault) (result : Result X TaskFault) (written output : Option (List ℕ)) → EndsRun run result written output → IsErr run → (output ≡ written) × ((U : Type 0) → IsRefusal U run → IsRefusal U result)
run_refused (Ok n) result written output ends err = absurd (cc)
run_refused (Err e) (Ok x) written output ends err = absurd ends.1
run_refused (Err e) (Err f) written output ends err = (ends.2, refusal_told e (Err e) (Err f) refl (ap Err ends.0))

pub work_refused : {X : Type 0} (answer : Result Work TaskFault) (result : Result X TaskFault) (before after : Option (List ℕ)) → EndsWork answer result before after → IsErr answer → (after ≡ before) × ((U : Type 0) → IsRefusal U answer → IsRefusal U result)
work_refused (Ok done) result before after ends err = absurd (cc)
work_refused (Err e) result before after ends err = (ends.1, refusal_told e (Err e) result refl ends.0)

-- a task that answers Ok behind a run or work had an answer of that
pub ok_run : {X : Type 0} (run : Result ℕ TaskFault) (result : Result X TaskFault) (written output : Option (List ℕ)) → EndsRun run result written output → IsOk result → IsOk run
ok_run (Ok n) result written output ends ok = search rules
ok_run (Err e) (Ok x) written output ends ok = absurd ends.1
ok_run (Err e) (Err f) written output ends ok = absurd (cc)

pub ok_work : {X : Type 0} (answer : Result Work TaskFault) (result : Result X TaskFault) (before after : Option (List ℕ)) → EndsWork answer result before after → IsOk result → IsOk answer
ok_work (Ok done) result before after ends ok = search rules
ok_work (Err e) result before after ends ok = never_ok result (rw ends.0 (search rules)) ok

-- what a check found wrong is told behind the close, and ends the task with a fault
pub wrong_closed : {D : Type 0} {g : Ghosts D} (left : Left D g) (answer : Result Work TaskFault) → IfOk answer IsWrong → IfOk (closed_answer left answer) IsWrong
wrong_closed (Closed files) answer wrong = wrong
wrong_closed (Unclosed store) (Ok done) wrong = tt
wrong_closed (Unclosed store) (Err e) wrong = tt
wrong_closed Nothing answer wrong = wrong

-- a line more on checksums tells of the same
pub wrong_sums : (X : List ℕ → List ℕ → Type 0) (answer result : Result Work TaskFault) → (IsOk result → IsOk answer) → IfOk answer (λ was. IfOk result (λ done. (done.fault ≡ was.fault) × X was.text.items done.text.items)) → IfOk answer IsWrong
    → IfOk result IsWrong
wrong_sums X (Ok was) (Ok done) ok adds wrong = adds.0 ∙ wrong
wrong_sums X (Ok was) (Err e) ok adds wrong = tt
wrong_sums X (Err e) (Ok done) ok adds wrong = absurd (let none = ok (search rules) in cc)
wrong_sums X (Err e) (Err f) ok adds wrong = tt

pub checks_weaker : {D : Type 0} {g : Ghosts D} {P Q : Type 0} (bytes : Image) (left : Left D g) → (P → Q) → Checks bytes left P → Checks bytes left Q
checks_weaker bytes left so (inl it) = inl (so it.0, it.1, it.2)
checks_weaker bytes left so (inr it) = inr it

wrong_ends : {X : Type 0} (answer : Result Work TaskFault) (result : Result X TaskFault) (before after : Option (List ℕ)) → EndsWork answer result before after → IfOk answer IsWrong → IsErr result
wrong_ends (Ok done) result before after (inl failed) wrong = rw failed (search rules)
wrong_ends (Ok done) result before after (inr it) wrong = by (rw wrong at it.1) where
  by : result ≡ Err Store → IsErr result
  by is = rw is (search rules)
wrong_ends (Err e) result before after it wrong = rw it.0 (search rules)

pub checks_ended : {D X : Type 0} {g : Ghosts D} (bytes : Image) (left : Left D g) (answer : Result Work TaskFault) (result : Result X TaskFault) (before after : Option (List ℕ)) → EndsWork answer result before after → Checks bytes left (IfOk answer IsWrong)
    → Checks bytes left (IsErr result)
checks_ended bytes left answer result before after ends (inl it) = inl (wrong_ends answer result before after ends it.0, it.1, it.2)
checks_ended bytes left answer result before after ends (inr it) = inr it

-- a migration keeps the World
pub upgraded_so : (made : Migrated) (old new : Database) (w : World) → Migrates made old new → RepresentsIn (version_before made) old w → Represents new w
upgraded_so Done old new w it stands = ∥∥₁_map stands (λ one. (it.1.spells w one).0)
upgraded_so Already old new w it stands = subst (λ (db : Database). Represents db w) (sym it.1) stands

pub version_so : (made : Migrated) (old new : Database) → Migrates made old new → old.schema ≡ schema_of (version_before made)
version_so Done old new it = it.0.schema
version_so Already old new it = it.0.schema

-- and closes the files of it
pub migrated_so : (Shut : World → Type 0) (Ours : Type 0) (old new : Database) (result : Result Migrated TaskFault) → OnOk result Ours → IfOk result (λ made. Migrates made old new)
    → (Ours → (w : World) → Represents new w → Shut w) → IfOk result (λ made. (old.schema ≡ schema_of (version_before made)) × ((w : World) → RepresentsIn (version_before made) old w → Shut w))
migrated_so Shut Ours old new (Ok made) ours it close = (version_so made old new it, λ w stands. close ours w (upgraded_so made old new w it stands))
migrated_so Shut Ours old new (Err fault) ours it close = tt

-- one that fails leaves what was there, or the books in this version
pub raised_so : {D : Type 0} {g : Ghosts D} (c last : Held (FileStore D g)) (left : Left D g) (result : Result Migrated TaskFault) → Closes last left → AreHonest left → AreShut left → Opens (file_state c)
    → (c.in_transaction ≡ false → HasCleanDisk (file_state last) → last.in_transaction ≡ false)
    → OnErr result (((file_state last).now ≡ (file_state c).now) ⊎ (IsOurs false (file_state last) × Migrates Done (file_state c).now (file_state last).now))
    → OnErr result (HoldTrees left (file_state c).now.trees ⊎ Raises (file_state c).now left Done)
raised_so c last left result closes honest shut opens idle it = on_err_weaker result by it where
  by : ((file_state last).now ≡ (file_state c).now) ⊎ (IsOurs false (file_state last) × Migrates Done (file_state c).now (file_state last).now) → HoldTrees left (file_state c).now.trees ⊎ Raises (file_state c).now left Done
  by (inl same) = inl (closes.trees honest (file_state c).now.trees (idle opens.autocommit (not_lied (file_state last) (closes.honest honest))) (λ sound. ap (λ (db : Database). db.trees) same) (inl shut))
  by (inr raised) = inr (version_so Done _ _ raised.1, λ w stands. closes.world honest w raised.0 (λ _. upgraded_so Done _ _ w raised.1 stands))

-- over bytes that hold the books of that version
raises_over : {D : Type 0} {g : Ghosts D} (c : Held (FileStore D g)) (bytes : Image) (left : Left D g) (made : Migrated) → HasCleanDisk (file_state c) → IsOpenedOver bytes c → Raises (file_state c).now left made
    → (w : World) → HoldBooksIn (version_before made) bytes w → HoldWorld left w
raises_over c bytes left made clean over it w books = it.1 w (books_over (version_before made) c bytes w clean over (tables_of books) it.0)

pub migrated_over : {D : Type 0} {g : Ghosts D} (c : Held (FileStore D g)) (bytes : Image) (left : Left D g) (result : Result Migrated TaskFault) → HasCleanDisk (file_state c) → IsOpenedOver bytes c
    → (AreShut left → IfOk result (Raises (file_state c).now left)) → IfOk result (λ made. (w : World) → HoldBooksIn (version_before made) bytes w → HoldWorld left w)
migrated_over c bytes (Closed files) (Ok made) clean over it = raises_over c bytes (Closed files) made clean over (it tt)
migrated_over c bytes (Closed files) (Err fault) clean over it = tt
migrated_over c bytes (Unclosed store) (Ok made) clean over it = λ w books. tt
migrated_over c bytes (Unclosed store) (Err fault) clean over it = tt
migrated_over c bytes Nothing (Ok made) clean over it = λ w books. tt
migrated_over c bytes Nothing (Err fault) clean over it = tt

pub unraised_over : {D : Type 0} {g : Ghosts D} (c : Held (FileStore D g)) (bytes : Image) (left : Left D g) (result : Result Migrated TaskFault) → HasCleanDisk (file_state c) → IsOpenedOver bytes c
    → (Opens (file_state c) → OnErr result (HoldTrees left (file_state c).now.trees ⊎ Raises (file_state c).now left Done)) → OnErr result (((tables : Database) × Keeps bytes left tables) ⊎ ((w : World) → HoldBooksIn One bytes w → HoldWorld left w))
unraised_over c bytes left result clean over it = on_err_weaker result by (it (over clean).1.0) where
  by : HoldTrees left (file_state c).now.trees ⊎ Raises (file_state c).now left Done → ((tables : Database) × Keeps bytes left tables) ⊎ ((w : World) → HoldBooksIn One bytes w → HoldWorld left w)
  by (inl held) = inl ((file_state c).now, keeps_so c bytes left clean over (λ opens. held))
  by (inr raised) = inr (raises_over c bytes left Done clean over raised)

-- one of a copy keeps the World there, and what was there is there still
taken_raised : {D C : Type 0} {g : Ghosts D} {h : Ghosts C} (c : Held (FileStore D g)) (bytes : Image) (left : Left D g) (copy : Left C h) (made : Migrated) → HasCleanDisk (file_state c) → IsOpenedOver bytes c → AreHonest left → HoldRaised c left copy made
    → (w : World) → HoldBooksIn (version_before made) bytes w → HoldTaken left copy w
taken_raised c bytes left (Closed files) made clean over honest it w books = λ also. let raised = it.raises honest also in raised.1 w (books_over (version_before made) c bytes w clean over (tables_of books) raised.0)
taken_raised c bytes left (Unclosed store) made clean over honest it w books = absurd it.shut.1
taken_raised c bytes left Nothing made clean over honest it w books = absurd it.shut.1

pub raised_books : {D C : Type 0} {g : Ghosts D} {h : Ghosts C} (c : Held (FileStore D g)) (bytes : Image) (left : Left D g) (copy : Left C h) (answer : Result Migrated TaskFault) → IsOpenedOver bytes c → AreHonest left → IsKept c left → IfOk answer (HoldRaised c left copy)
    → MigratesBooks bytes answer left copy
raised_books c bytes left copy answer over honest kept raised = record {
  migrates = IfOk-weaker answer _ _ (λ made it. taken_raised c bytes left copy made kept.clean over honest it) raised;
  refused = λ shut. on_any answer (inl ((file_state c).now, keeps_so c bytes left kept.clean over kept.held));
}

pub raised_shut : {D C : Type 0} {g : Ghosts D} {h : Ghosts C} (c : Held (FileStore D g)) (left : Left D g) (copy : Left C h) (answer : Result Migrated TaskFault) → IfOk answer (HoldRaised c left copy) → IsOk answer → AreShut left
raised_shut c left copy (Ok made) it ok = it.shut.0
raised_shut c left copy (Err fault) it ok = absurd (cc)

-- one of the files themselves
pub migrated_books : {D C : Type 0} {g : Ghosts D} {h : Ghosts C} (c : Held (FileStore D g)) (bytes : Image) (left : Left D g) (answer : Result Migrated TaskFault) → HasCleanDisk (file_state c) → IsOpenedOver bytes c
    → (AreShut left → IfOk answer (Raises (file_state c).now left)) → (AreShut left → Opens (file_state c) → OnErr answer (HoldTrees left (file_state c).now.trees ⊎ Raises (file_state c).now left Done))
    → MigratesBooks {C = C} {h = h} bytes answer left Nothing
migrated_books c bytes left answer clean over raises kept =
    record { migrates = migrated_over c bytes left answer clean over raises; refused = λ shut. unraised_over c bytes left answer clean over (kept shut) }

-- a copy that is said was closed
pub copied_shut : {D C X Y : Type 0} {g : Ghosts D} {h : Ghosts C} (c : Held (FileStore D g)) (left : Left D g) (copy : Left C h) (text : X → List ℕ) (answer : Result X TaskFault) (result : Result Y TaskFault) (before after : Option (List ℕ))
    → OnOk answer (HoldCopy c left copy) → EndsSaying text answer result before after → IsOk result → AreShut left
copied_shut c left copy text (Ok x) result before after it ends ok = it.shut.0
copied_shut c left copy text (Err fault) result before after it ends ok = never_ok result (rw ends.0 (search rules)) ok

-- where the files were closed, a close tells what was answered
pub told_shut : {D X : Type 0} {g : Ghosts D} (left : Left D g) (answer : Result X TaskFault) → (IsOk answer → AreShut left) → answer ≡ closed_answer left answer
told_shut (Closed files) answer shut = refl
told_shut (Unclosed store) (Ok x) shut = absurd (shut (search rules))
told_shut (Unclosed store) (Err e) shut = refl
told_shut Nothing answer shut = refl

-- an answer behind a close was one before it
pub ok_closed : {D X : Type 0} {g : Ghosts D} (left : Left D g) (answer : Result X TaskFault) → IsOk (closed_answer left answer) → IsOk answer
ok_closed (Closed files) answer ok = ok
ok_closed (Unclosed store) (Ok x) ok = search rules
ok_closed (Unclosed store) (Err e) ok = ok
ok_closed Nothing answer ok = ok

-- a task that answers Ok behind work has no fault of that
ends_none : {X : Type 0} (fault : Option TaskFault) (result : Result X TaskFault) → EndsWith fault result → IsOk result → fault ≡ None
ends_none None result it ok = refl
ends_none (Some fault) result it ok = absurd (cc)

pub ends_well : {X P : Type 0} (answer : Result Work TaskFault) (result : Result X TaskFault) (before after : Option (List ℕ)) → EndsWork answer result before after → IsOk result → IfOk answer (λ done. done.fault ≡ None → P) → P
ends_well (Ok done) result before after (inl failed) ok so = absurd (cc)
ends_well (Ok done) result before after (inr it) ok so = so (ends_none done.fault result it.1 ok)
ends_well (Err fault) result before after it ok so = absurd (cc)

-- what holds of a task as it ended holds of it where its files were not opened too
pub ended_so : {D X : Type 0} {g : Ghosts D} (P : Ended X D g → Type 0) (r : Result (Ended X D g) TaskFault) (e : Ended X D g) → e ≡ ended_of r → IfOk r P → ((fault : TaskFault) → IsErr r → P (record { answer = Err fault; left = Nothing; copy = Nothing })) → P e
ended_so P (Ok ended) e is ok err = rw is ok
ended_so P (Err fault) e is ok err = rw is (err fault (search rules))

-- a copy of books that aren't opened
pub copy_unopened : {D : Type 0} {g : Ghosts D} (bytes : Image) (fault : TaskFault) (before after : Option (List ℕ)) → after ≡ before
    → PerformsCopy {D = D} {X = Unit {0}} {g = g} bytes (record { answer = Err fault; left = Nothing; copy = Nothing }) before after
copy_unopened bytes fault before after same = record { answer = Err fault; copies = tt; keeps = λ honest. absurd honest; ends = (refl, same) }

-- a task does what its plan does
pub performs_as : {D X : Type 0} {g : Ghosts D} (bytes : Image) (before after : Streams) (task : Planned) (ended : Ended X D g) (plan shape : Plan) → plan ≡ shape → planned_task plan ≡ task → PerformsPlan bytes before after shape ended
    → Performs bytes before after task ended
performs_as bytes before after task ended plan shape is planned it = record { plan = shape; planned = sym (ap planned_task is) ∙ planned; performs = it }

-- and one over a file that isn't opened leaves no file
pub performs_act : {D X : Type 0} {g : Ghosts D} (bytes : Image) (before after : Streams) (task : Planned) (r : Result (Ended X D g) TaskFault) (e : Ended X D g) (plan : Plan) (path : Bor (List ℕ)) (act shape : Act) → plan ≡ InFile path act → act ≡ shape
    → planned_task plan ≡ task → e ≡ ended_of r → IfOk r (λ ended. IsOk ended.answer → AreShut ended.left) → PerformsAct bytes before after shape e → Performs bytes before after task e
performs_act bytes before after task r e plan path act shape is acts planned ends shut it =
    performs_as bytes before after task e plan (InFile path shape) (is ∙ ap (λ (a : Act). InFile path a) acts) planned
    (ended_so (λ ended. IsOk ended.answer → AreShut ended.left) r e ends shut (λ fault was ok. absurd (cc)), it)
