-- A run over files is a life, and lives over the same files are a series.
use Rattle.std.proofs.Common.{◌≡◌, ℕ, inl, inr, List, [], ◌++◌, append-nil, Option, Result, refl, sym, subst, ap}
use mathlib.Core.Logic.{∥∥₁_elim}
use Rattle.sqlite_disk.specs.declared.Disk.{Ghosts}
use Rattle.sqlite_trees.specs.Props.{Trees-set}
use Rattle.sqlite_trees.specs.Tree.{Trees}
use Rattle.sqlite_wal.specs.Recovery.{Image}
use Rattle.sqlite.specs.Effect.{Database}
use Rattle.sqlite.specs.Files.{HoldsDatabase}
use Rattle.mx_args.specs.declared.task.AskedCopies.{AskedCopies}
use Rattle.mx_args.specs.declared.task.Task.{Task}
use Rattle.mx_book.specs.World.{World}
use Rattle.mx_desk.specs.Durable.{Lasts, Lives, ended as lived, stopped, unborn}
use Rattle.mx_desk.specs.Leaves.{Lawful}
use Rattle.mx_desk.specs.Rounds.{Round, all_of}
use Rattle.mx_desk.specs.Serve.{Marked, world_after}
use Rattle.mx_desk.specs.Steps.{State}
use Rattle.mx_desk.proofs.LawfulLemmas.{lawful_requests}
use Rattle.mx_tables.specs.Schema.{office_schema}
use Rattle.mx_tasks.specs.Runs.{TaskRuns}
use Rattle.mx_tasks.specs.declared.fault.TaskFault.{TaskFault}
use Rattle.mx_tasks.specs.declared.work.Work.{Work}
use Rattle.mx_tasks.specs.declared.work.Work.TheVariants as work
use Rattle.mx_files.specs.Durable.{Represents}
use Rattle.mx_files.specs.InFiles.{AreHonest, HoldRounds, HoldTables, HoldTrees, Keeps, closed_answer}
use Rattle.mx_files.specs.Performed.{MayFail, OverBooks, Performs, PerformsPlan, PerformsWork, Streams}
use Rattle.mx_files.specs.Plans.{asked_copies, planned_task, worked_task}
use Rattle.mx_files.specs.Series.{Answers, IsAnswering, Life, MayHold, Series, first, more_of, then}
use Rattle.mx_files.specs.declared.closing.Ended.{Ended}
use Rattle.mx_files.specs.declared.closing.Left.{Left}
use Rattle.mx_files.specs.declared.closing.Left.TheVariants.{Closed, Unclosed, Nothing}
use Rattle.mx_files.specs.declared.plan.Act.TheVariants as act
use Rattle.mx_files.specs.declared.plan.Plan.{Plan}
use Rattle.mx_files.specs.declared.plan.Plan.TheVariants.{InFile, InMemory}
use Rattle.mx_files.proofs.FileLemmas.{tables_of}

-- ---- one life

module _ {D : Type 0} {g : Ghosts D} where
  -- what is found next in files that hold a database
  held_next : (left : Left D g) (db : Trees) (next : Image) → HoldTrees left db → MayHold left next → ∥ HoldsDatabase next db ∥₁
  held_next (Closed files) db next held may = (held.1 next may).both
  held_next (Unclosed store) db next held may = ∣ subst (HoldsDatabase next) (held may.0 may.1) may.2 ∣₁
  held_next Nothing db next held may = absurd may

  -- in those of a World that was refused, the tables of that
  kept_next : (bytes next : Image) (left : Left D g) (w : World) (tables : Database) → HoldTables bytes w → Keeps bytes left tables → MayHold left next → HoldTables next w
  kept_next bytes next left w tables books keeps may = record {
    trees = books.trees;
    held = subst (λ t. ∥ HoldsDatabase next t ∥₁) (∥∥₁_elim books.held (Trees-set _ _) (keeps.found books.trees)) (held_next left tables.trees next keeps.held may);
    stands = books.stands;
  }

  -- and after rounds, the tables of the World in the end, or of that with one round more
  found_next : (left : Left D g) (next : Image) (w : World) (rs : List Round) (now : World) → HoldRounds left w rs now → MayHold left next → (found : World) × Lasts (λ v. found ≡ v) w rs now × HoldTables next found
  found_next (Closed files) next w rs now held may = (now, inl refl, tables_of (held.left next may).both)
  found_next (Unclosed store) next w rs now held may = by (held may.0 may.1) where
    as_found : (v : World) → Represents (record { schema = office_schema; trees = may.0 }) v → HoldTables next v
    as_found v stands = record { trees = may.0; held = ∣ may.2 ∣₁; stands = stands }

    by : Lasts (Represents (record { schema = office_schema; trees = may.0 })) w rs now → (found : World) × Lasts (λ v. found ≡ v) w rs now × HoldTables next found
    by (inl here) = (now, inl refl, as_found now here)
    by (inr more) = (world_after now more.0.held, inr (more.0, more.1, refl), as_found _ more.2)
  found_next Nothing next w rs now held may = absurd may

  -- what answers requests of books is a life
  life_over : (bytes next : Image) (before after : Streams) (ended : Ended (Unit {0}) D g) (w : World) (Does : World → Type 0)
      → ((v : World) → Does v → (rs : List Round) × (now : World) × Answers v before after ended.answer rs now × HoldRounds ended.left v rs now)
      → HoldTables bytes w → AreHonest ended.left → MayHold ended.left next → OverBooks bytes before after ended Does → (found : World) × Life w next found
  life_over bytes next before after ended w Does led books honest may (inl it) =
      let kept = it.1 honest in (
        w,
        record {
          before = before;
          after = after;
          answer = ended.answer;
          rounds = [];
          end = w;
          answers = inl (refl, refl, it.0);
          lasts = inl refl;
          holds = kept_next bytes next ended.left w kept.0 books kept.1 may;
        },
      )
  life_over bytes next before after ended w Does led books honest may (inr it) = by (it honest) where
    by : (v : World) × ((u : World) → HoldTables bytes u → u ≡ v) × Does v → (found : World) × Life w next found
    by (v, one, does) =
        let x = led v does in
        let next_is = found_next ended.left next v x.0 x.1 x.3 may in (
          next_is.0,
          subst (λ u. Life u next next_is.0) (sym (one w books)) (record {
            before = before;
            after = after;
            answer = ended.answer;
            rounds = x.0;
            end = x.1;
            answers = x.2;
            lasts = next_is.1;
            holds = next_is.2;
          }),
        )

  life_worked : (bytes next : Image) (before after : Streams) (ended : Ended (Unit {0}) D g) (w : World) → HoldTables bytes w → AreHonest ended.left → MayHold ended.left next
      → (path : List ℕ) (copies : Option AskedCopies) (done : Work) → IsAnswering (worked_task path copies done)
      → OverBooks bytes before after ended (λ v. PerformsWork MayFail ended.left v done ended.answer before.output after.output) → (found : World) × Life w next found
  life_worked bytes next before after ended w books honest may path copies (work.Serve port count) is it =
      life_over bytes next before after ended w _ (λ v done. (done.works.rounds, done.works.end, inr (inr (count, done.answer, done.works.holds)), done.works.moves)) books honest may it
  life_worked bytes next before after ended w books honest may path copies (work.Import roll) is it = absurd is
  life_worked bytes next before after ended w books honest may path copies (work.Report kind) is it = absurd is

  life_planned : (bytes next : Image) (before after : Streams) (ended : Ended (Unit {0}) D g) (w : World) → HoldTables bytes w → AreHonest ended.left → MayHold ended.left next
      → (plan : Plan) → IsAnswering (planned_task plan) → PerformsPlan bytes before after plan ended → (found : World) × Life w next found
  life_planned bytes next before after ended w books honest may (InMemory operator) is it = absurd is
  life_planned bytes next before after ended w books honest may (InFile path act.Run) is it =
      life_over bytes next before after ended w _ (λ v led. (led.rounds, led.end, inr (inl (closed_answer ended.left, led.holds)), led.moves)) books honest may it.1
  life_planned bytes next before after ended w books honest may (InFile path (act.Make operator)) is it = absurd is
  life_planned bytes next before after ended w books honest may (InFile path (act.Work errand)) is it =
      life_worked bytes next before after ended w books honest may path.now (asked_copies errand.copies) errand.work is it.1
  life_planned bytes next before after ended w books honest may (InFile path act.Check) is it = absurd is
  life_planned bytes next before after ended w books honest may (InFile path (act.Copy to)) is it = absurd is
  life_planned bytes next before after ended w books honest may (InFile path act.Migrate) is it = absurd is

  pub life_performed : (bytes next : Image) (before after : Streams) (task : Task) (ended : Ended (Unit {0}) D g) (w : World) → IsAnswering task → HoldTables bytes w
      → Performs bytes before after task ended → AreHonest ended.left → MayHold ended.left next → (found : World) × Life w next found
  life_performed bytes next before after task ended w answering books it honest may =
      life_planned bytes next before after ended w books honest may it.plan (subst IsAnswering (sym it.planned) answering) it.performs

-- ---- a series

-- what is promised of requests holds of those of a life
run_lawful : (s : State) (r : Result ℕ TaskFault) (ms : List Marked) (t : State) → TaskRuns MayFail s r ms t → Lawful s.world ms t.world
run_lawful s r ms t (inl none) = rw (none.1) (lawful_requests s.world t.world [] (ap (λ (u : State). u.world) none.2))
run_lawful s r ms t (inr runs) = runs.2.leaves.lawful

answers_lawful : {X : Type 0} (w : World) (before after : Streams) (answer : Result X TaskFault) (rs : List Round) (end : World) → Answers w before after answer rs end → Lawful w (all_of rs) end
answers_lawful w before after answer rs end (inl none) = rw (none.0, none.1) (lawful_requests w w [] refl)
answers_lawful w before after answer rs end (inr (inl ran)) = run_lawful _ _ _ _ ran.1.runs
answers_lawful w before after answer rs end (inr (inr served)) = served.2.0.lawful

lives_on : {w v : World} {ms : List Marked} (rs : List Round) (end found : World) → Lives w ms v → Lawful v (all_of rs) end → (last : Lasts (λ u. found ≡ u) v rs end) → Lives w (ms ++ (all_of rs ++ more_of v rs end found last)) found
lives_on {w} {ms = ms} rs end found before lawful (inl here) =
    subst (λ l. Lives w (ms ++ l) found) (sym (append-nil (all_of rs))) (subst (λ u. Lives w (ms ++ all_of rs) u) (sym here) (lived before lawful))
lives_on {w} {ms = ms} rs end found before lawful (inr more) = subst (λ u. Lives w (ms ++ (all_of rs ++ more.0.held)) u) (sym more.2) (stopped before lawful more.0 more.1)

pub series_lives : (w now : World) (ms : List Marked) (bytes : Image) → Series w ms bytes now → Lives w ms now × HoldTables bytes now
series_lives w _ _ _ (first books) = (unborn, books)
series_lives w _ _ _ (then {ms} {bytes} {next} {v} {found} before life) =
    (lives_on life.rounds life.end found (series_lives w v ms bytes before).0 (answers_lawful v life.before life.after life.answer life.rounds life.end life.answers) life.lasts, life.holds)
