-- Lives, and stops between them.
use Rattle.std.proofs.Common.{◌≡◌, ℕ, Bool, true, false, inl, inr, List, [], ◌∷◌, ◌++◌, None, Option, Some, Result, ap, refl, subst}
use Rattle.sqlite_disk.specs.declared.Disk.{Ghosts}
use Rattle.sqlite_disk.specs.declared.Files.{Files}
use Rattle.sqlite.specs.Files.{image_of}
use Rattle.mx_book.specs.World.{World}
use Rattle.mx_book.specs.declared.contract.StoreFault.{StoreFault}
use Rattle.mx_desk.specs.Durable.{Lasts, Lives, ended, stopped, unborn}
use Rattle.mx_desk.specs.Leaves.{Lawful}
use Rattle.mx_desk.specs.Rounds.{Leads, Round, all_of}
use Rattle.mx_desk.specs.Serve.{Marked}
use Rattle.mx_desk.specs.Steps.{State, state}
use Rattle.mx_desk.proofs.LawfulLemmas.{lawful_requests}
use Rattle.std.specs.Prelude.{IfErr, IfSome}
use Rattle.sqlite_wal.specs.Reads.{AreClean}
use Rattle.mx_tasks.specs.Runs.{IsRunFault, TaskRuns}
use Rattle.mx_tasks.specs.declared.fault.TaskFault.{TaskFault}
use Rattle.mx_lives.specs.declared.answered.Life.{Life}
use Rattle.mx_files.specs.InFiles.{AreClosed, AreHonest, HoldBooks, HoldRounds, HoldWorld, closed_answer}
use Rattle.mx_files.specs.declared.closing.Left.{Left}
use Rattle.mx_files.specs.declared.closing.Left.TheVariants.{Closed}
use Rattle.mx_lives.specs.Lived.{AreLeft, LivedTo, LivesOver, RunsOver, lived, lived_more, unlived}

-- what lives left holds the books
pub left_hold : {D : Type 0} (g : Ghosts D) (files : Files D) (inputs : List (List ℕ)) (w : World) → AreLeft g files inputs w → HoldBooks (image_of g files) w
left_hold g files [] w held = held
left_hold g files (input ∷ inputs) w closed = closed.seen.both

-- files that were closed are left by one life more
left_closed : {D : Type 0} (g : Ghosts D) (files : Files D) (inputs : List (List ℕ)) (input : List ℕ) (w : World) → AreClosed g files w → AreLeft g files (inputs ++ input ∷ []) w
left_closed g files [] input w closed = closed
left_closed g files (first ∷ inputs) input w closed = closed

pub closed_left : {D : Type 0} (g : Ghosts D) (files : Files D) (inputs : List (List ℕ)) (input : List ℕ) {Holds : List Marked → World → Type 0}
    → Leads Holds (λ _ now. AreClosed g files now) → Leads Holds (λ _ now. AreLeft g files (inputs ++ input ∷ []) now)
closed_left g files inputs input led = record { end = led.end; rounds = led.rounds; holds = led.holds; moves = left_closed g files inputs input led.end led.moves }

-- files that were closed hold what was left
pub closed_hold : {D : Type 0} {g : Ghosts D} (left : Left D g) (closed : Option (Files D)) (w : World) → IfSome closed (λ files. left ≡ Closed files) → (AreHonest left → HoldWorld left w)
    → IfSome closed (λ files. AreClean g files.log files.db → AreClosed g files w)
closed_hold left None w is held = tt
closed_hold left (Some files) w is held = rw is at held

-- ---- lives

module _ {fails : StoreFault → Type 0} where
  -- what is promised of requests holds of those of a run
  task_lawful : (s : State) (r : Result ℕ TaskFault) (ms : List Marked) (t : State) → TaskRuns fails s r ms t → Lawful s.world ms t.world
  task_lawful s r ms t (inl none) = rw (none.1) (lawful_requests s.world t.world [] (ap (λ (u : State). u.world) none.2))
  task_lawful s r ms t (inr runs) = runs.2.leaves.lawful

  -- lives over inputs are lives
  over_lives : {have_stops : Bool} (inputs : List (List ℕ)) (lives : List Life) (w now : World) (ms : List Marked) → LivesOver fails have_stops inputs lives w ms now → Lives w ms now
  over_lives _ _ _ _ _ (unlived {w}) = unborn
  over_lives _ _ _ _ _ (lived {inputs} {input} {lives} {life} {w} {v} {now} {ms} {ns} before run) =
      ended (over_lives inputs lives w v ms before) (task_lawful _ _ _ _ run.runs)
  over_lives _ _ _ _ _ (lived_more {inputs} {input} {lives} {life} {w} {v} {now} {ms} {rs} _ before run r given_up) =
      stopped (over_lives inputs lives w v ms before) (task_lawful _ _ _ _ run.runs) r given_up

  -- what lives over inputs led to
  lived_to : {have_stops : Bool} (Stands : World → Type 0) (inputs : List (List ℕ)) (lives : List Life) (w end : World) (ms : List Marked) → LivesOver fails have_stops inputs lives w ms end → Stands end
      → LivedTo fails have_stops Stands inputs lives w
  lived_to Stands inputs lives w end ms over stands = record { marked = ms; end = end; over = over; as_one = over_lives inputs lives w end ms over; stands = stands }

  -- a run over an input
  pub run_over : {Moves Left : List Round → World → Type 0} {rest : Option (List ℕ)} (from empty output : Option (List ℕ)) (input : List ℕ) (w : World) (life : Life) → from ≡ Some input → empty ≡ Some []
      → output ≡ Some life.written.items → IfErr life.ended IsRunFault → ((rs : List Round) (now : World) → Moves rs now → Left rs now)
      → Leads (λ ms now. TaskRuns fails (state [] from empty w) life.ended ms (state [] rest output now)) Moves → Leads (RunsOver fails w input life) Left
  run_over {Moves} {Left} {rest} from empty output input w life given none wrote fault f led = record {
    end = led.end;
    rounds = led.rounds;
    holds = record {
      rest = rest;
      fault = fault;
      runs = subst (λ (out : Option (List ℕ)). TaskRuns fails (state [] (Some input) (Some []) w) life.ended (all_of led.rounds) (state [] rest out led.end)) wrote
          (subst (λ (o : Option (List ℕ)). TaskRuns fails (state [] (Some input) o w) life.ended (all_of led.rounds) (state [] rest output led.end)) none
          (subst (λ (i : Option (List ℕ)). TaskRuns fails (state [] i empty w) life.ended (all_of led.rounds) (state [] rest output led.end)) given led.holds));
    };
    moves = f led.rounds led.end led.moves;
  }

  -- a run, and lives, from a World that is told otherwise
  pub run_from : {input : List ℕ} {life : Life} {Moves : List Round → World → Type 0} (w u : World) → w ≡ u → Leads (RunsOver fails u input life) Moves → Leads (RunsOver fails w input life) Moves
  run_from w u is led = rw is led

  pub lived_from : {have_stops : Bool} {Stands Left : World → Type 0} {inputs : List (List ℕ)} {lives : List Life} (w u : World) → w ≡ u → ((v : World) → Stands v → Left v) → LivedTo fails have_stops Stands inputs lives u
      → LivedTo fails have_stops Left inputs lives w
  lived_from w u is f led = rw is (record { marked = led.marked; end = led.end; over = led.over; as_one = led.as_one; stands = f led.end led.stands })

  -- before the first
  pub lived_none : {have_stops : Bool} (Stands : World → Type 0) (w : World) → Stands w → LivedTo fails have_stops Stands [] [] w
  lived_none Stands w stands = lived_to Stands [] [] w w [] unlived stands

  -- one more, which ended with a close
  pub closed_next : (Before After : World → Type 0) (inputs : List (List ℕ)) (input : List ℕ) (lives : List Life) (life : Life) (w : World) → LivedTo fails false Before inputs lives w
      → ((v : World) → Before v → Leads (RunsOver fails v input life) (λ _ now. After now)) → LivedTo fails false After (inputs ++ input ∷ []) (lives ++ life ∷ []) w
  closed_next Before After inputs input lives life w before next = by (next before.end before.stands) where
    by : Leads (RunsOver fails before.end input life) (λ _ now. After now) → LivedTo fails false After (inputs ++ input ∷ []) (lives ++ life ∷ []) w
    by led = lived_to After _ _ w led.end _ (lived before.over led.holds) led.moves

  -- and one that was ended by a stop
  pub lived_next : (Before After : World → Type 0) (inputs : List (List ℕ)) (input : List ℕ) (lives : List Life) (life : Life) (w : World) → LivedTo fails true Before inputs lives w
      → ((v : World) → Before v → Leads (RunsOver fails v input life) (Lasts After v)) → LivedTo fails true After (inputs ++ input ∷ []) (lives ++ life ∷ []) w
  lived_next Before After inputs input lives life w before next = by (next before.end before.stands) where
    after : (rs : List Round) (now : World) → RunsOver fails before.end input life (all_of rs) now → Lasts After before.end rs now → LivedTo fails true After (inputs ++ input ∷ []) (lives ++ life ∷ []) w
    after rs now run (inl here) = lived_to After _ _ w now _ (lived before.over run) here
    after rs now run (inr more) = lived_to After _ _ w _ _ (lived_more refl before.over run more.0 more.1) more.2

    by : Leads (RunsOver fails before.end input life) (Lasts After before.end) → LivedTo fails true After (inputs ++ input ∷ []) (lives ++ life ∷ []) w
    by led = after led.rounds led.end led.holds led.moves
