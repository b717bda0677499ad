-- Tasks over the same files that answer requests, one after another: each begins with what the one before left.
use Rattle.std.specs.Prelude.{◌≡◌, ◌⊎◌, ℕ, List, [], ◌++◌, Result}
use mathlib.Core.Logic.{inl, inr}
use Rattle.sqlite_store.specs.FileStore.{recovers}
use Rattle.sqlite_trees.specs.Tree.{Trees}
use Rattle.sqlite_disk.specs.declared.Disk.{Ghosts}
use Rattle.sqlite_wal.specs.Files.{outcomes}
use Rattle.sqlite_wal.specs.Recovery.{Image}
use Rattle.sqlite.specs.Files.{HoldsDatabase}
use Rattle.mx_book.specs.World.{World}
use Rattle.mx_desk.specs.Durable.{Lasts}
use Rattle.mx_desk.specs.Rounds.{Round, all_of}
use Rattle.mx_desk.specs.Serve.{Marked}
use Rattle.mx_desk.specs.Steps.{state}
use Rattle.mx_args.specs.declared.task.Task.{Task}
use Rattle.mx_args.specs.declared.task.Task.TheVariants as task
use Rattle.mx_tasks.specs.Works.{WorksServe}
use Rattle.mx_tasks.specs.declared.fault.TaskFault.{TaskFault}
use Rattle.mx_tasks.specs.declared.work.Done.{Done}
use Rattle.mx_files.specs.InFiles.{HoldTables}
use Rattle.mx_files.specs.Performed.{MayFail, PerformsRun, Streams}
use Rattle.mx_files.specs.declared.closing.Left.{Left}
use Rattle.mx_files.specs.declared.closing.Left.TheVariants.{Closed, Unclosed, Nothing}

-- What the files may hold that are opened next: of files that were closed, what a stop may leave, and what they have is among it; of
-- others, a database that a stop may leave.
abbrev pub MayHold : {D : Type 0} {g : Ghosts D} → Left D g → Image → Type 0
MayHold {g} (Closed files) bytes = outcomes g files.log files.db bytes
MayHold (Unclosed store) bytes = (db : Trees) × recovers store db × HoldsDatabase bytes db
MayHold Nothing bytes = ⊥

-- the task answers requests over the books in a file
abbrev pub IsAnswering : Task → Type 0
IsAnswering (task.RunFile file) = Unit {0}
IsAnswering (task.Serve file port count copies) = Unit {0}
IsAnswering other = ⊥

-- From the books of a World these rounds of requests were answered, which lead to the World in the end, by a run or over connections;
-- or nothing was, and nothing was read or written.
abbrev pub Answers : {X : Type 0} → World → Streams → Streams → Result X TaskFault → List Round → World → Type 0
Answers w before after answer rounds end =
    ((rounds ≡ []) × (end ≡ w) × (after ≡ before))
    ⊎ (((told : Result ℕ TaskFault → Result ℕ TaskFault) × PerformsRun MayFail told (state [] before.input before.output w) answer after.input after.output (all_of rounds) end)
    ⊎ ((count : ℕ) × (done : Result Done TaskFault) × WorksServe MayFail w count done (all_of rounds) end))

-- One life: such a task, and the World whose tables are found next, the one in its end or that with one round more, as `Lasts` says.
pub record Life (w : World) (bytes : Image) (found : World) : Type 0 where
  pub before : Streams
  pub after : Streams
  pub answer : Result (Unit {0}) TaskFault
  pub rounds : List Round
  pub end : World
  pub answers : Answers w before after answer rounds end
  pub lasts : Lasts (λ v. found ≡ v) w rounds end
  pub holds : HoldTables bytes found

-- the requests of a life, with the round that was done after all
abbrev pub more_of : (w : World) (rs : List Round) (now found : World) → Lasts (λ v. found ≡ v) w rs now → List Marked
more_of w rs now found (inl here) = []
more_of w rs now found (inr more) = more.0.held

abbrev pub requests_in : {w : World} {bytes : Image} {found : World} → Life w bytes found → List Marked
requests_in {w} {found = found} life = all_of life.rounds ++ more_of w life.rounds life.end found life.lasts

-- lives over the same files, the first from the books of the World w, and each from what the one before left; and the requests of all
pub data Series (w : World) : List Marked → Image → World → Type 0 where
  first : {bytes : Image} → HoldTables bytes w → Series w [] bytes w
  then : {ms : List Marked} {bytes next : Image} {v found : World} → Series w ms bytes v → (life : Life v next found) → Series w (ms ++ requests_in life) next found
