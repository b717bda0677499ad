-- The tasks of the program: what was answered and written, and where the books stand then.
use Rattle.std.specs.Prelude.{◌≡◌, ◌⊎◌, ℕ, List, [], Option, Some, None, Result, Ok, Err, OnOk, OnErr, IfErr, IfOk, IsErr, IsOk, codes}
use Rattle.std.specs.Io.KnownBytes.{Appends}
use Rattle.sqlite_disk.specs.declared.Disk.{Ghosts}
use Rattle.sqlite_wal.specs.Recovery.{Image}
use Rattle.sqlite.specs.Effect.{Database}
use Rattle.mx_args.specs.declared.task.Task.{Task}
use Rattle.mx_book.specs.World.{Token, World, opening}
use Rattle.mx_book.specs.declared.contract.StoreFault.{StoreFault}
use Rattle.mx_desk.specs.Rounds.{Leads}
use Rattle.mx_desk.specs.Serve.{Marked}
use Rattle.mx_desk.specs.Steps.{State, state}
use Rattle.mx_tables.specs.Made.{IsUnknown}
use Rattle.mx_tables.specs.declared.making.Version.TheVariants.{One}
use Rattle.mx_tables.specs.declared.migration.Migrated.{Migrated}
use Rattle.mx_tables.specs.declared.migration.Migrated.TheVariants as migrated
use Rattle.mx_tasks.specs.Runs.{TaskRuns}
use Rattle.mx_tasks.specs.Works.{Works}
use Rattle.mx_tasks.specs.declared.fault.TaskFault.{TaskFault}
use Rattle.mx_tasks.specs.declared.fault.TaskFault.TheVariants.{Write}
use Rattle.mx_tasks.specs.declared.work.Done.{Done}
use Rattle.mx_tasks.specs.declared.work.Work.{Work}
use Rattle.mx_files.specs.InFiles.{AreHonest, AreShut, HoldBooksIn, HoldRounds, HoldTables, HoldWorld, IsNewOf, Keeps, closed_answer, version_before}
use Rattle.mx_files.specs.Opened.{IsRefusal}
use Rattle.mx_files.specs.Plans.{planned_task}
use Rattle.mx_files.specs.declared.closing.Ended.{Ended}
use Rattle.mx_files.specs.declared.closing.Left.{Left}
use Rattle.mx_files.specs.declared.closing.Left.TheVariants.{Nothing}
use Rattle.mx_files.specs.declared.plan.Act.{Act}
use Rattle.mx_files.specs.declared.plan.Act.TheVariants as act
use Rattle.mx_files.specs.declared.plan.Plan.{Plan}
use Rattle.mx_files.specs.declared.plan.Plan.TheVariants.{InMemory, InFile}

-- what a run answered is the task's, where it is a fault; else what the writer holds is passed on, or that is a fault
abbrev pub EndsRun : {X : Type 0} → Result ℕ TaskFault → Result X TaskFault → Option (List ℕ) → Option (List ℕ) → Type 0
EndsRun (Ok n) result written output = OnOk result (Appends written output []) × IfErr result (λ e. e ≡ Write)
EndsRun (Err e) result written output = IfErr result (λ fault. fault ≡ e) × OnOk result ⊥ × (output ≡ written)

-- a task that is a run: these requests lead to the World now, what they answered is told so behind a close, and what the writer
-- holds is passed on
pub record PerformsRun {X : Type 0} (fails : StoreFault → Type 0) (told : Result ℕ TaskFault → Result ℕ TaskFault) (s : State) (result : Result X TaskFault) (input output : Option (List ℕ)) (ms : List Marked) (now : World) : Type 0 where
  pub written : Option (List ℕ)
  pub run : Result ℕ TaskFault
  pub runs : TaskRuns fails s run ms (state [] input written now)
  pub ends : EndsRun (told run) result written output

-- the task ends with this fault, if there is one
abbrev pub EndsWith : {X : Type 0} → Option TaskFault → Result X TaskFault → Type 0
EndsWith None result = IsOk result
EndsWith (Some fault) result = result ≡ Err fault

-- The text that work gave is written, and the task ends with its fault; or it can't be written. A fault of work is the task's.
abbrev pub EndsWork : {X : Type 0} → Result Done TaskFault → Result X TaskFault → Option (List ℕ) → Option (List ℕ) → Type 0
EndsWork (Ok done) result before after = (result ≡ Err Write) ⊎ (Appends before after done.text.items × EndsWith done.fault result)
EndsWork (Err e) result before after = (result ≡ Err e) × (after ≡ before)

-- a task that is work over the books of these files, as it was told behind their close
pub record PerformsWork {D X : Type 0} {g : Ghosts D} (fails : StoreFault → Type 0) (left : Left D g) (w : World) (work : Work) (result : Result X TaskFault) (before after : Option (List ℕ)) : Type 0 where
  pub answer : Result Done TaskFault
  pub works : Works fails (AreShut left) (HoldWorld left) (HoldRounds left w) w work answer
  pub ends : EndsWork (closed_answer left answer) result before after

-- new books were closed, which have the operator's token alone, and that is said; or the task failed
abbrev pub MakesBooks : {D X : Type 0} {g : Ghosts D} → Token → Left D g → Result X TaskFault → Option (List ℕ) → Option (List ℕ) → Type 0
MakesBooks operator left result before after = IsNewOf operator left × OnOk result (Appends before after (codes "created\n"))

-- what a migration prints
abbrev pub migrated_text : Migrated → List ℕ
migrated_text migrated.Done = codes "migrated\n"
migrated_text migrated.Already = codes "already schema 2\n"

-- What was done is said in this text; or that can't be written. A fault is the task's.
abbrev pub EndsSaying : {X Y : Type 0} → (X → List ℕ) → Result X TaskFault → Result Y TaskFault → Option (List ℕ) → Option (List ℕ) → Type 0
EndsSaying text (Ok x) result before after = IfErr result (λ e. e ≡ Write) × OnOk result (Appends before after (text x))
EndsSaying text (Err e) result before after = (result ≡ Err e) × (after ≡ before)

-- the books of the World are in the files that are at the path then: those of a copy, where one was made
abbrev pub HoldTaken : {D C : Type 0} {g : Ghosts D} {h : Ghosts C} → Left D g → Left C h → World → Type 0
HoldTaken left Nothing w = HoldWorld left w
HoldTaken left copy w = AreHonest copy → HoldWorld copy w

-- What was a World in the version before is that in this one. Where that fails, what was there is there still, or it is of this
-- version.
pub record MigratesBooks {D C : Type 0} {g : Ghosts D} {h : Ghosts C} (bytes : Image) (answer : Result Migrated TaskFault) (left : Left D g) (copy : Left C h) : Type 0 where
  pub migrates : IfOk answer (λ made. (w : World) → HoldBooksIn (version_before made) bytes w → HoldTaken left copy w)
  pub refused : AreShut left → OnErr answer (((tables : Database) × Keeps bytes left tables) ⊎ ((w : World) → HoldBooksIn One bytes w → HoldWorld left w))

-- a task that is a migration, as it was told behind the close of its files
pub record PerformsMigration {D X : Type 0} {g : Ghosts D} (bytes : Image) (ended : Ended X D g) (before after : Option (List ℕ)) : Type 0 where
  pub answer : Result Migrated TaskFault
  pub migrates : MigratesBooks bytes answer ended.left ended.copy
  pub ends : EndsSaying migrated_text (closed_answer ended.left answer) ended.answer before after

-- The books of a World were copied: they are in the files still, and in those of the copy, and all were closed.
abbrev pub CopiesBooks : {D C : Type 0} {g : Ghosts D} {h : Ghosts C} → Image → Left D g → Left C h → Type 0
CopiesBooks bytes left copy = AreShut left × AreShut copy × (AreHonest left
    → (w : World) × ((u : World) → HoldTables bytes u → u ≡ w) × HoldWorld left w × (AreHonest copy → HoldWorld copy w))

-- a task that is a copy: that it was made is said, and whatever comes of it, the files hold what they held
pub record PerformsCopy {D X : Type 0} {g : Ghosts D} (bytes : Image) (ended : Ended X D g) (before after : Option (List ℕ)) : Type 0 where
  pub answer : Result (Unit {0}) TaskFault
  pub copies : OnOk answer (CopiesBooks bytes ended.left ended.copy)
  pub keeps : AreHonest ended.left → (tables : Database) × Keeps bytes ended.left tables
  pub ends : EndsSaying (λ _. codes "copied\n") answer ended.answer before after

-- A check: something is wrong, and the database is in the files still; or they were and are the books of a World.
abbrev pub Checks : {D : Type 0} {g : Ghosts D} → Image → Left D g → Type 0 → Type 0
Checks bytes left Wrong =
    (Wrong × (tables : Database) × Keeps bytes left tables)
    ⊎ (AreShut left → (w : World) × ((u : World) → HoldTables bytes u → u ≡ w) × HoldWorld left w)

-- a fault before the files of a task are opened leaves none of them
abbrev pub ended_of : {D X : Type 0} {g : Ghosts D} → Result (Ended X D g) TaskFault → Ended X D g
ended_of (Ok ended) = ended
ended_of (Err fault) = record { answer = Err fault; left = Nothing; copy = Nothing }

-- ---- a task

-- in memory no store fails; one in a file may at any time
abbrev pub NeverFails : StoreFault → Type 0
NeverFails fault = ⊥

abbrev pub MayFail : StoreFault → Type 0
MayFail fault = Unit {0}

-- what the input has left, and what the output holds
pub record Streams : Type 0 where
  pub input : Option (List ℕ)
  pub output : Option (List ℕ)

abbrev pub streams : Option (List ℕ) → Option (List ℕ) → Streams
streams input output = record { input = input; output = output }

-- requests are answered over new books in memory
abbrev pub PerformsInMemory : {X : Type 0} → Token → Streams → Streams → Result X TaskFault → Type 0
PerformsInMemory operator before after result = (ms : List Marked) × (now : World)
    × PerformsRun NeverFails (λ run. run) (state [] before.input before.output (opening operator)) result after.input after.output ms now

module _ {D X : Type 0} {g : Ghosts D} where
  -- Nothing was read or written, since there are no files, or the books in them were refused, and are in them still. Or they were those
  -- of a World, from which this was done.
  abbrev pub OverBooks : Image → Streams → Streams → Ended X D g → (World → Type 0) → Type 0
  OverBooks bytes before after ended Does =
      ((after ≡ before) × (AreHonest ended.left → (tables : Database) × Keeps bytes ended.left tables × IsRefusal (IsUnknown (λ _. 2) tables) ended.answer))
      ⊎ (AreHonest ended.left → (w : World) × ((u : World) → HoldTables bytes u → u ≡ w) × Does w)

  -- what an act does with the books in a file that held these bytes
  abbrev pub PerformsAct : Image → Streams → Streams → Act → Ended X D g → Type 0
  PerformsAct bytes before after act.Run ended = OverBooks bytes before after ended
      (λ w. Leads (PerformsRun MayFail (closed_answer ended.left) (state [] before.input before.output w) ended.answer after.input after.output) (HoldRounds ended.left w))
  PerformsAct bytes before after (act.Make operator) ended = IsOk ended.answer
      → MakesBooks operator ended.left ended.answer before.output after.output
  PerformsAct bytes before after (act.Work errand) ended = OverBooks bytes before after ended
      (λ w. PerformsWork MayFail ended.left w errand.work ended.answer before.output after.output)
  PerformsAct bytes before after act.Check ended = AreHonest ended.left → Checks bytes ended.left (IsErr ended.answer)
  PerformsAct bytes before after (act.Copy to) ended = PerformsCopy bytes ended before.output after.output
  PerformsAct bytes before after act.Migrate ended = AreHonest ended.left
      → PerformsMigration bytes ended before.output after.output

  -- what a plan does. Where one over a file answers Ok, the file was closed.
  abbrev pub PerformsPlan : Image → Streams → Streams → Plan → Ended X D g → Type 0
  PerformsPlan bytes before after (InMemory operator) ended = PerformsInMemory operator before after ended.answer
  PerformsPlan bytes before after (InFile path act) ended = (IsOk ended.answer → AreShut ended.left)
      × PerformsAct bytes before after act ended

  -- what a task does whose files held these bytes: what its plan does
  pub record Performs (bytes : Image) (before after : Streams) (task : Task) (ended : Ended X D g) : Type 0 where
    pub plan : Plan
    pub planned : planned_task plan ≡ task
    pub performs : PerformsPlan bytes before after plan ended
