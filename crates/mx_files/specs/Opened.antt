-- Which faults of books that are made or opened are which of the program's, and why a database isn't opened.
use Rattle.std.specs.Prelude.{◌≡◌, ◌⊎◌, ◌++◌, ℕ, Bool, true, false, List, Result, Err, Some, codes, ⊤}
use Rattle.sqlite.specs.declared.error.Error.{Error}
use Rattle.sqlite.specs.declared.error.Error.TheVariants.{SqliteFailure}
use Rattle.sqlite.specs.declared.error.ErrorCode.TheVariants as code
use Rattle.mx_tasks.specs.declared.cause.Cause.{Cause}
use Rattle.mx_tasks.specs.declared.cause.Cause.TheVariants.{Fault, Busy, Damaged, OtherTables, NoLog, DiskFull, DiskFailed}
use Rattle.mx_audit.specs.declared.opening.Refusal.{Refusal}
use Rattle.mx_audit.specs.declared.opening.Refusal.TheVariants as refusal
use Rattle.mx_tasks.specs.declared.work.Done.{Done}
use Rattle.mx_files.specs.Folders.{IsHead, Spot, has_sums}
use Rattle.mx_tasks.specs.declared.fault.TaskFault.{TaskFault}
use Rattle.mx_tasks.specs.declared.fault.TaskFault.TheVariants.{Memory, Store, NotThisSchema}

-- a fault of books that are made or opened
abbrev pub open_fault_of : Refusal → TaskFault
open_fault_of refusal.Memory = Memory
open_fault_of refusal.Store = Store
open_fault_of refusal.NotThisSchema = NotThisSchema
open_fault_of (refusal.Unsound checked) = Store

-- the fault of a task whose books were refused: want of memory; one of the store; or that they aren't known, only where this is so
abbrev pub IsRefusal : {X : Type 0} → Type 0 → Result X TaskFault → Type 0
IsRefusal Unknown result = (result ≡ Err Memory) ⊎ ((result ≡ Err Store) ⊎ ((result ≡ Err NotThisSchema) × Unknown))

-- a check tells of something wrong
abbrev pub IsWrong : Done → Type 0
IsWrong done = done.fault ≡ Some Store

-- what a check says of the checksums of pages
abbrev pub sums_line : Bool → List ℕ
sums_line true = codes "checksums: each page has one\n"
sums_line false = codes "checksums: none, and a copy has them\n"

-- a text has that line more, of a file that begins so, where that is known
abbrev pub TellsSums : Spot → List ℕ → List ℕ → Type 0
TellsSums spot before after = (head : List ℕ) × IsHead spot 21 head × (after ≡ before ++ sums_line (has_sums head))

-- why a database isn't opened, by the error
abbrev pub cause_of : Error → Cause
cause_of (SqliteFailure code.OutOfMemory) = Fault Memory
cause_of (SqliteFailure code.DatabaseBusy) = Busy
cause_of (SqliteFailure code.DatabaseCorrupt) = Damaged
cause_of (SqliteFailure code.NotADatabase) = OtherTables
cause_of (SqliteFailure code.CannotOpen) = NoLog
cause_of (SqliteFailure code.DiskFull) = DiskFull
cause_of _ = DiskFailed

-- it is told so; or its files are looked at, which may tell another cause
abbrev pub IsExplained : Cause → Cause → Type 0
IsExplained Damaged told = ⊤
IsExplained OtherTables told = ⊤
IsExplained NoLog told = ⊤
IsExplained cause told = told ≡ cause
