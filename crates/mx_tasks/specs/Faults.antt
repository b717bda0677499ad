-- The words of the program's faults, and which faults of the layers below they are.
use Rattle.std.specs.Prelude.{◌≡◌, ◌⊎◌, ℕ, List, codes}
use Rattle.mx_tasks.specs.declared.fault.TaskFault.{TaskFault}
use Rattle.mx_tasks.specs.declared.fault.TaskFault.TheVariants.{Read, Write, Turns, Memory, Store, NotThisSchema, FileExists, File, Net, NoSuchPurse, Roll, RollTooLarge}
use Rattle.mx_book.specs.declared.contract.StoreFault.{StoreFault}
use Rattle.mx_book.specs.declared.contract.StoreFault.TheVariants as store
use Rattle.mx_desk.specs.declared.fault.DeskFault.{DeskFault}
use Rattle.mx_desk.specs.declared.fault.DeskFault.TheVariants as desk
use Rattle.mx_report.specs.declared.rolls.RollFaultKind.{RollFaultKind}
use Rattle.mx_report.specs.declared.rolls.RollFaultKind.TheVariants as roll

abbrev pub fault_text : TaskFault → List ℕ
fault_text Read = codes "read"
fault_text Write = codes "write"
fault_text Turns = codes "turns"
fault_text Memory = codes "memory"
fault_text Store = codes "store"
fault_text NotThisSchema = codes "not this schema"
fault_text FileExists = codes "file exists"
fault_text File = codes "file"
fault_text Net = codes "net"
fault_text NoSuchPurse = codes "no such purse"
fault_text Roll = codes "roll"
fault_text RollTooLarge = codes "roll too large"

-- a fault of the desk as the program's
abbrev pub fault_of : DeskFault → TaskFault
fault_of desk.Read = Read
fault_of desk.Write = Write
fault_of desk.Turns = Turns

-- a fault of a book
abbrev pub store_fault_of : StoreFault → TaskFault
store_fault_of store.Memory = Memory
store_fault_of store.Store = Store

-- a fault of what asks a book: want of memory, or that of a book whose calls may fail so
abbrev pub IsBookFault : (StoreFault → Type 0) → TaskFault → Type 0
IsBookFault fails e = (e ≡ Memory) ⊎ (fails store.Store × (e ≡ Store))

-- and of a report, which may be of a purse that isn't there
abbrev pub IsReportFault : (StoreFault → Type 0) → TaskFault → Type 0
IsReportFault fails e = (e ≡ NoSuchPurse) ⊎ IsBookFault fails e

-- a fault of a roll that is imported
abbrev pub roll_fault_of : RollFaultKind → TaskFault
roll_fault_of roll.NotRoll = Roll
roll_fault_of roll.Memory = Memory
roll_fault_of roll.Store = Store

-- nothing was read, and nothing written
abbrev pub Untouched : {R W : Type 0} → R → R → W → W → Type 0
Untouched reader reader' writer writer' = (reader' ≡ reader) × (writer' ≡ writer)
