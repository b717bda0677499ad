-- Which fault the program ends with where a file isn't used, or a roll not to its end.
use Rattle.std.specs.IoError.{error_kind}
use Rattle.std.specs.declared.io.ErrorKind.{ErrorKind}
use Rattle.std.specs.declared.io.ErrorKind.TheVariants.{OutOfMemory}
use Rattle.mx_tasks.specs.declared.cause.Cause.{Cause}
use Rattle.mx_tasks.specs.declared.cause.Cause.TheVariants.{System, NotEmpty, Itself, OtherFile, Rival, Empty, TooLarge, NoRoll, BadRow, Unfinished, Fault}
use Rattle.mx_tasks.specs.declared.fault.TaskFault.{TaskFault}
use Rattle.mx_tasks.specs.declared.fault.TaskFault.TheVariants.{Memory, NotThisSchema, FileExists, File, Roll, RollTooLarge}

-- an error of the system, by its kind
abbrev pub kind_fault : ErrorKind → TaskFault
kind_fault OutOfMemory = Memory
kind_fault _ = File

-- the fault of a cause
abbrev pub cause_fault : Cause → TaskFault
cause_fault (System error) = kind_fault (error_kind error)
cause_fault NotEmpty = FileExists
cause_fault Itself = FileExists
cause_fault OtherFile = FileExists
cause_fault Rival = FileExists
cause_fault Empty = NotThisSchema
cause_fault TooLarge = RollTooLarge
cause_fault NoRoll = Roll
cause_fault (BadRow row done) = Roll
cause_fault (Unfinished fault done) = fault
cause_fault (Fault fault) = fault
cause_fault _ = File
