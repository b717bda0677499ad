-- What the program answers a command line with: what it does, writes and says, and its exit status.
use Rattle.std.specs.Prelude.{◌≡◌, ◌≢◌, ◌⊎◌, ℕ, List, Bool, true, false, Option, Result, Ok, Err, String, Vec, codes, drop, if◌then◌else◌, map, string_bytes}
use Rattle.std.specs.Io.Buffered.{writer_contents}
use Rattle.std.specs.Io.KnownBytes.{Appends}
use Rattle.std.specs.IoError.{error_kind}
use Rattle.std.specs.Process.{exit_status}
use Rattle.std.specs.declared.alloc.Global.{Global}
use Rattle.std.specs.declared.io.Error.{Error}
use Rattle.std.specs.declared.io.ErrorKind.{ErrorKind}
use Rattle.std.specs.declared.io.ErrorKind.TheVariants.{InvalidData}
use Rattle.sqlite_disk.specs.declared.Disk.{Ghosts}
use Rattle.sqlite_wal.specs.Recovery.{Image}
use Rattle.mx_args.specs.Read.{IsReadAs}
use Rattle.mx_args.specs.declared.task.LineFault.{LineFault}
use Rattle.mx_args.specs.declared.task.LineFault.TheVariants as line
use Rattle.mx_args.specs.declared.task.Task.{Task}
use Rattle.mx_args.specs.declared.task.Task.TheVariants as task
use Rattle.mx_tasks.specs.Voices.{fault_line}
use Rattle.mx_tasks.specs.declared.fault.TaskFault.{TaskFault}
use Rattle.mx_tasks.specs.declared.fault.TaskFault.TheVariants.{Memory, Write}
use Rattle.mx_files.specs.Performed.{Performs, Streams, streams}
use Rattle.mx_files.specs.declared.program.Devices.{Devices}
use Rattle.mx_files.specs.declared.program.Exit.{Exit}

-- ---- what is known of the devices

-- what the input has left, what stands at the output that is written at once and what was written to the one behind a buffer,
-- and what was said on standard error
pub record Seen : Type 0 where
  pub input : Option (List ℕ)
  pub direct : Option (List ℕ)
  pub buffered : Option (List ℕ)
  pub said : Option (List ℕ)

-- so much of the devices
abbrev pub seen : {R W V : Type 0} → (R → Option (List ℕ)) → (W → Option (List ℕ)) → (V → Option (List ℕ)) → Devices R W V → Seen
seen remaining contents said devices = record {
  input = remaining devices.input.device;
  direct = contents devices.direct.device.writer;
  buffered = writer_contents contents devices.buffered.device;
  said = said devices.voice;
}

-- whether a task writes at once, and not to a buffer: a run over a file does
abbrev pub is_direct : Task → Bool
is_direct (task.RunFile file) = true
is_direct _ = false

-- the input, and the output of a task that writes at once, or doesn't
abbrev pub streams_of : Bool → Seen → Streams
streams_of direct s = streams s.input (if direct then s.direct else s.buffered)

-- such a task leaves the other output as it was
abbrev pub KeepsOther : Bool → Seen → Seen → Type 0
KeepsOther direct before after = (if direct then after.buffered else after.direct) ≡ (if direct then before.buffered else before.direct)

-- ---- how the program ends

-- what is said of words of which one is no text
abbrev pub not_utf8_text : List ℕ
not_utf8_text = codes "error: a word of the command line is not UTF-8\n"

-- a task that is done says nothing, and its status is 0; else its fault is said, and the status is 1
abbrev pub EndsTask : {X : Type 0} → Result X TaskFault → Option (List ℕ) → Option (List ℕ) → ℕ → Type 0
EndsTask (Ok x) said now status = (status ≡ 0) × (now ≡ said)
EndsTask (Err fault) said now status = (status ≡ 1) × Appends said now (fault_line fault)

-- this was said, and nothing was written
abbrev pub SaysOnly : List ℕ → Seen → Seen → Type 0
SaysOnly text before after = Appends before.said after.said text × (after ≡ record before { said = after.said })

-- this was written at once, and nothing was said
abbrev pub WritesOnly : List ℕ → Seen → Seen → Type 0
WritesOnly text before after = Appends before.direct after.direct text × (after ≡ record before { direct = after.direct })

-- A line that names no task: what is wrong is said, and the status is 2; or the version is written, and the status is 0, or that fault
-- is said, and the status is 1; or there is no memory.
abbrev pub EndsLine : LineFault → Seen → Seen → ℕ → Type 0
EndsLine (line.Bad text) before after status = (status ≡ 2) × SaysOnly (string_bytes text) before after
EndsLine (line.Version text) before after status = ((status ≡ 0) × WritesOnly (string_bytes text) before after)
    ⊎ ((status ≡ 1) × Appends before.said after.said (fault_line Write))
EndsLine line.Memory before after status = (status ≡ 1) × SaysOnly (fault_line Memory) before after

-- words of which one is no text, or for which there is no memory
pub record EndsUnread (kind : ErrorKind) (before after : Seen) (status : ℕ) : Type 0 where
  pub no_text : kind ≡ InvalidData → (status ≡ 2) × SaysOnly not_utf8_text before after
  pub no_memory : kind ≢ InvalidData → (status ≡ 1) × SaysOnly (fault_line Memory) before after

-- ---- the program

module _ {D : Type 0} {g : Ghosts D} where
  -- the task is done over the input and its own output, and ends so
  pub record DoesTask (bytes : Image) (task : Task) (before after : Seen) (exit : Exit D g) : Type 0 where
    pub answer : Result (Unit {0}) TaskFault
    pub performs : Performs bytes (streams_of (is_direct task) before) (streams_of (is_direct task) after) task (record { answer = answer; left = exit.left; copy = exit.copy })
    pub other : KeepsOther (is_direct task) before after
    pub ends : EndsTask answer before.said after.said (exit_status exit.status)

  -- what a line that is read so is answered with
  abbrev pub Answers : Image → Result Task LineFault → Seen → Seen → Exit D g → Type 0
  Answers bytes (Ok task) before after exit = DoesTask bytes task before after exit
  Answers bytes (Err fault) before after exit = EndsLine fault before after (exit_status exit.status)

  -- what these words are answered with
  abbrev pub AnswersLine : Image → List (List ℕ) → Seen → Seen → Exit D g → Type 0
  AnswersLine bytes words before after exit = (read : Result Task LineFault) × IsReadAs words read × Answers bytes read before after exit

  -- what the words of a command line are answered with, the program's name first, or that there are none
  abbrev pub AnswersArgs : Image → Result (Vec (String Global) Global) Error → Seen → Seen → Exit D g → Type 0
  AnswersArgs bytes (Ok args) before after exit = AnswersLine bytes (map string_bytes (drop 1 args.items)) before after exit
  AnswersArgs bytes (Err error) before after exit = EndsUnread (error_kind error) before after (exit_status exit.status)
