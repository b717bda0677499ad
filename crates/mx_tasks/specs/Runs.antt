-- Runs of the program.
use Rattle.std.specs.Prelude.{◌≡◌, ◌⊎◌, ℕ, List, [], Result, Ok, Err}
use Rattle.mx_book.specs.declared.contract.StoreFault.{StoreFault}
use Rattle.mx_desk.specs.declared.fault.DeskFault.{DeskFault}
use Rattle.mx_desk.specs.Leaves.{Runs}
use Rattle.mx_desk.specs.Serve.{Marked}
use Rattle.mx_desk.specs.Steps.{State}
use Rattle.mx_tasks.specs.Faults.{fault_of}
use Rattle.mx_tasks.specs.declared.fault.TaskFault.{TaskFault}
use Rattle.mx_tasks.specs.declared.fault.TaskFault.TheVariants.{Memory, Store}

-- how a run of the desk ended, as the program's
abbrev pub task_result : Result ℕ DeskFault → Result ℕ TaskFault
task_result (Ok n) = Ok n
task_result (Err e) = Err (fault_of e)

-- the faults of a run over books that are there: memory, or one of the desk
abbrev pub IsRunFault : TaskFault → Type 0
IsRunFault e = (e ≡ Memory) ⊎ ((d : DeskFault) × (e ≡ fault_of d))

-- a run that didn't begin, for want of memory or since there are no books
abbrev pub IsUnbegun : Result ℕ TaskFault → Type 0
IsUnbegun result = (result ≡ Err Memory) ⊎ (result ≡ Err Store)

-- a run: it didn't begin, and all is as it was; or it is one of the desk
abbrev pub TaskRuns : (StoreFault → Type 0) → State → Result ℕ TaskFault → List Marked → State → Type 0
TaskRuns fails s result ms t = (IsUnbegun result × (ms ≡ []) × (t ≡ s)) ⊎ ((r : Result ℕ DeskFault) × (result ≡ task_result r) × Runs fails s r ms t)
