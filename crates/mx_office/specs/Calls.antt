-- What a decision on a command tells.
use Rattle.std.specs.Prelude.{◌≡◌, [], false, Result, OnOk, IfErr, IsTrue}
use Rattle.mx_book.specs.Keeps.{HasCause}
use Rattle.mx_book.specs.declared.contract.StoreFault.{StoreFault}
use Rattle.mx_book.specs.declared.values.Caller.{Caller}
use Rattle.mx_book.specs.Views.{View, Keeps, IsSure}
use Rattle.mx_command.specs.Commands.{IsCommand}
use Rattle.mx_office.specs.Decides.{Decides}
use Rattle.mx_office.specs.Faults.{FailsFor, MayNotDecide, is_read, lists, makes_edits}
use Rattle.mx_office.specs.Step.{base}
use Rattle.mx_command.specs.declared.values.Command.{Command}
use Rattle.mx_office.specs.declared.values.Decided.{Decided}

-- The World stays. Where there is no doubt in the end, the decision is that of the World. A command that only reads has no
-- edits, nor has one that is idle in the World, and want of memory comes of lists alone. A fault of the store has a cause.
pub record TellsOf {T : Type 0} (fails : StoreFault → Type 0) (old new : View) (result : Result T StoreFault)
    (caller : Caller) (command : Command) (d : Decided) : Type 0 where
  pub keeps : Keeps old new
  pub decides : IsCommand command → IsSure new
      → OnOk result (Decides old.world (base old.world caller command) d)
  pub reads : OnOk result (IsTrue (is_read command) → d.edits ≡ [])
  pub edits : IsSure new
      → OnOk result (makes_edits old.world command ≡ false → d.edits ≡ [])
  pub fault : IfErr result (MayNotDecide fails command)
  pub memory : IsSure new → IfErr result (FailsFor fails (lists old.world caller command))
  pub cause : IsSure new → IfErr result (HasCause old.limited old.faults new.faults)
