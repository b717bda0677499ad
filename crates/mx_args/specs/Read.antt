-- What a command line is read as.
use Rattle.std.specs.Prelude.{◌≡◌, ◌≢◌, ◌⊎◌, List, [], Result, Ok, Err, IfOk, IfErr}
use Rattle.clap.specs.Words.{Text, fault_of, subcommand_of}
use Rattle.mx_args.specs.Line.{line_app}
use Rattle.mx_args.specs.Misfits.{BadOrMemory, FitsKinds, TellsMisfit}
use Rattle.mx_args.specs.Named.{IsNamedBy}
use Rattle.mx_args.specs.declared.task.LineFault.{LineFault}
use Rattle.mx_args.specs.declared.task.LineFault.TheVariants.{Memory}
use Rattle.mx_args.specs.declared.task.Task.{Task}

-- The words are read as the task that they name, or there is no memory. Words that clap takes and that name no task are answered with
-- the words of what is wrong with the command; those that it does not take, by the kind of its error.
pub record IsReadAs (words : List Text) (read : Result Task LineFault) : Type 0 where
  pub named : IfOk read (IsNamedBy words)
  pub answered : (task : Task) → IsNamedBy words task → (read ≡ Ok task) ⊎ (read ≡ Err Memory)
  pub misfit : fault_of line_app words ≡ [] → IfErr read (BadOrMemory (TellsMisfit (subcommand_of line_app words)))
  pub fault : fault_of line_app words ≢ [] → IfErr read (FitsKinds (fault_of line_app words))
