use Rattle.std.proofs.Common.{List, ℕ, Err, inr, refl}
use Rattle.mx_args.specs.Read.{IsReadAs}
use Rattle.mx_args.specs.declared.task.LineFault.TheVariants.{Memory}
use Rattle.mx_files.proofs.program.run_program.Goals as goal

-- any words may be read as want of memory
read_so : (words : List (List ℕ)) → IsReadAs words (Err Memory)
read_so words = record { named = tt; answered = λ task named. inr refl; misfit = λ _. tt; fault = λ _. tt }

pub returns : goal.returns
returns g c = rw c.in-Ok.is (Err Memory, read_so _, c.end_line.ensures)
