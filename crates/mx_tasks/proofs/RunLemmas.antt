-- The World from which a run begins, and a fault that no run over books has.
use Rattle.std.proofs.Common.{◌≡◌, ℕ, [], Ok, Err, inl, inr, refl, subst}
use Rattle.std.specs.Prelude.{Result, IfErr}
use Rattle.mx_pay.specs.Tokens.{IsToken}
use Rattle.mx_book.specs.World.{Token, opening}
use Rattle.mx_office.specs.Reachable.{IsReachable}
use Rattle.mx_desk.specs.declared.fault.DeskFault.{DeskFault}
use Rattle.mx_desk.specs.declared.fault.DeskFault.TheVariants as desk
use Rattle.mx_tasks.specs.Faults.{fault_of}
use Rattle.mx_tasks.specs.Runs.{IsRunFault}
use Rattle.mx_tasks.specs.declared.fault.TaskFault.{TaskFault}
use Rattle.mx_tasks.specs.declared.fault.TaskFault.TheVariants.{Store}

-- the empty list of commands leads to the World that has nothing but an operator's token
pub opening_reachable : (t : Token) → IsToken t → IsReachable (opening t)
opening_reachable t bytes = record { operator = t; bytes = bytes; commands = []; values = tt; leads = refl }

-- a fault of the desk isn't Store
no_fault_of_a_store : (d : DeskFault) → ¬ (Store ≡ fault_of d)
no_fault_of_a_store desk.Read is = absurd (cc)
no_fault_of_a_store desk.Write is = absurd (cc)
no_fault_of_a_store desk.Turns is = absurd (cc)

no_run_fault : ¬ IsRunFault Store
no_run_fault (inl is) = absurd (cc)
no_run_fault (inr is) = no_fault_of_a_store is.0 is.1

-- a run over books doesn't end with Store
pub never_store : (r : Result ℕ TaskFault) → IfErr r IsRunFault → ¬ (r ≡ Err Store)
never_store (Ok n) is store = absurd (cc)
never_store (Err e) is store = let same : e ≡ Store = cc in no_run_fault (subst IsRunFault same is)
