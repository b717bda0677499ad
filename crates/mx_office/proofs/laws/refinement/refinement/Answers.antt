use Rattle.mx_office.proofs.AccountedLemmas.{reachable_accounts}
use Rattle.mx_office.proofs.RefinementLemmas.{step_simulates, steps_refine, run_refines}
use Rattle.mx_office.proofs.laws.refinement.refinement.Goals as goal

pub returns : goal.returns
returns c = record { steps = step_simulates; goes_on = steps_refine; runs = run_refines; accounted = reachable_accounts }
