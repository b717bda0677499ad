use Rattle.mx_office.proofs.StepLemmas.{reachable_world}
use Rattle.mx_office.proofs.ReachLemmas.{reachable_after}
use Rattle.mx_office.proofs.laws.reachable.reachable.Goals as goal

pub returns : goal.returns
returns c = record { world = reachable_world; goes_on = reachable_after }
