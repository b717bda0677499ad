use Rattle.mx_office.proofs.ConservedLemmas.{reachable_conserved}
use Rattle.mx_office.proofs.CapLemmas.{reachable_room}
use Rattle.mx_office.proofs.FullLemmas.{never_full}
use Rattle.mx_office.proofs.laws.conservation.conservation.Goals as goal

pub returns : goal.returns
returns c = record { conserved = reachable_conserved; room = reachable_room; never_full = never_full }
