use Rattle.mx_office.proofs.SecurityLemmas.{creates_none, all_accounted, accepts_authentic, pays_covered}
use Rattle.mx_office.proofs.laws.conservation.security.Goals as goal

pub returns : goal.returns
returns c = record { no_value_created = creates_none; all_value_accounted = all_accounted; authentic = accepts_authentic; sufficient_funds = pays_covered }
