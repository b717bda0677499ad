use Rattle.mx_office.proofs.ArrivalLemmas.{arrives}
use Rattle.mx_office.proofs.PossibleLemmas.{possible}
use Rattle.mx_office.proofs.laws.arrival.arrival.Goals as goal

pub returns : goal.returns
returns c = record { arrives = arrives; possible = possible }
