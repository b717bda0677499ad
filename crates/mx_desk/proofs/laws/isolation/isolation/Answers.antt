use Rattle.mx_desk.proofs.LawfulLemmas.{lawful_alike}
use Rattle.mx_desk.proofs.laws.isolation.isolation.Goals as goal

pub returns : goal.returns
returns c = record { alike = lawful_alike }
