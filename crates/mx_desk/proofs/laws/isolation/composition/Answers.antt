use Rattle.mx_desk.proofs.LawfulLemmas.{lawful_then}
use Rattle.mx_desk.proofs.laws.isolation.composition.Goals as goal

pub returns : goal.returns
returns c = record { composes = lawful_then }
