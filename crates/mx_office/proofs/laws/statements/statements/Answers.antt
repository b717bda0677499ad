use Rattle.mx_office.proofs.StatementLemmas.{reachable_stated, seen_stated}
use Rattle.mx_office.proofs.WrittenLemmas.{local_told}
use Rattle.mx_office.proofs.laws.statements.statements.Goals as goal

pub returns : goal.returns
returns c = record { stated = reachable_stated; seen = λ t list h p a own. seen_stated t list h p a own; written = local_told }
