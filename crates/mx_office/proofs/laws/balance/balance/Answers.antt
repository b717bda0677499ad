use Rattle.mx_office.proofs.BalanceCommandLemmas.{reachable_balanced}
use Rattle.mx_office.proofs.TogetherLemmas.{reachable_together}
use Rattle.mx_office.proofs.laws.balance.balance.Goals as goal

pub returns : goal.returns
returns c = record { reachable = reachable_balanced; together = reachable_together }
