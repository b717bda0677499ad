use Rattle.mx_tables.proofs.Common.{arith}
use Rattle.mx_tables.proofs.CallLemmas.{asks_fault, asks_ok, reads_to}
use Rattle.mx_tables.proofs.due.read_amount.Goals as goal

pub returns-in-Some-clause-asks : goal.returns-in-Some-clause-asks
returns-in-Some-clause-asks g c = asks_ok g.S.Store (reads_to g.S.Store c.in_ok-amount.ensures.reads (λ r holds is. grind (arith, is, c.in-Some.is, c.get.ensures.value)))

pub returns-in-None-clause-asks : goal.returns-in-None-clause-asks
returns-in-None-clause-asks g c = asks_ok g.S.Store (reads_to g.S.Store c.in_ok-amount.ensures.reads (λ r holds is. grind (arith, is, c.in-None.is)))

pub returns-in_err-amount-clause-asks : goal.returns-in_err-amount-clause-asks
returns-in_err-amount-clause-asks g c = asks_fault g.S.Store c.in_err-amount.ensures c.from_residual.ensures.1
