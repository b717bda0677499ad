use Rattle.mx_tables.proofs.Common.{arith}
use Rattle.mx_tables.proofs.CallLemmas.{finds_to}
use Rattle.mx_tables.proofs.PurseLemmas.{next_found}
use Rattle.mx_tables.proofs.purses.next_number.Goals as goal

pub returns : goal.returns
returns g c = finds_to g.S.Store c.ok_or.result c.in_ok-ask_about_inside.ensures (λ r holds is. let it = next_found _ _ _ is c.in_ok-number_in.ensures.is in grind (arith, it, c.ok_or.ensures.value))
