use Rattle.mx_tables.proofs.Common.{None, Ok, arith}
use Rattle.mx_tables.proofs.CallLemmas.{finds_next, finds_to}
use Rattle.mx_tables.proofs.collecting.find_member_inside.Goals as goal

pub returns-in-None : goal.returns-in-None
returns-in-None g c = finds_to g.S.Store (Ok None) c.in_ok-ask_about_inside.ensures (λ r holds is. grind (arith, is, c.in_ok-name_in.ensures.is, c.in-None.is))

pub returns-in_ok-ask_about_inside-in-Some : goal.returns-in_ok-ask_about_inside-in-Some
returns-in_ok-ask_about_inside-in-Some g c = finds_to g.S.Store c.name_in-in-Some.result (finds_next g.S.Store c.in_ok-ask_about_inside.ensures c.in_ok-ask_about_inside-in-Some.ensures) (λ r holds both.
    grind (arith, both.0, both.1, c.in_ok-name_in.ensures.is, c.in-Some.is, c.name_in-in-Some.ensures.is))
