use Rattle.mx_tables.proofs.Common.{refl}
use Rattle.mx_tables.proofs.CallLemmas.{steps_none, steps_to}
use Rattle.mx_tables.proofs.edits.number_for.Goals as goal

pub returns-in-Some : goal.returns-in-Some
returns-in-Some g c = steps_none g.S.Store _ _ (λ has. record { same = refl; value = λ r holds. tt })

pub returns-in-None : goal.returns-in-None
returns-in-None g c = steps_to g.S.Store c.next_number.ensures (λ x seen has. record { same = (seen has).same; value = λ r holds. tt })
