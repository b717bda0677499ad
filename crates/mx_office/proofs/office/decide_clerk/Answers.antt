use Rattle.std.proofs.Common.{refl, ap, is_some}
use Rattle.mx_office.proofs.DecisionLemmas.{of_command, tells_write}
use Rattle.mx_office.proofs.OwnLemmas.{present}
use Rattle.mx_office.proofs.office.decide_clerk.Goals as goal

pub returns-in-NewHolder : goal.returns-in-NewHolder
returns-in-NewHolder g c = of_command c.in-NewHolder.is (tells_write _ refl c.new_holder.ensures (λ w t so valid. so valid) (λ w t so none. absurd (cc none)))

pub returns-in-NewPurse : goal.returns-in-NewPurse
returns-in-NewPurse g c = of_command c.in-NewPurse.is (tells_write _ refl c.new_purse.ensures (λ w t so valid. so valid) (λ w t so none. absurd (cc none)))

pub returns-in-Load : goal.returns-in-Load
returns-in-Load g c = of_command c.in-Load.is (tells_write _ refl c.load.ensures (λ w t so valid. so.0 valid) (λ w t so none. so.1 (ap is_some (present _ none).1)))

pub returns-in-Collect : goal.returns-in-Collect
returns-in-Collect g c = of_command c.in-Collect.is (tells_write _ refl c.collect.ensures (λ w t so valid. so) (λ w t so none. absurd (cc none)))
