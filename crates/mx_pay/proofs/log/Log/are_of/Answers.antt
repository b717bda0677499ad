use Rattle.std.proofs.Common.{◌∙◌, ap, subst}
use Rattle.mx_pay.specs.Log.{all_owned, IsLogValue}
use Rattle.mx_pay.proofs.LogLemmas.{owned_is}
use Rattle.mx_pay.proofs.SameLemmas.{log_value}
use Rattle.mx_pay.proofs.log.Log.are_of.Goals as goal

pub returns-clause-value : goal.returns-clause-value
returns-clause-value c = c.all_owned.ensures ∙ owned_is c.self.inside.entries c.self.invariant c.args.name.now c.args.next ∙ ap (all_owned c.args.name.now c.args.next) c.self.view_is

pub returns-clause-valid : goal.returns-clause-valid
returns-clause-valid c = subst IsLogValue c.self.view_is (log_value c.self.inside.entries c.self.invariant)
