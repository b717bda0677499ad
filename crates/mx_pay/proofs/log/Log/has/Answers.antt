use Rattle.std.proofs.Common.{◌∙◌, ap, subst}
use Rattle.mx_pay.specs.Log.{has_logged, IsLogValue}
use Rattle.mx_pay.proofs.LogLemmas.{has_is}
use Rattle.mx_pay.proofs.SameLemmas.{log_value}
use Rattle.mx_pay.proofs.log.Log.has.Goals as goal

pub returns-clause-value : goal.returns-clause-value
returns-clause-value c = c.holds.ensures ∙ has_is c.self.inside.entries c.self.invariant c.args.details.now ∙ ap (λ s. has_logged s c.args.details.now) c.self.view_is

pub returns-clause-valid : goal.returns-clause-valid
returns-clause-valid c = subst IsLogValue c.self.view_is (log_value c.self.inside.entries c.self.invariant)
