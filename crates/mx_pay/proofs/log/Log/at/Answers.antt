use Rattle.std.proofs.Common.{◌∙◌, ap, subst}
use Rattle.mx_pay.specs.Log.{entry_at, IsLogValue}
use Rattle.mx_pay.proofs.LogLemmas.{at_is}
use Rattle.mx_pay.proofs.SameLemmas.{log_value}
use Rattle.mx_pay.proofs.log.Log.at.Goals as goal

pub returns-clause-value : goal.returns-clause-value
returns-clause-value c = c.slot.ensures ∙ at_is c.self.inside.entries c.self.invariant c.args.place ∙ ap (λ s. entry_at s c.args.place) c.self.view_is

pub returns-clause-valid : goal.returns-clause-valid
returns-clause-valid c = subst IsLogValue c.self.view_is (log_value c.self.inside.entries c.self.invariant)
