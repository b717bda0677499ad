use Rattle.std.proofs.Common.{◌∙◌, ap}
use Rattle.mx_pay.specs.Log.{is_below}
use Rattle.mx_pay.proofs.LogLemmas.{below_is}
use Rattle.mx_pay.proofs.log.Log.is_below.Goals as goal

pub returns : goal.returns
returns c = c.all_before.ensures ∙ below_is c.self.inside.entries c.self.invariant c.args.details.now ∙ ap (λ s. is_below c.args.details.now s) c.self.view_is
