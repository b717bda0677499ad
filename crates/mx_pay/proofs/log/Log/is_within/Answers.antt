use Rattle.std.proofs.Common.{◌∙◌, ap}
use Rattle.mx_pay.specs.Log.{is_within}
use Rattle.mx_pay.proofs.LogLemmas.{within_is}
use Rattle.mx_pay.proofs.log.Log.is_within.Goals as goal

pub returns : goal.returns
returns c = c.all_in.ensures ∙ within_is c.self.inside.entries c.self.invariant c.args.other.now ∙ ap (λ s. is_within s c.args.other.now) c.self.view_is
