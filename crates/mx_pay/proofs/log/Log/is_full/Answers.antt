use Rattle.std.proofs.Common.{◌∙◌, ap}
use Rattle.std.specs.Prelude.{is_some}
use Rattle.mx_pay.proofs.LogLemmas.{full_is}
use Rattle.mx_pay.proofs.log.Log.is_full.Goals as goal

pub returns-clause-value : goal.returns-clause-value
returns-clause-value c = c.is_some.ensures ∙ ap is_some c.at.ensures.value ∙ full_is c.args.self.now
