use Rattle.std.proofs.Common.{◌&&◌, ◌∙◌, sym, ap}
use Rattle.mx_pay.specs.Log.{is_within}
use Rattle.mx_pay.proofs.SameLemmas.{same_log_iff}
use Rattle.mx_pay.proofs.log.Log.is_same.Goals as goal

pub returns-then-is_within-clause-same : goal.returns-then-is_within-clause-same
returns-then-is_within-clause-same c =
    let other = c.args.other.now in
    same_log_iff c.args.self.now other _
    (c.is_within-then-is_within.ensures ∙ ap (λ first. first && is_within other c.args.self.now) (sym c.if-is_within.true ∙ c.is_within.ensures))

pub returns-else-is_within-clause-same : goal.returns-else-is_within-clause-same
returns-else-is_within-clause-same c =
    let other = c.args.other.now in
    same_log_iff c.args.self.now other _
    (c.if-is_within.false ∙ ap (λ first. first && is_within other c.args.self.now) (sym c.if-is_within.false ∙ c.is_within.ensures))
