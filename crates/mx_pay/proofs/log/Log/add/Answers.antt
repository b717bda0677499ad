use Rattle.std.proofs.Common.{◌∙◌, ap, sym, subst}
use Rattle.std.specs.Prelude.{nat_le}
use Rattle.std.specs.Option.{some_prefix}
use Rattle.mx_pay.specs.Limits.{most_entries}
use Rattle.mx_pay.specs.Log.{log_len, has_logged, with_entry, IsLog, log_of}
use Rattle.mx_pay.proofs.LogLemmas.{is_put}
use Rattle.mx_pay.proofs.log.Log.add.Goals as goal

pub invariant_of-self : goal.invariant_of-self
invariant_of-self c = subst IsLog (sym c.insert_into.ensures)
    (is_put c.self.inside.entries c.self.invariant c.args.details c.value-limits.ensures.valid
    (ap (λ s. nat_le most_entries (log_len s)) c.self.view_is ∙ sym c.is_full.ensures.value ∙ c.if-is_full.false)
    (ap (λ s. has_logged s c.args.details) c.self.view_is ∙ sym c.has.ensures.value ∙ c.if-has.false)).fields

pub returns-clause-new : goal.returns-clause-new
returns-clause-new c =
    ap (λ es. log_of (some_prefix es)) c.insert_into.ensures
    ∙ (is_put c.self.inside.entries c.self.invariant c.args.details c.value-limits.ensures.valid
    (ap (λ s. nat_le most_entries (log_len s)) c.self.view_is ∙ sym c.is_full.ensures.value ∙ c.if-is_full.false)
    (ap (λ s. has_logged s c.args.details) c.self.view_is ∙ sym c.has.ensures.value ∙ c.if-has.false)).view
    ∙ ap (λ s. with_entry s c.args.details) c.self.view_is
