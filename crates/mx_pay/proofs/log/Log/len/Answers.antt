use Rattle.std.proofs.Common.{◌∙◌, ap, subst, sym, ℕ, ◌≤◌}
use Rattle.mx_pay.specs.Limits.{most_entries}
use Rattle.mx_pay.specs.Log.{log_len, IsLogValue}
use Rattle.mx_pay.proofs.LogLemmas.{len_is, room_is}
use Rattle.mx_pay.proofs.SameLemmas.{log_value}
use Rattle.mx_pay.proofs.log.Log.len.Goals as goal

pub returns-clause-value : goal.returns-clause-value
returns-clause-value c = c.count.ensures ∙ len_is c.self.inside.entries c.self.invariant ∙ ap log_len c.self.view_is

pub returns-clause-limit : goal.returns-clause-limit
returns-clause-limit c =
    subst (λ (n : ℕ). n ≤ most_entries) (sym (c.count.ensures ∙ len_is c.self.inside.entries c.self.invariant))
    (room_is c.self.inside.entries c.self.invariant)

pub returns-clause-valid : goal.returns-clause-valid
returns-clause-valid c = subst IsLogValue c.self.view_is (log_value c.self.inside.entries c.self.invariant)
