use Rattle.mx_tables.proofs.Common.{Option, Some, arith, refl, ◌+◌, ◌∙◌, ◌≡◌}
use Rattle.std.proofs.Common.{sym}
use Rattle.mx_tables.proofs.CacheLemmas.{changes_by, changes_none, copied_is}
use Rattle.mx_tables.proofs.cache.raise_next.Goals.{in-Some-checked_add, in-None}
use Rattle.mx_tables.proofs.cache.raise_next.Goals as goal

pub returns-in_default : goal.returns-in_default
returns-in_default c = changes_none _ _ c.args.purse (λ x. record x { next_message = x.next_message + 1 }) (copied_is c.get.result _ c.get.ensures ∙ sym c.copied.ensures ∙ c.in_default.is) refl

pub returns : goal.returns
returns c =
    changes_by _ _ c.args.purse (λ x. record x { next_message = x.next_message + 1 }) c.in-Some.row _ (copied_is c.get.result _ c.get.ensures ∙ sym c.copied.ensures ∙ c.in-Some.is)
    (λ v is. elim c.match-checked_add.branch [
      | in-Some-checked_add w ↦ grind (arith, w.raised-is, is, w.in-Some-checked_add.is, c.checked_add.ensures)
      | in-None w ↦ absurd (let no : Option.None ≡ Some v = sym w.raised-is ∙ is in cc)
    ]) c.replace.ensures
