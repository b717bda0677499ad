use Rattle.mx_tables.proofs.Common.{refl, ◌∙◌}
use Rattle.std.proofs.Common.{sym}
use Rattle.mx_tables.proofs.CacheLemmas.{changes_by, changes_none, copied_is}
use Rattle.mx_tables.proofs.cache.set_purse.Goals as goal

pub returns-in_default : goal.returns-in_default
returns-in_default c =
    changes_none _ _ c.args.purse.now.name (λ x. record x { purse = c.args.purse.now }) (rw c.name-name.ensures.value at (copied_is c.get.result _ c.get.ensures ∙ sym c.copied.ensures ∙ c.in_default.is)) refl

pub returns : goal.returns
returns c =
    changes_by _ _ c.args.purse.now.name (λ x. record x { purse = c.args.purse.now }) c.in-Some.row _ (rw c.name-name.ensures.value at (copied_is c.get.result _ c.get.ensures ∙ sym c.copied.ensures ∙ c.in-Some.is))
    (λ v is. cc) (rw c.name-name.ensures.value at c.replace.ensures)
