use Rattle.mx_tables.proofs.Common.{refl, ◌+◌, ◌∙◌}
use Rattle.std.proofs.Common.{sym}
use Rattle.mx_tables.proofs.CacheLemmas.{changes_none, copied_is}
use Rattle.mx_tables.proofs.cache.count_more.Goals as goal

pub returns-in_default : goal.returns-in_default
returns-in_default c = changes_none _ _ c.args.purse (λ n. n + 1) (copied_is c.get.result _ c.get.ensures ∙ sym c.copied.ensures ∙ c.in_default.is) refl
