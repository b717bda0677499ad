use Rattle.mx_tables.proofs.Common.{◌∙◌}
use Rattle.std.proofs.Common.{ap}
use Rattle.std.specs.FinMap as fmap
use Rattle.mx_tables.proofs.CacheLemmas.{replaced_put, replaced_removed}
use Rattle.mx_tables.proofs.cache.replace.Goals as goal

pub returns-in_default : goal.returns-in_default
returns-in_default g c = replaced_removed _ _ c.args.name c.args.value c.remove.ensures.map

pub returns-then-is_err : goal.returns-then-is_err
returns-then-is_err g c = replaced_removed _ _ c.args.name c.args.value (c.remove-then-is_err.ensures.map ∙ ap (λ m. fmap.remove m c.args.name) c.reserve.ensures.map)

pub returns : goal.returns
returns g c = rw c.in-Some.is (replaced_put _ _ c.args.name c.in-Some.value (c.put.ensures.map ∙ ap (λ m. fmap.insert m c.args.name c.in-Some.value) c.reserve.ensures.map))
