use Rattle.mx_tables.proofs.Common.{◌∙◌}
use Rattle.std.proofs.Common.{sym}
use Rattle.mx_tables.proofs.CacheLemmas.{copied_is, found_so}
use Rattle.mx_tables.proofs.cache.Cache.purse.Goals as goal

pub returns : goal.returns
returns c r it = found_so c.copied.result (copied_is c.get.result _ c.get.ensures ∙ sym c.copied.ensures) (it.purses c.args.name.now)
