use Rattle.mx_tables.proofs.CacheLemmas.{agrees_none}
use Rattle.mx_tables.proofs.cache.Cache.new.Goals as goal

pub returns : goal.returns
returns c r = agrees_none r _ tt tt c.new.ensures c.new-2.ensures c.new-3.ensures
