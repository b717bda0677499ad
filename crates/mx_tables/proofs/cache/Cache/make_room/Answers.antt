use Rattle.mx_tables.proofs.CacheLemmas.{agrees_none}
use Rattle.mx_tables.proofs.cache.Cache.make_room.Goals as goal

pub returns : goal.returns
returns c r it = agrees_none r _ it.owners it.due c.new.ensures c.new-2.ensures c.new-3.ensures
