use Rattle.mx_tables.proofs.CacheLemmas.{agrees_with}
use Rattle.mx_tables.proofs.cache.Cache.fill_message.Goals as goal

pub returns-then-is_ok : goal.returns-then-is_ok
returns-then-is_ok c r there it = agrees_with r c.make_room.new.self (c.make_room.ensures r it) (c.args.purse, c.args.number) c.put.new.self there (rw c.reserve.ensures.map at c.put.ensures.map)
