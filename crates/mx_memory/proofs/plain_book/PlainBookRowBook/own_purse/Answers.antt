use Rattle.mx_memory.specs.Shelves.{rows_of}
use Rattle.mx_book.proofs.SpellLemmas.{own_at}
use Rattle.mx_memory.proofs.plain_book.PlainBookRowBook.own_purse.Goals as goal

pub returns-clause-value : goal.returns-clause-value
returns-clause-value c w sure h = rw c.own_purse.ensures (own_at (rows_of c.args.self.now.shelves) w c.args.holder c.args.purse h)
