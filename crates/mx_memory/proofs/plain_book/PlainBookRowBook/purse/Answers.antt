use Rattle.mx_memory.specs.Shelves.{rows_of}
use Rattle.mx_book.proofs.SpellLemmas.{account_at}
use Rattle.mx_memory.proofs.plain_book.PlainBookRowBook.purse.Goals as goal

pub returns-clause-value : goal.returns-clause-value
returns-clause-value c w sure h = rw c.account.ensures (account_at (rows_of c.args.self.now.shelves) w c.args.name h)
