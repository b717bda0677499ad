use Rattle.std.proofs.Common.{◌∙◌}
use Rattle.mx_memory.specs.Shelves.{rows_of}
use Rattle.mx_book.proofs.SpellLemmas.{inbox_at}
use Rattle.mx_memory.proofs.plain_book.PlainBookRowBook.inbox.Goals as goal

pub returns-clause-value : goal.returns-clause-value
returns-clause-value c w sure h = c.in_ok-inbox_of.ensures ∙ inbox_at (rows_of c.args.self.now.shelves) w c.args.purse h
