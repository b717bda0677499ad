use Rattle.std.proofs.Common.{◌∙◌}
use Rattle.mx_memory.specs.Shelves.{rows_of}
use Rattle.mx_book.proofs.SpellLemmas.{message_at}
use Rattle.mx_memory.proofs.plain_book.PlainBookRowBook.message.Goals as goal

pub returns-in-Some-clause-value : goal.returns-in-Some-clause-value
returns-in-Some-clause-value c w sure h = c.in-Some.ensures ∙ message_at (rows_of c.args.self.now.shelves) w c.args.purse c.args.number h

pub returns-in-None-clause-value : goal.returns-in-None-clause-value
returns-in-None-clause-value c w sure h = c.in-None.ensures ∙ message_at (rows_of c.args.self.now.shelves) w c.args.purse c.args.number h
