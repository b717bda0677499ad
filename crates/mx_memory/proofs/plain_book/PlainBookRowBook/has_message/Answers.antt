use Rattle.std.proofs.Common.{◌∙◌, arith}
use Rattle.mx_memory.specs.Shelves.{rows_of}
use Rattle.mx_book.proofs.SpellLemmas.{message_at}
use Rattle.mx_memory.proofs.plain_book.PlainBookRowBook.has_message.Goals as goal

pub returns-clause-value : goal.returns-clause-value
returns-clause-value c w sure h = let found = c.get.ensures ∙ message_at (rows_of c.args.self.now.shelves) w c.args.purse c.args.number h in grind (arith, found)
