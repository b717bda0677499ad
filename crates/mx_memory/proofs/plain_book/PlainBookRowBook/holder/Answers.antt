use Rattle.std.proofs.Common.{◌∙◌}
use Rattle.mx_memory.specs.Shelves.{rows_of}
use Rattle.mx_book.proofs.SpellLemmas.{holder_at}
use Rattle.mx_memory.proofs.plain_book.PlainBookRowBook.holder.Goals as goal

pub returns-clause-value : goal.returns-clause-value
returns-clause-value c w sure h = c.holder.ensures ∙ holder_at (rows_of c.args.self.now.shelves) w c.args.name h
