use Rattle.std.proofs.Common.{◌∙◌}
use Rattle.mx_memory.specs.Shelves.{rows_of}
use Rattle.mx_book.proofs.SpellLemmas.{purses_at}
use Rattle.mx_memory.proofs.plain_book.PlainBookRowBook.purses_of.Goals as goal

pub returns-clause-value : goal.returns-clause-value
returns-clause-value c w sure h = c.in_ok-purses_of.ensures ∙ purses_at (rows_of c.args.self.now.shelves) w c.args.holder h
