use Rattle.std.proofs.Common.{◌∙◌}
use Rattle.mx_memory.specs.Shelves.{rows_of}
use Rattle.mx_book.proofs.SpellLemmas.{purse_names_at}
use Rattle.mx_memory.proofs.plain_book.PlainBookRowBook.purses.Goals as goal

pub returns-clause-value : goal.returns-clause-value
returns-clause-value c w sure h = c.in_ok-purse_names.ensures ∙ purse_names_at (rows_of c.args.self.now.shelves) w h
