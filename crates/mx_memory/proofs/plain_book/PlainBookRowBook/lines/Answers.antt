use Rattle.std.proofs.Common.{◌∙◌}
use Rattle.mx_memory.specs.Shelves.{rows_of}
use Rattle.mx_book.proofs.SpellLemmas.{lines_at}
use Rattle.mx_memory.proofs.plain_book.PlainBookRowBook.lines.Goals as goal

pub returns-clause-value : goal.returns-clause-value
returns-clause-value c w sure h = c.in_ok-lines_of.ensures ∙ lines_at (rows_of c.args.self.now.shelves) w c.args.purse c.args.after c.args.most h
