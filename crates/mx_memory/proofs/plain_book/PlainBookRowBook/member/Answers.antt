use Rattle.std.proofs.Common.{◌∙◌}
use Rattle.mx_memory.specs.Shelves.{rows_of}
use Rattle.mx_book.proofs.SpellLemmas.{member_at}
use Rattle.mx_memory.proofs.plain_book.PlainBookRowBook.member.Goals as goal

pub returns-clause-value : goal.returns-clause-value
returns-clause-value c w sure h = c.copied.ensures ∙ c.get.ensures ∙ member_at (rows_of c.args.self.now.shelves) w c.args.name h
