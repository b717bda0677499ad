use Rattle.std.proofs.Common.{◌∙◌}
use Rattle.mx_memory.specs.Shelves.{rows_of}
use Rattle.mx_book.proofs.SpellLemmas.{members_totals_at}
use Rattle.mx_memory.proofs.plain_book.PlainBookRowBook.members_totals.Goals as goal

pub returns-clause-value : goal.returns-clause-value
returns-clause-value c w sure h = c.in_ok-members_totals.ensures ∙ members_totals_at (rows_of c.args.self.now.shelves) w h
