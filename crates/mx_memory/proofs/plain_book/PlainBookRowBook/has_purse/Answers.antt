use Rattle.std.proofs.Common.{◌∙◌, arith}
use Rattle.mx_memory.specs.Shelves.{rows_of}
use Rattle.mx_memory.proofs.JoinLemmas.{bare_some}
use Rattle.mx_book.proofs.SpellLemmas.{there_at}
use Rattle.mx_memory.proofs.plain_book.PlainBookRowBook.has_purse.Goals as goal

pub returns-clause-value : goal.returns-clause-value
returns-clause-value c w sure h =
    let found = bare_some _ _ c.bare.result _ c.bare.ensures ∙ there_at (rows_of c.args.self.now.shelves) w c.args.name h in
    grind (arith, found)
