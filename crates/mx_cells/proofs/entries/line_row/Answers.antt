use Rattle.std.proofs.Common.{rules}
use Rattle.mx_book.specs.Rows.{line_at}
use Rattle.mx_cells.proofs.entries.line_row.Goals as goal

pub returns-in_err-line-clause-there : goal.returns-in_err-line-clause-there
returns-in_err-line-clause-there c e is at =
    let some = c.line_in.ensures.there (line_at (e.0.1, e.1)) is.amount (cc) in search rules
