use Rattle.std.proofs.Common.{rules}
use Rattle.mx_cells.proofs.entries.message_row.Goals as goal

pub returns-in_err-number-clause-there : goal.returns-in_err-number-clause-there
returns-in_err-number-clause-there c e is at =
    let some = c.message_in.ensures.there (e.0.1, e.1) is.1 (cc) in search rules
