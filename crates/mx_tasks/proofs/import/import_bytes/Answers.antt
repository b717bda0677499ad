use Rattle.std.proofs.Common.{inl, inr}
use Rattle.std.proofs.lemmas.Result.{err_from_is_err_and}
use Rattle.mx_report.specs.Import.{tally_of}
use Rattle.mx_tasks.proofs.import.import_bytes.Goals as goal

-- it broke off
pub returns-in_err-summary-clause-imports : goal.returns-in_err-summary-clause-imports
returns-in_err-summary-clause-imports g c = λ still sure.
    let p = err_from_is_err_and c.from_residual.result c.from_residual.ensures.1 in
    rw (p.1) (inl (c.in_err-summary.field-0.0.done, c.in_err-summary.ensures.broken still sure))

-- the roll is imported, and there is no memory to sum it up
pub returns-in_err-lines-clause-imports : goal.returns-in_err-lines-clause-imports
returns-in_err-lines-clause-imports g c = λ still sure.
    let p = err_from_is_err_and c.from_residual-in_err-lines.result c.from_residual-in_err-lines.ensures.1 in
    rw (p.1) (inr (p.2, tally_of c.in_ok-summary.summary, c.in_ok-summary.ensures.done sure))

pub returns-clause-imports : goal.returns-clause-imports
returns-clause-imports g c = λ still sure. (c.in_ok-summary.summary, c.in_ok-summary.ensures.done sure, c.in_ok-lines.ensures)
