use Rattle.mx_tables.proofs.Common.{◌≡◌, take}
use Rattle.mx_pay.specs.Log.{log_len}
use Rattle.mx_tables.specs.Results.{Shows}
use Rattle.mx_tables.proofs.results.log_in.Given as goal

-- the log has what the rows so far show, each of them once
abbrev pub invariant-loop-row : goal.invariant-loop-row
invariant-loop-row l = Shows l.log (take l.row-index l.rows) × (log_len l.log ≡ l.row-index)
