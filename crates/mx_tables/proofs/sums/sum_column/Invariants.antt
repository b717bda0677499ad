use Rattle.mx_tables.proofs.Common.{◌≡◌, ◌≤◌, take, column}
use Rattle.std.specs.Prelude.{◌*◌, sum_by}
use Rattle.mx_pay.specs.Limits.{most_number}
use Rattle.mx_tables.specs.Counted.{number_of}
use Rattle.mx_tables.proofs.sums.sum_column.Given as goal

abbrev pub invariant-loop-row : goal.invariant-loop-row
invariant-loop-row l = (l.sum ≡ sum_by (λ row. number_of (column row l.at)) (take l.row-index l.rows)) × (l.sum ≤ l.row-index * most_number)
