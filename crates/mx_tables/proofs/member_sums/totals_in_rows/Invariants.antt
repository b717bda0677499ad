use Rattle.mx_tables.proofs.Common.{◌≡◌, take}
use Rattle.std.proofs.Common.{map}
use Rattle.mx_tables.specs.Counted.{totals_row}
use Rattle.mx_tables.proofs.member_sums.totals_in_rows.Given as goal

abbrev pub invariant-loop-row : goal.invariant-loop-row
invariant-loop-row l = l.totals.items ≡ map (totals_row l.sums) (take l.row-index l.rows)
