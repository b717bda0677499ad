use Rattle.mx_tables.proofs.Common.{◌≡◌, take}
use Rattle.std.proofs.Common.{map}
use Rattle.mx_tables.specs.Counted.{key_in}
use Rattle.mx_tables.proofs.due.read_keys.Given as goal

-- what the rows so far show
abbrev pub invariant-loop-row : goal.invariant-loop-row
invariant-loop-row l = l.keys.items ≡ map key_in (take l.row-index l.rows)
