use Rattle.mx_tables.proofs.Common.{take}
use Rattle.mx_tables.specs.Cached.{index_of}
use Rattle.mx_tables.proofs.OwnerLemmas.{Lists}
use Rattle.mx_tables.proofs.owners.index_rows.Given as goal

-- the index tells what the rows so far show
abbrev pub invariant-loop-row : goal.invariant-loop-row
invariant-loop-row l = Lists (take l.row-index l.rows) (index_of l.held)
