use Rattle.mx_tables.proofs.Common.{◌≡◌, take, state, office_schema, going}
use Rattle.mx_tables.specs.Results.{Archives}
use Rattle.mx_tables.specs.States.{Steps}
use Rattle.mx_tables.proofs.results.archive_rows.Given as goal

-- the archive has what the rows so far show
abbrev pub invariant-loop-row : goal.invariant-loop-row
invariant-loop-row g l =
    Steps g.S.Store l.initial.tx l.tx going (λ _. (state g.S.Store l.initial.tx.conn.now).now.schema ≡ office_schema
    → Archives l.purse (take l.row-index l.rows) (state g.S.Store l.initial.tx.conn.now) (state g.S.Store l.tx.conn.now))
