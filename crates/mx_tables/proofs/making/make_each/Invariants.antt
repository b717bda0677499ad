use Rattle.std.proofs.Common.{drop, map}
use Rattle.sqlite_schema.specs.declared.schema.Schema.{Schema}
use Rattle.mx_tables.proofs.Common.{state, going}
use Rattle.mx_tables.specs.Made.{Blank, Makes}
use Rattle.mx_tables.specs.States.{Steps}
use Rattle.mx_tables.proofs.making.make_each.Given as goal

-- the texts that are left lead from the schema now to that in the end
abbrev pub invariant-loop-sql : goal.invariant-loop-sql
invariant-loop-sql g l =
    Steps g.S.Store l.initial.tx l.tx going (λ _. (before after : Schema) → Makes before (map (λ s. s.now) l.texts) after → Blank before (state g.S.Store l.initial.tx.conn.now)
    → (now : Schema) × Makes now (map (λ s. s.now) (drop l.sql-index l.texts)) after × Blank now (state g.S.Store l.tx.conn.now))
