use Rattle.mx_tables.proofs.Common.{take, state, ◌<◌, office_schema}
use Rattle.mx_tables.specs.States.{IsAwake}
use Rattle.mx_audit.specs.Audited.{GoesOver}
use Rattle.mx_audit.proofs.OverLemmas.{IsOver}
use Rattle.mx_audit.proofs.tables.go_over_all.Given as goal

-- the tables so far are gone over, and behind the first the connection is open
abbrev pub invariant-loop-source : goal.invariant-loop-source
invariant-loop-source g l =
    IsOver office_schema g.S.Store l.initial.conn l.conn (GoesOver (state g.S.Store l.initial.conn).now.trees (take l.source-index l.sources) l.initial.audit l.audit)
    × (0 < l.source-index → IsAwake (state g.S.Store l.conn))
