use Rattle.mx_tables.proofs.Common.{take, state, ◌<◌, AllByRecursion}
use Rattle.mx_tables.specs.Schema.{schema_of}
use Rattle.mx_tables.specs.States.{IsAwake}
use Rattle.mx_tables.specs.declared.making.Version.{Version}
use Rattle.mx_audit.specs.Copies.{FillsTables, IsAmong, IsLent}
use Rattle.mx_audit.proofs.OverLemmas.{IsOver}
use Rattle.mx_audit.proofs.copying.fill_tables.Given as goal

-- the tables so far are filled in the same savepoint, and behind the first the connection is open
abbrev pub invariant-loop-source : goal.invariant-loop-source
invariant-loop-source g l =
    ((version : Version) → AllByRecursion (IsAmong version) l.sources
    → IsOver (schema_of version) g.S.Store l.initial.conn l.conn (FillsTables g.T.Store (state g.S.Store l.initial.conn).now.trees (take l.source-index l.sources) l.initial.tx l.tx))
    × (0 < l.source-index → IsAwake (state g.S.Store l.conn))
    × IsLent g.T.Store l.initial.tx l.tx
