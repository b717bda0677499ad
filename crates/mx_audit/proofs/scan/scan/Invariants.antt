use Rattle.std.proofs.Common.{Bool, ◌≡◌, List}
use Rattle.sqlite_value.specs.Order.{Row}
use Rattle.sqlite_schema.specs.declared.schema.Schema.{Schema}
use Rattle.sqlite.specs.Given.{HasGiven, IsPlain}
use Rattle.sqlite.specs.Listing.{understood}
use Rattle.sqlite.specs.Held.{state}
use Rattle.sqlite.specs.State.{IsUnchanged}
use Rattle.sqlite.specs.Values.{bound}
use Rattle.mx_tables.specs.States.{unsure, IsAt, StaysAt}
use Rattle.mx_audit.specs.Scans.{TakesAll}
use Rattle.mx_audit.proofs.scan.scan.Given as goal

-- the rows that the query has given were taken, and the rows of the tables and the savepoint stay
abbrev pub invariant-loop : goal.invariant-loop
invariant-loop g l =
    let old = state g.S.Store l.fn.conn in
    let now = state g.S.Store l.rows.conn.now in
    (l.rows.conn.ghost_name ≡ l.initial.rows.conn.ghost_name)
    × ((begun : Bool) (of : Schema) → IsPlain (understood of l.fn.sql) → IsAt begun of old → StaysAt begun of old now)
    × ((begun : Bool) (of : Schema) → IsPlain (understood of l.fn.sql) → IsAt begun of old → unsure begun now ≡ 0 → (rows : List Row) × HasGiven g.S.Store l.fn.sql (bound l.fn.params) l.rows.conn.now rows × IsUnchanged old now × TakesAll g.T.Takes.takes l.fn.taker rows l.taker)
    × (g.T.Takes.lends l.taker ≡ g.T.Takes.lends l.fn.taker)
