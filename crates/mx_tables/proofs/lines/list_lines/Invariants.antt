use Rattle.mx_tables.proofs.Common.{Bool, ◌≡◌, List, length, AllByRecursion, Row, state}
use Rattle.std.proofs.Common.{map}
use Rattle.sqlite.specs.Given.{HasGiven}
use Rattle.mx_book.specs.Conditions.{IsNote}
use Rattle.mx_tables.specs.States.{unsure, IsAwake, IsOurs, Stays}
use Rattle.mx_cells.specs.Cells.{first_five, line_shown}
use Rattle.mx_tables.proofs.LineLemmas.{select_lines, given}
use Rattle.mx_tables.proofs.lines.list_lines.Given as goal

-- the query has given the rows of the lines so far, the rows of the tables stay, and the connection is open
abbrev pub invariant-rows : goal.invariant-rows
invariant-rows g l =
    let old = state g.S.Store l.fn.conn in
    let now = state g.S.Store l.rows.conn.now in
    (l.rows.conn.ghost_name ≡ l.initial.rows.conn.ghost_name)
    × (length l.lines.items ≡ l.counter)
    × AllByRecursion (λ line. IsNote line.note) l.lines.items
    × ((begun : Bool) → IsOurs begun old → Stays begun old now)
    × IsAwake now
    × ((begun : Bool) → IsOurs begun old → unsure begun now ≡ 0 → (rows : List Row) × HasGiven g.S.Store select_lines (given l.purse l.fn.page.after) l.rows.conn.now rows × (map first_five rows ≡ map line_shown l.lines.items))
