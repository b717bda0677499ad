-- What the statements on lines answer from the typed rows.
use Rattle.std.specs.Prelude.{◌≡◌, ◌⊎◌, ℕ, ◌≤◌, ◌+◌, ◌&&◌, nat_lt, List, filter, Option, Some, option_map}
use Rattle.std.specs.FinMap as fmap
use Rattle.sqlite_value.specs.Order.{Row}
use Rattle.sqlite_trees.specs.declared.store.Store.{Ghosts}
use Rattle.sqlite.specs.Held.{Held}
use Rattle.sqlite.specs.Given.{Advances, FailsToAdvance}
use Rattle.sqlite.specs.declared.error.Error.{Error}
use Rattle.mx_pay.specs.Limits.{most_amount, most_number}
use Rattle.mx_pay.specs.Names.{is_name}
use Rattle.mx_book.specs.World.{Name}
use Rattle.mx_book.specs.Rows.{Rows}
use Rattle.mx_book.specs.Conditions.{IsNote}
use Rattle.mx_book.specs.declared.contract.StoreFault.{StoreFault}
use Rattle.mx_book.specs.declared.values.Line.{Line}
use Rattle.mx_book.specs.declared.values.LineRow.{LineRow}
use Rattle.mx_cells.specs.Cells.{first_five, line_shown}
use Rattle.mx_tables.specs.States.{fault_told}

-- the connection gives one row more of its query, which shows this line, or none where the query ends
abbrev pub GivesLine : {S : Type 0} → Ghosts S → Held S → Held S → Option Line → Type 0
GivesLine g old new line = (row : Option Row) × Advances g old new row × (option_map first_five row ≡ option_map line_shown line)

-- the row shows a line within its limits
abbrev pub ShowsLine : Row → Type 0
ShowsLine row = (l : Line) × (l.amount ≤ most_amount) × IsNote l.note × (first_five row ≡ line_shown l)

-- why the connection gives no line: its query failed, or the next row shows none
abbrev pub FailsToGive : {S : Type 0} → Ghosts S → Held S → Held S → StoreFault → Type 0
FailsToGive g old new f = ((e : Error) × FailsToAdvance g old new e × (f ≡ fault_told e)) ⊎ ((row : Row) × Advances g old new (Some row) × (ShowsLine row → ⊥))

-- the rows of the lines of a purse that are numbered above `after`
abbrev pub lines_above : Name → ℕ → Rows → List ((Name × ℕ) × LineRow)
lines_above p after r = filter (λ (e : (Name × ℕ) × LineRow). is_name p e.0.0 && nat_lt after e.0.1) (fmap.entries r.lines)

-- each line has a number of a line, and refers to something within its limits
abbrev pub AreLines : Rows → Type 0
AreLines r = (k : Name × ℕ) (x : LineRow) → fmap.get r.lines k ≡ Some x → (k.1 ≤ most_number + 2) × IsNote x.note
