-- The rows of purses in two tables: what is kept of each purse but its log, and the logs that have details.
use Rattle.std.specs.Prelude.{◌≡◌, ℕ, List, map, Option, Some, None}
use Rattle.std.specs.FinMap as fmap
use Rattle.std.specs.FinSet.{FinSet}
use Rattle.mx_pay.specs.Names.{name_cmp}
use Rattle.mx_pay.specs.Log.{Entries, none_logged}
use Rattle.mx_purse.specs.Bare.{bare_of, with_log}
use Rattle.mx_purse.specs.State.{IsPurse}
use Rattle.mx_memory.specs.declared.purses.BareRow.{BareRow}
use Rattle.mx_book.specs.declared.values.Scope.{Scope}
use Rattle.mx_book.specs.declared.values.PurseRow.{PurseRow}
use Rattle.mx_book.specs.Index.{index_cmp, IsHeld}
use Rattle.mx_book.specs.RowTotals.{counted_balance}
use Rattle.mx_book.specs.World.{Name}

-- a log that is kept, and the empty one where none is
abbrev pub kept_log : Option Entries → Entries
kept_log None = none_logged
kept_log (Some log) = log

-- a row with its log
abbrev pub row_with : BareRow → Entries → PurseRow
row_with b log = record { holder = b.holder; purse = with_log b.purse log; next_message = b.next_message }

-- a row but its log
abbrev pub bare_row : PurseRow → BareRow
bare_row x = record { holder = x.holder; purse = bare_of x.purse; next_message = x.next_message }

-- and so under a name
abbrev pub bare_entry : Name × PurseRow → Name × BareRow
bare_entry e = (e.0, bare_row e.1)

-- rows with the logs that are kept
abbrev pub joined : fmap.FinMap name_cmp Entries → List (Name × BareRow) → List (Name × PurseRow)
joined logs = map (λ (e : Name × BareRow). (e.0, row_with e.1 (kept_log (fmap.get logs e.0))))

abbrev pub all_joined : fmap.FinMap name_cmp BareRow → fmap.FinMap name_cmp Entries → fmap.FinMap name_cmp PurseRow
all_joined rows logs = fmap.from_sorted (joined logs (fmap.entries rows))

-- the balance of a purse of that row, where it counts
abbrev pub bare_balance : fmap.FinMap name_cmp Name → Scope → BareRow → ℕ
bare_balance holders scope b = counted_balance holders scope (row_with b none_logged)

-- each purse is one, and the index tells the purses of each holder
pub record AreKept (purses : fmap.FinMap name_cmp PurseRow) (index : FinSet (index_cmp name_cmp)) : Type 0 where
  pub whole : (p : Name) (x : PurseRow) → fmap.get purses p ≡ Some x → IsPurse x.purse
  pub held : IsHeld purses index
