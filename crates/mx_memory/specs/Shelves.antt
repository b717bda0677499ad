-- The rows of a book in memory.
use Rattle.std.specs.Prelude.{ℕ, ◌≤◌, ◌+◌}
use Rattle.std.specs.Ordering.{nat_cmp}
use Rattle.mx_pay.specs.Names.{name_cmp}
use Rattle.mx_pay.specs.Details.{details_cmp}
use Rattle.mx_pay.specs.Tokens.{token_cmp}
use Rattle.mx_book.specs.Under.{pair_cmp}
use Rattle.mx_book.specs.World.{result_cmp}
use Rattle.mx_book.specs.Rows.{Rows}
use Rattle.mx_sorted.specs.Slots.{map_of}
use Rattle.mx_memory.specs.declared.shelves.tables.Shelves.{Shelves}

-- the map of each table
abbrev pub rows_of : Shelves → Rows
rows_of s = record {
  operator = s.operator;
  tokens = map_of token_cmp s.tokens;
  members = map_of name_cmp s.members;
  holders = map_of name_cmp s.holders;
  purses = map_of name_cmp s.purses;
  inbox = map_of (pair_cmp name_cmp nat_cmp) s.inbox;
  lines = map_of (pair_cmp name_cmp nat_cmp) s.lines;
  tray = map_of result_cmp s.tray;
  archive = map_of result_cmp s.archive;
  settled = map_of details_cmp s.settled;
  loads = map_of (pair_cmp name_cmp name_cmp) s.loads;
  redemptions = map_of (pair_cmp name_cmp name_cmp) s.redemptions;
}

-- room for n more rows in each table that edits add to, and for m more in the archive
pub record HasRoom (n m : ℕ) (s : Shelves) : Type 0 where
  pub tokens : n ≤ s.tokens.room
  pub members : n ≤ s.members.room
  pub holders : n ≤ s.holders.room
  pub purses : n ≤ s.purses.room
  pub inbox : n ≤ s.inbox.room
  pub lines : n ≤ s.lines.room
  pub tray : n ≤ s.tray.room
  pub archive : m ≤ s.archive.room
  pub settled : n ≤ s.settled.room
  pub loads : n ≤ s.loads.room
  pub redemptions : n ≤ s.redemptions.room
  pub due : n ≤ s.due.room

-- each of these tables has lost room for one row at most, and the archive for m
pub record SpendsOne (m : ℕ) (old new : Shelves) : Type 0 where
  pub tokens : old.tokens.room ≤ new.tokens.room + 1
  pub members : old.members.room ≤ new.members.room + 1
  pub holders : old.holders.room ≤ new.holders.room + 1
  pub purses : old.purses.room ≤ new.purses.room + 1
  pub inbox : old.inbox.room ≤ new.inbox.room + 1
  pub lines : old.lines.room ≤ new.lines.room + 1
  pub tray : old.tray.room ≤ new.tray.room + 1
  pub archive : old.archive.room ≤ new.archive.room + m
  pub settled : old.settled.room ≤ new.settled.room + 1
  pub loads : old.loads.room ≤ new.loads.room + 1
  pub redemptions : old.redemptions.room ≤ new.redemptions.room + 1
  pub due : old.due.room ≤ new.due.room + 1
