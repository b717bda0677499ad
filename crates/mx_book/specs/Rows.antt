-- The rows that every book keeps, and the World that they spell.
use Rattle.std.specs.Prelude.{◌≡◌, ℕ, List, Option, Some, None, cond, map}
use Rattle.std.specs.declared.cmp.Ordering.{Ordering}
use Rattle.std.specs.Ordering.{nat_cmp}
use Rattle.std.specs.FinMap as fmap
use Rattle.std.specs.FinSet.{FinSet}
use Rattle.mx_pay.specs.Names.{name_cmp}
use Rattle.mx_pay.specs.Log.{Entries}
use Rattle.mx_pay.specs.Tokens.{token_cmp}
use Rattle.mx_purse.specs.declared.message.Message.{Message}
use Rattle.mx_book.specs.declared.values.Caller.{Caller}
use Rattle.mx_book.specs.declared.values.MemberRow.{MemberRow}
use Rattle.mx_book.specs.declared.values.PurseRow.{PurseRow}
use Rattle.mx_book.specs.declared.values.Redemption.{Redemption}
use Rattle.mx_book.specs.declared.values.LineRow.{LineRow}
use Rattle.mx_book.specs.declared.values.Line.{Line}
use Rattle.mx_book.specs.Maps.{pick}
use Rattle.mx_book.specs.Under.{pair_cmp, under, remake}
use Rattle.mx_book.specs.World.{World, Row, Holding, Name, Token, result_cmp}

-- one map for each kind of row; a row of a purse has the purse's name as the first part of its key
pub record Rows : Type 0 where
  -- the operator's token
  pub operator : Token
  -- the tokens of the clerks and the holders
  pub tokens : fmap.FinMap token_cmp Caller
  pub members : fmap.FinMap name_cmp MemberRow
  -- each holder's member
  pub holders : fmap.FinMap name_cmp Name
  pub purses : fmap.FinMap name_cmp PurseRow
  -- messages by purse and number
  pub inbox : fmap.FinMap (pair_cmp name_cmp nat_cmp) Message
  -- lines by purse and number
  pub lines : fmap.FinMap (pair_cmp name_cmp nat_cmp) LineRow
  pub tray : FinSet result_cmp
  pub archive : FinSet result_cmp
  pub settled : Entries
  -- amounts by purse and reference
  pub loads : fmap.FinMap (pair_cmp name_cmp name_cmp) ℕ
  -- redemptions by purse and reference
  pub redemptions : fmap.FinMap (pair_cmp name_cmp name_cmp) Redemption

-- the amount of each redemption
abbrev pub amount_of : Redemption → Option ℕ
amount_of r = Some r.amount

-- a mark for each redemption that is collected
abbrev pub mark_of : Redemption → Option (Unit {0})
mark_of r = cond r.collected (Some tt) None

-- the line of a row under its number
abbrev pub line_at : ℕ × LineRow → Line
line_at e = record { number = e.0; kind = e.1.kind; amount = e.1.amount; balance = e.1.balance; note = e.1.note }

-- the row of a line
abbrev pub line_row : Line → LineRow
line_row l = record { kind = l.kind; amount = l.amount; balance = l.balance; note = l.note }

-- the lines of rows, by number
abbrev pub lines_from : fmap.FinMap nat_cmp LineRow → List Line
lines_from m = map line_at (fmap.entries m)

-- what is a holder's own of a purse, from the rows of that purse
abbrev pub holding_from : PurseRow → fmap.FinMap nat_cmp Message → fmap.FinMap nat_cmp LineRow → fmap.FinMap name_cmp Redemption → Holding
holding_from x inbox lines redemptions = record { purse = x.purse; inbox = inbox; next_message = x.next_message; lines = lines_from lines; redemptions = pick amount_of redemptions }

-- what the office keeps of a purse, from the rows of that purse
abbrev pub row_from : PurseRow → fmap.FinMap nat_cmp Message → fmap.FinMap nat_cmp LineRow → fmap.FinMap name_cmp ℕ → fmap.FinMap name_cmp Redemption → Row
row_from x inbox lines loads redemptions = record { holder = x.holder; holding = holding_from x inbox lines redemptions; loads = loads; collected = pick mark_of redemptions }

-- what the rows say of a purse
abbrev pub row_of : Rows → Name → PurseRow → Row
row_of r p x = row_from x (under name_cmp nat_cmp p r.inbox) (under name_cmp nat_cmp p r.lines) (under name_cmp name_cmp p r.loads) (under name_cmp name_cmp p r.redemptions)

-- the World of the rows
abbrev pub world_of : Rows → World
world_of r = record { operator = r.operator; tokens = r.tokens; members = r.members; holders = r.holders; rows = remake (row_of r) r.purses; tray = r.tray; archive = r.archive; settled = r.settled }

-- each row of this map is of a purse that is there
abbrev pub NoStray : {K V : Type 0} (R : K → K → Ordering) → fmap.FinMap name_cmp PurseRow → fmap.FinMap (pair_cmp name_cmp R) V → Type 0
NoStray {K} R purses m = (p : Name) (k : K) → fmap.get purses p ≡ None → fmap.get m (p, k) ≡ None

-- each row of a purse is of a purse that is there
pub record HasNoStray (purses : fmap.FinMap name_cmp PurseRow) (i : fmap.FinMap (pair_cmp name_cmp nat_cmp) Message) (l : fmap.FinMap (pair_cmp name_cmp nat_cmp) LineRow) (o : fmap.FinMap (pair_cmp name_cmp name_cmp) ℕ) (e : fmap.FinMap (pair_cmp name_cmp name_cmp) Redemption) : Type 0 where
  pub inbox : NoStray nat_cmp purses i
  pub lines : NoStray nat_cmp purses l
  pub loads : NoStray name_cmp purses o
  pub redemptions : NoStray name_cmp purses e

-- no row lies in the maps that the World doesn't show
abbrev pub IsProper : Rows → Type 0
IsProper r = HasNoStray r.purses r.inbox r.lines r.loads r.redemptions

-- the rows are exactly those of this World
pub record Spelled (r : Rows) (w : World) : Type 0 where
  pub world : w ≡ world_of r
  pub proper : IsProper r
