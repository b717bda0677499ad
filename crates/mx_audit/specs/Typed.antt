-- The rows of all tables as one kind of value: from which table each is, what a query shows of it, and its limits.
use Rattle.std.specs.Prelude.{◌≡◌, ℕ, List, [], ◌∷◌, codes}
use Rattle.sqlite_value.specs.declared.value.Value.TheVariants.{Text}
use Rattle.sqlite_value.specs.Order.{Row}
use Rattle.mx_pay.specs.Codes.{entry_text}
use Rattle.mx_pay.specs.Details.{IsDetails}
use Rattle.mx_cells.specs.Cells.{number}
use Rattle.mx_cells.specs.Entries.{HasColumns, IsTokenRow, IsMemberRow, IsHolderRow, IsPurseRow, IsMessageRow, IsLineRow, IsResultRow, IsLoadRow, IsRedemptionRow, token_kept, member_kept, holder_kept, purse_kept, message_kept, line_kept, result_kept, load_kept, redemption_kept}
use Rattle.mx_audit.specs.declared.typed.Source.{Source}
use Rattle.mx_audit.specs.declared.typed.Source.TheVariants as source
use Rattle.mx_audit.specs.declared.typed.TypedRow.{TypedRow}
use Rattle.mx_audit.specs.declared.typed.TypedRow.TheVariants.{Version, Member, Holder, Token, Purse, Message, Line, Laid, Archived, Load, Redemption, Settled}

-- the query that shows the rows of a table, their key last
abbrev pub source_text : Source → List ℕ
source_text source.Meta = codes "SELECT version, id FROM meta"
source_text source.Members = codes "SELECT granted, unspent, name FROM member"
source_text source.Holders = codes "SELECT member, name FROM holder"
source_text source.Tokens = codes "SELECT kind, name, token FROM token ORDER BY rowid"
source_text source.Purses = codes "SELECT holder, balance, next_number, status, details, log, line_count, next_message, name FROM purse"
source_text source.Inbox = codes "SELECT number, kind, details, purse FROM inbox"
source_text source.Lines = codes "SELECT number, kind, amount, balance, note, purse FROM line"
source_text source.Tray = codes "SELECT details, purse FROM tray"
source_text source.Archive = codes "SELECT details, purse FROM archive"
source_text source.Loads = codes "SELECT amount, reference, purse FROM load"
source_text source.Redemptions = codes "SELECT amount, collected, reference, purse FROM redemption"
source_text source.Settled = codes "SELECT details FROM settled"

abbrev pub source_of : TypedRow → Source
source_of Version = source.Meta
source_of (Member name member) = source.Members
source_of (Holder holder member) = source.Holders
source_of (Token token caller) = source.Tokens
source_of (Purse name purse) = source.Purses
source_of (Message purse number message) = source.Inbox
source_of (Line purse number line) = source.Lines
source_of (Laid purse details) = source.Tray
source_of (Archived purse details) = source.Archive
source_of (Load purse reference amount) = source.Loads
source_of (Redemption purse reference redemption) = source.Redemptions
source_of (Settled details) = source.Settled

-- what the query shows of it
abbrev pub kept : TypedRow → Row
kept Version = number 2 ∷ number 1 ∷ []
kept (Member name member) = member_kept (name, member)
kept (Holder holder member) = holder_kept (holder, member)
kept (Token token caller) = token_kept (token, caller)
kept (Purse name purse) = purse_kept (name, purse)
kept (Message purse number message) = message_kept ((purse, number), message)
kept (Line purse number line) = line_kept ((purse, number), line)
kept (Laid purse details) = result_kept (purse, details)
kept (Archived purse details) = result_kept (purse, details)
kept (Load purse reference amount) = load_kept ((purse, reference), amount)
kept (Redemption purse reference redemption) = redemption_kept ((purse, reference), redemption)
kept (Settled details) = Text (entry_text details) ∷ []

-- each value is within its limits
abbrev pub IsTyped : TypedRow → Type 0
IsTyped Version = Unit {0}
IsTyped (Member name member) = IsMemberRow (name, member)
IsTyped (Holder holder member) = IsHolderRow (holder, member)
IsTyped (Token token caller) = IsTokenRow (token, caller)
IsTyped (Purse name purse) = IsPurseRow (name, purse)
IsTyped (Message purse number message) = IsMessageRow ((purse, number), message)
IsTyped (Line purse number line) = IsLineRow ((purse, number), line)
IsTyped (Laid purse details) = IsResultRow (purse, details)
IsTyped (Archived purse details) = IsResultRow (purse, details)
IsTyped (Load purse reference amount) = IsLoadRow ((purse, reference), amount)
IsTyped (Redemption purse reference redemption) = IsRedemptionRow ((purse, reference), redemption)
IsTyped (Settled details) = IsDetails details

-- the query of this table shows it so
pub record IsShown (from : Source) (row : Row) (e : TypedRow) : Type 0 where
  pub source : source_of e ≡ from
  pub columns : HasColumns row 0 (kept e)

-- these columns are of some row, whose values are within their limits
abbrev pub Reads : {E : Type 0} → (E → Type 0) → (E → Row) → Row → Type 0
Reads {E} IsOne shows row = (e : E) × IsOne e × HasColumns row 0 (shows e)

-- the columns of a row that the query of this table shows are such
abbrev pub IsSource : Source → Row → Type 0
IsSource source.Meta = Reads (λ _. Unit {0}) (λ (_ : Unit {0}). number 2 ∷ number 1 ∷ [])
IsSource source.Members = Reads IsMemberRow member_kept
IsSource source.Holders = Reads IsHolderRow holder_kept
IsSource source.Tokens = Reads IsTokenRow token_kept
IsSource source.Purses = Reads IsPurseRow purse_kept
IsSource source.Inbox = Reads IsMessageRow message_kept
IsSource source.Lines = Reads IsLineRow line_kept
IsSource source.Tray = Reads IsResultRow result_kept
IsSource source.Archive = Reads IsResultRow result_kept
IsSource source.Loads = Reads IsLoadRow load_kept
IsSource source.Redemptions = Reads IsRedemptionRow redemption_kept
IsSource source.Settled = Reads IsDetails (λ d. Text (entry_text d) ∷ [])
