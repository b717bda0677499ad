-- The rows of all tables, read one by one.
use Rattle.std.specs.Prelude.{ℕ, List, [], ◌∷◌}
use Rattle.std.specs.List.{flat_map}
use Rattle.sqlite_value.specs.Order.{Row}
use Rattle.mx_pay.specs.Details.{Details}
use Rattle.mx_purse.specs.declared.message.Message as purse
use Rattle.mx_book.specs.World.{Name}
use Rattle.mx_book.specs.World as book
use Rattle.mx_book.specs.declared.values.Caller.{Caller}
use Rattle.mx_book.specs.declared.values.LineRow.{LineRow}
use Rattle.mx_book.specs.declared.values.MemberRow.{MemberRow}
use Rattle.mx_book.specs.declared.values.PurseRow.{PurseRow}
use Rattle.mx_book.specs.declared.values.Redemption as values
use Rattle.mx_audit.specs.Fed.{Fed}
use Rattle.mx_audit.specs.Typed.{IsShown, IsTyped}
use Rattle.mx_audit.specs.declared.typed.Source.{Source}
use Rattle.mx_audit.specs.declared.typed.Source.TheVariants as source
use Rattle.mx_audit.specs.declared.typed.TypedRow.{TypedRow}
use Rattle.mx_audit.specs.declared.typed.TypedRow.TheVariants.{Member, Holder, Token, Purse, Message, Line, Laid, Archived, Load, Redemption, Settled}

-- these rows of the query of a table are read as these
abbrev pub AreRead : Source → List Row → List TypedRow → Type 0
AreRead from [] [] = Unit {0}
AreRead from [] (e ∷ es) = ⊥
AreRead from (row ∷ rows) [] = ⊥
AreRead from (row ∷ rows) (e ∷ es) = (IsTyped e × IsShown from row e) × AreRead from rows es

-- ---- what each is, where it is of that table

abbrev pub tokens_of : TypedRow → List (book.Token × Caller)
tokens_of (Token token caller) = (token, caller) ∷ []
tokens_of _ = []

abbrev pub members_of : TypedRow → List (Name × MemberRow)
members_of (Member name member) = (name, member) ∷ []
members_of _ = []

abbrev pub holders_of : TypedRow → List (Name × Name)
holders_of (Holder holder member) = (holder, member) ∷ []
holders_of _ = []

abbrev pub purses_of : TypedRow → List (Name × PurseRow)
purses_of (Purse name purse) = (name, purse) ∷ []
purses_of _ = []

abbrev pub messages_of : TypedRow → List ((Name × ℕ) × purse.Message)
messages_of (Message purse number message) = ((purse, number), message) ∷ []
messages_of _ = []

abbrev pub lines_of : TypedRow → List ((Name × ℕ) × LineRow)
lines_of (Line purse number line) = ((purse, number), line) ∷ []
lines_of _ = []

abbrev pub laid_of : TypedRow → List (Name × Details)
laid_of (Laid purse details) = (purse, details) ∷ []
laid_of _ = []

abbrev pub archived_of : TypedRow → List (Name × Details)
archived_of (Archived purse details) = (purse, details) ∷ []
archived_of _ = []

abbrev pub loads_of : TypedRow → List ((Name × Name) × ℕ)
loads_of (Load purse reference amount) = ((purse, reference), amount) ∷ []
loads_of _ = []

abbrev pub redemptions_of : TypedRow → List ((Name × Name) × values.Redemption)
redemptions_of (Redemption purse reference redemption) = ((purse, reference), redemption) ∷ []
redemptions_of _ = []

abbrev pub settled_of : TypedRow → List Details
settled_of (Settled details) = details ∷ []
settled_of _ = []

-- the rows of all tables, from what was read of each
abbrev pub fed_of : (Source → List TypedRow) → Fed
fed_of read = record {
  tokens = flat_map tokens_of (read source.Tokens);
  members = flat_map members_of (read source.Members);
  holders = flat_map holders_of (read source.Holders);
  purses = flat_map purses_of (read source.Purses);
  inbox = flat_map messages_of (read source.Inbox);
  lines = flat_map lines_of (read source.Lines);
  tray = flat_map laid_of (read source.Tray);
  archive = flat_map archived_of (read source.Archive);
  loads = flat_map loads_of (read source.Loads);
  redemptions = flat_map redemptions_of (read source.Redemptions);
  settled = flat_map settled_of (read source.Settled);
}
