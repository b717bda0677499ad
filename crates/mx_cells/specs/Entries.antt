-- The rows of each table, with the limits of what they hold. A query shows the value before its key.
use Rattle.std.specs.Prelude.{◌≡◌, ◌≤◌, ◌+◌, ◌++◌, ℕ, [], ◌∷◌, IsTrue, if◌then◌else◌}
use Rattle.sqlite_value.specs.declared.value.Value.TheVariants.{Text}
use Rattle.sqlite_value.specs.Order.{Row, column}
use Rattle.hex.specs.Hex.{encode_lower}
use Rattle.mx_pay.specs.Codes.{entry_text}
use Rattle.mx_pay.specs.Details.{Details, IsDetails}
use Rattle.mx_pay.specs.Limits.{most_amount, most_number}
use Rattle.mx_pay.specs.Names.{is_name_text}
use Rattle.mx_pay.specs.Tokens.{IsToken}
use Rattle.mx_purse.specs.Messages.{IsMessage}
use Rattle.mx_purse.specs.State.{IsPurse}
use Rattle.mx_purse.specs.Words.{message_word, message_details}
use Rattle.mx_purse.specs.declared.message.Message.{Message}
use Rattle.mx_book.specs.Conditions.{IsNote}
use Rattle.mx_book.specs.Words as words
use Rattle.mx_book.specs.World.{Name, Token}
use Rattle.mx_book.specs.declared.values.Caller.{Caller}
use Rattle.mx_book.specs.declared.values.Caller.TheVariants.{Operator, Clerk, Holder}
use Rattle.mx_book.specs.declared.values.LineRow.{LineRow}
use Rattle.mx_book.specs.declared.values.MemberRow.{MemberRow}
use Rattle.mx_book.specs.declared.values.PurseRow.{PurseRow}
use Rattle.mx_book.specs.declared.values.Redemption.{Redemption}
use Rattle.mx_cells.specs.Cells.{number, kind_text, owner_text, purse_shown}

-- these values stand in the columns of a row, from the n-th on
abbrev pub HasColumns : Row → ℕ → Row → Type 0
HasColumns r n [] = Unit {0}
HasColumns r n (v ∷ vs) = (column r n ≡ v) × HasColumns r (n + 1) vs

-- ---- tokens, members and holders

-- whose token it may be: a name is one
abbrev pub IsCaller : Caller → Type 0
IsCaller Operator = Unit {0}
IsCaller (Clerk m) = IsTrue (is_name_text m)
IsCaller (Holder h) = IsTrue (is_name_text h)

abbrev pub IsTokenRow : Token × Caller → Type 0
IsTokenRow e = IsToken e.0 × IsCaller e.1

abbrev pub token_kept : Token × Caller → Row
token_kept e = Text (kind_text e.1) ∷ Text (owner_text e.1) ∷ Text (encode_lower e.0) ∷ []

abbrev pub IsMemberRow : Name × MemberRow → Type 0
IsMemberRow e = IsTrue (is_name_text e.0) × (e.1.granted ≤ most_number) × (e.1.float ≤ most_number)

abbrev pub member_kept : Name × MemberRow → Row
member_kept e = number e.1.granted ∷ number e.1.float ∷ Text e.0 ∷ []

abbrev pub IsHolderRow : Name × Name → Type 0
IsHolderRow e = IsTrue (is_name_text e.0) × IsTrue (is_name_text e.1)

abbrev pub holder_kept : Name × Name → Row
holder_kept e = Text e.1 ∷ Text e.0 ∷ []

-- ---- purses, messages and lines

pub record IsPurseRow (e : Name × PurseRow) : Type 0 where
  pub named : e.1.purse.name ≡ e.0
  pub purse : IsPurse e.1.purse
  pub holder : IsTrue (is_name_text e.1.holder)
  pub next : e.1.next_message ≤ most_number

abbrev pub purse_kept : Name × PurseRow → Row
purse_kept e = purse_shown e.1 ++ Text e.0 ∷ []

abbrev pub IsMessageRow : (Name × ℕ) × Message → Type 0
IsMessageRow e = IsTrue (is_name_text e.0.0) × IsMessage e.1

abbrev pub message_kept : (Name × ℕ) × Message → Row
message_kept e = number e.0.1 ∷ Text (message_word e.1) ∷ Text (message_details e.1) ∷ Text e.0.0 ∷ []

pub record IsLineRow (e : (Name × ℕ) × LineRow) : Type 0 where
  pub purse : IsTrue (is_name_text e.0.0)
  pub amount : e.1.amount ≤ most_amount
  pub balance : e.1.balance ≤ most_number
  pub note : IsNote e.1.note

abbrev pub line_kept : (Name × ℕ) × LineRow → Row
line_kept e =
    number e.0.1 ∷ Text (words.kind_text e.1.kind) ∷ number e.1.amount ∷ number e.1.balance
    ∷ Text (words.note_text e.1.note) ∷ Text e.0.0 ∷ []

-- ---- results, loads and redemptions

abbrev pub IsResultRow : Name × Details → Type 0
IsResultRow e = IsTrue (is_name_text e.0) × IsDetails e.1

abbrev pub result_kept : Name × Details → Row
result_kept e = Text (entry_text e.1) ∷ Text e.0 ∷ []

abbrev pub IsLoadRow : (Name × Name) × ℕ → Type 0
IsLoadRow e = IsTrue (is_name_text e.0.0) × IsTrue (is_name_text e.0.1) × (e.1 ≤ most_amount)

abbrev pub load_kept : (Name × Name) × ℕ → Row
load_kept e = number e.1 ∷ Text e.0.1 ∷ Text e.0.0 ∷ []

abbrev pub IsRedemptionRow : (Name × Name) × Redemption → Type 0
IsRedemptionRow e = IsTrue (is_name_text e.0.0) × IsTrue (is_name_text e.0.1) × (e.1.amount ≤ most_amount)

abbrev pub redemption_kept : (Name × Name) × Redemption → Row
redemption_kept e = number e.1.amount ∷ number (if e.1.collected then 1 else 0) ∷ Text e.0.1 ∷ Text e.0.0 ∷ []
