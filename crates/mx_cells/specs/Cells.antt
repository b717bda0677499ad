-- How the values of the books are kept in the cells of a row, and what a query shows of them.
use Rattle.std.specs.Prelude.{ℕ, List, [], ◌∷◌, codes, pos, if◌then◌else◌}
use Rattle.sqlite_value.specs.declared.value.Value.{Value}
use Rattle.sqlite_value.specs.declared.value.Value.TheVariants.{Int, Text}
use Rattle.sqlite_value.specs.Order.{Row, column}
use Rattle.hex.specs.Hex.{encode_lower}
use Rattle.mx_pay.specs.Codes.{entry_text, code}
use Rattle.mx_pay.specs.Details.{Details}
use Rattle.mx_purse.specs.State.{State}
use Rattle.mx_purse.specs.Words.{status_word, status_details, message_word, message_details}
use Rattle.mx_purse.specs.declared.message.Message.{Message}
use Rattle.mx_book.specs.World.{Name, Token}
use Rattle.mx_book.specs.Words as words
use Rattle.mx_book.specs.declared.values.Caller.{Caller}
use Rattle.mx_book.specs.declared.values.Caller.TheVariants.{Operator, Clerk, Holder}
use Rattle.mx_book.specs.declared.values.Line.{Line}
use Rattle.mx_book.specs.declared.values.LineRow.{LineRow}
use Rattle.mx_book.specs.declared.values.MemberRow.{MemberRow}
use Rattle.mx_book.specs.declared.values.PurseRow.{PurseRow}
use Rattle.mx_book.specs.declared.values.Redemption.{Redemption}

abbrev pub number : ℕ → Value
number n = Int (pos n)

abbrev pub kind_text : Caller → List ℕ
kind_text Operator = codes "operator"
kind_text (Clerk m) = codes "clerk"
kind_text (Holder h) = codes "holder"

abbrev pub owner_text : Caller → List ℕ
owner_text Operator = []
owner_text (Clerk m) = m
owner_text (Holder h) = h

abbrev pub token_cells : Token × Caller → Row
token_cells e = Text (encode_lower e.0) ∷ Text (kind_text e.1) ∷ Text (owner_text e.1) ∷ []

abbrev pub member_cells : Name × MemberRow → Row
member_cells e = Text e.0 ∷ number e.1.granted ∷ number e.1.float ∷ []

abbrev pub holder_cells : Name × Name → Row
holder_cells e = Text e.0 ∷ Text e.1 ∷ []

abbrev pub purse_cells : Name × PurseRow → Row
purse_cells e =
    Text e.0 ∷ Text e.1.holder ∷ number e.1.purse.balance ∷ number e.1.purse.next ∷ Text (status_word e.1.purse.status)
    ∷ Text (status_details e.1.purse.status) ∷ Text (code e.1.purse.log) ∷ number e.1.purse.lines ∷ number e.1.next_message ∷ []

abbrev pub message_cells : (Name × ℕ) × Message → Row
message_cells e = Text e.0.0 ∷ number e.0.1 ∷ Text (message_word e.1) ∷ Text (message_details e.1) ∷ []

abbrev pub line_cells : (Name × ℕ) × LineRow → Row
line_cells e = Text e.0.0 ∷ number e.0.1 ∷ Text (words.kind_text e.1.kind) ∷ number e.1.amount ∷ number e.1.balance ∷ Text (words.note_text e.1.note) ∷ []

abbrev pub result_cells : (Name × Details) × Unit {0} → Row
result_cells e = Text e.0.0 ∷ Text (entry_text e.0.1) ∷ []

abbrev pub load_cells : (Name × Name) × ℕ → Row
load_cells e = Text e.0.0 ∷ Text e.0.1 ∷ number e.1 ∷ []

abbrev pub redemption_cells : (Name × Name) × Redemption → Row
redemption_cells e = Text e.0.0 ∷ Text e.0.1 ∷ number e.1.amount ∷ number (if e.1.collected then 1 else 0) ∷ []

abbrev pub settled_cells : Details × Unit {0} → Row
settled_cells e = Text (entry_text e.0) ∷ []

-- ---- what a query shows

abbrev pub caller_shown : Caller → Row
caller_shown c = Text (kind_text c) ∷ Text (owner_text c) ∷ []

abbrev pub member_shown : MemberRow → Row
member_shown m = number m.granted ∷ number m.float ∷ []

-- the first columns of a row
abbrev pub first_two : Row → Row
first_two r = column r 0 ∷ column r 1 ∷ []

abbrev pub first_three : Row → Row
first_three r = column r 0 ∷ column r 1 ∷ column r 2 ∷ []

abbrev pub message_row : ℕ × Message → Row
message_row e = number e.0 ∷ Text (message_word e.1) ∷ Text (message_details e.1) ∷ []

-- what a row of a purse shows of the purse, but for its name
abbrev pub state_shown : State → Row
state_shown p = number p.balance ∷ number p.next ∷ Text (status_word p.status) ∷ Text (status_details p.status) ∷ Text (code p.log) ∷ number p.lines ∷ []

-- the columns of the purse in a row of a purse
abbrev pub state_columns : Row → Row
state_columns r = column r 1 ∷ column r 2 ∷ column r 3 ∷ column r 4 ∷ column r 5 ∷ column r 6 ∷ []

-- the columns of a row of a purse
abbrev pub purse_columns : Row → Row
purse_columns r = column r 0 ∷ column r 1 ∷ column r 2 ∷ column r 3 ∷ column r 4 ∷ column r 5 ∷ column r 6 ∷ column r 7 ∷ []

abbrev pub purse_shown : PurseRow → Row
purse_shown x = Text x.holder ∷ number x.purse.balance ∷ number x.purse.next ∷ Text (status_word x.purse.status) ∷ Text (status_details x.purse.status) ∷ Text (code x.purse.log) ∷ number x.purse.lines ∷ number x.next_message ∷ []

abbrev pub message_shown : Message → Row
message_shown m = Text (message_word m) ∷ Text (message_details m) ∷ []

abbrev pub line_shown : Line → Row
line_shown l = number l.number ∷ Text (words.kind_text l.kind) ∷ number l.amount ∷ number l.balance ∷ Text (words.note_text l.note) ∷ []

-- the first five columns of a row
abbrev pub first_five : Row → Row
first_five r = column r 0 ∷ column r 1 ∷ column r 2 ∷ column r 3 ∷ column r 4 ∷ []
