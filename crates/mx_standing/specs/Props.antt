-- That a World meets its conditions has one proof at most.
use Rattle.std.specs.Prelude.{IfSome, ◌≡◌, ℕ, ◌+◌, List, [], ◌∷◌, Option, Bool, Some, None, IsTrue}
use Rattle.std.proofs.Common.{sym, ◌∙◌, ap, inl, inr}
use Rattle.std.proofs.Props.{props}
use Rattle.std.specs.FinMap as fmap
use Rattle.std.specs.Coded.{codes, Coded-set, coded_ℕ, coded_option, ×_prop, Unit-prop, le_prop}
use mathlib.Core.HLevel.{Σ_prop_path}
use Rattle.mx_pay.specs.Names.{is_name_text}
use Rattle.mx_pay.specs.Tokens.{IsToken}
use Rattle.mx_pay.specs.Details.{Details, IsDetails}
use Rattle.mx_pay.specs.Log.{IsLogValue, Entries, has_logged}
use Rattle.mx_purse.specs.State.{State, IsPurse, details_of, IsInStatus, IsOwnEntry}
use Rattle.mx_purse.specs.declared.status.Status.{Status}
use Rattle.mx_purse.specs.declared.status.Status.TheVariants.{EaFrom, EaTo, Epr, Epv, Epa}
use Rattle.mx_purse.specs.Messages.{IsMessage}
use Rattle.mx_purse.specs.declared.message.Message.{Message}
use Rattle.mx_purse.specs.declared.message.Message.TheVariants.{Req, Val, Ack, Clear}
use Rattle.mx_book.specs.World.{World, Row, Name, Token}
use Rattle.mx_book.specs.declared.values.Caller.{Caller}
use Rattle.mx_book.specs.declared.values.Caller.TheVariants.{Operator, Clerk, Holder}
use Rattle.mx_book.specs.declared.values.Note.{Note}
use Rattle.mx_book.specs.declared.values.Note.TheVariants as note
use Rattle.mx_book.specs.declared.values.Line.{Line}
use Rattle.mx_book.specs.contracts.values.Caller as caller
use Rattle.mx_book.specs.Conditions.{IsOwner, HasToken, TokensHold, MembersHold, PursesHold, InboxesHold, LinesHold, ResultsHold, AreSettled, ClearsHold, PaymentsHold, IsWorld, IsNote, IsLine, AreNumbered, AreLines, MayLie, MayClear, IsInbox, IsPurseRow, IsEntry}
use Rattle.mx_standing.specs.One.{coded_row}

caller_set : IsSet Caller
caller_set = Coded-set (caller.the_row).coded

row_set : IsSet Row
row_set = Coded-set coded_row

token_set : IsSet Token
token_set = Coded-set (hlevel codes)

name_set : IsSet Name
name_set = Coded-set (hlevel codes)

token_prop : (t : Token) → IsProp (IsToken t)
token_prop t = hlevel props

details_prop : (d : Details) → IsProp (IsDetails d)
details_prop d = hlevel props

log_prop : (l : Entries) → IsProp (IsLogValue l)
log_prop l = hlevel (props, details_prop)

members_prop : (w : World) → IsProp (MembersHold w)
members_prop w = hlevel (props)

payments_prop : (w : World) → IsProp (PaymentsHold w)
payments_prop w = hlevel (props)

settled_prop : (w : World) → IsProp (AreSettled w.settled)
settled_prop w = hlevel (props, details_prop)

message_prop : (m : Message) → IsProp (IsMessage m)
message_prop (Req d) = details_prop d
message_prop (Val d) = details_prop d
message_prop (Ack d) = details_prop d
message_prop (Clear set) = log_prop set

note_prop : (n : Note) → IsProp (IsNote n)
note_prop (note.Reference r) = Coded-set (hlevel codes) _ _
note_prop (note.Details d) = details_prop d

line_prop : (l : Line) → IsProp (IsLine l)
line_prop l = hlevel (props, note_prop)

numbered_prop : (n : ℕ) (ls : List Line) → IsProp (AreNumbered n ls)
numbered_prop n [] = Unit-prop
numbered_prop n (l ∷ ls) = ×_prop (Coded-set coded_ℕ _ _) (numbered_prop (n + 1) ls)

lines_prop : (r : Row) → IsProp (AreLines r)
lines_prop r = hlevel (props, line_prop, numbered_prop)

all_lines_prop : (w : World) → IsProp (LinesHold w)
all_lines_prop w = hlevel (props, lines_prop)

inbox_prop : (r : Row) → IsProp (IsInbox r)
inbox_prop r = hlevel (props, message_prop)

inboxes_prop : (w : World) → IsProp (InboxesHold w)
inboxes_prop w = hlevel (props, inbox_prop)

clear_prop : (w : World) (p : Name) (set : Entries) → IsProp (MayClear w p set)
clear_prop w p set = hlevel props

lie_prop : (w : World) (p : Name) (m : Message) → IsProp (MayLie w p m)
lie_prop w p (Clear set) = clear_prop w p set
lie_prop w p (Req d) = Unit-prop
lie_prop w p (Val d) = Unit-prop
lie_prop w p (Ack d) = Unit-prop

clears_prop : (w : World) → IsProp (ClearsHold w)
clears_prop w = hlevel (props, lie_prop)

same_some : {T : Type 0} (x y : T) → ◌≡◌ {A = Option T} (Some x) (Some y) → x ≡ y
same_some x y h = cc

IsRowAt : World → Name → Details → Row → Type 0
IsRowAt w p d z = (fmap.get w.rows p ≡ Some z) × (has_logged z.holding.purse.log d ≡ Bool.true)

row_at_prop : (w : World) (p : Name) (d : Details) (z : Row) → IsProp (IsRowAt w p d z)
unfolding IsRowAt
row_at_prop w p d z = ×_prop (Coded-set (coded_option coded_row) _ _) (Coded-set (hlevel codes) _ _)

at_one : (w : World) (p : Name) (d : Details) (r s : Row) → IsRowAt w p d r → IsRowAt w p d s → r ≡ s
unfolding IsRowAt
at_one w p d r s x y = same_some r s (sym x.0 ∙ y.0)

entry_one : (w : World) (p : Name) (d : Details) → IsProp ((z : Row) × IsRowAt w p d z)
entry_one w p d (r, x) (s, y) = Σ_prop_path (row_at_prop w p d) (at_one w p d r s x y)

nest : (w : World) (p : Name) (d : Details) → IsEntry w p d → (z : Row) × IsRowAt w p d z
unfolding IsRowAt
nest w p d x = (x.0, (x.1, x.2))

flat : (w : World) (p : Name) (d : Details) → ((z : Row) × IsRowAt w p d z) → IsEntry w p d
unfolding IsRowAt
flat w p d q = (q.0, q.1.0, q.1.1)

entry_prop : (w : World) (p : Name) (d : Details) → IsProp (IsEntry w p d)
unfolding IsRowAt nest flat
entry_prop w p d x y = ap (flat w p d) (entry_one w p d (nest w p d x) (nest w p d y))

results_prop : (w : World) → IsProp (ResultsHold w)
results_prop w = hlevel (props, entry_prop, details_prop)

status_prop : (p : State) (s : Status) → IsProp (IsInStatus p s)
status_prop p EaFrom = le_prop
status_prop p EaTo = le_prop
status_prop p (Epr d) = hlevel props
status_prop p (Epv d) = hlevel props
status_prop p (Epa d) = hlevel props

owner_prop : (w : World) (c : Caller) → IsProp (IsOwner w c)
owner_prop w Operator = λ x y. absurd x
owner_prop w (Clerk m) = Coded-set (hlevel codes) _ _
owner_prop w (Holder h) = Coded-set (hlevel codes) _ _

own_prop : (p : State) (d : Details) → IsDetails d → IsProp (IsOwnEntry p d)
own_prop p d valid (inl x) (inl y) = ap inl ((×_prop (Coded-set (hlevel codes) _ _) le_prop) x y)
own_prop p d valid (inl x) (inr y) = absurd (valid.apart (x.0 ∙ sym y.0))
own_prop p d valid (inr x) (inl y) = absurd (valid.apart (y.0 ∙ sym x.0))
own_prop p d valid (inr x) (inr y) = ap inr ((×_prop (Coded-set (hlevel codes) _ _) le_prop) x y)

status_details_prop : (s : Status) → IsProp (IfSome (details_of s) IsDetails)
status_details_prop s = hlevel (props, details_prop)

entries_prop : (p : State) → IsLogValue p.log → IsProp ((d : Details) → has_logged p.log d ≡ Bool.true → IsOwnEntry p d)
entries_prop p log f g = λ i d h. own_prop p d (log.entries d h) (f d h) (g d h) i

name_text_prop : (n : Name) → IsProp (IsTrue (is_name_text n))
name_text_prop n = hlevel props

purse_prop : (p : State) → IsProp (IsPurse p)
purse_prop p x y = λ i. record {
  name = name_text_prop p.name x.name y.name i;
  balance = le_prop x.balance y.balance i;
  next = le_prop x.next y.next i;
  status = status_prop p p.status x.status y.status i;
  details = status_details_prop p.status x.details y.details i;
  log = log_prop p.log x.log y.log i;
  entries = entries_prop p x.log x.entries y.entries i;
}

purse_row_prop : (w : World) (p : Name) (r : Row) → IsProp (IsPurseRow w p r)
purse_row_prop w p r = hlevel (props, purse_prop)

purses_prop : (w : World) → IsProp (PursesHold w)
purses_prop w = hlevel (props, purse_row_prop)

has_prop : (w : World) (c : Caller) → ((s t : Token) (c : Caller) → fmap.get w.tokens s ≡ Some c → fmap.get w.tokens t ≡ Some c → s ≡ t) → IsProp (HasToken w c)
has_prop w c single (s, a) (t, b) = Σ_prop_path {B = λ x. fmap.get w.tokens x ≡ Some c} (λ x. Coded-set (coded_option (caller.the_row).coded) _ _) (single s t c a b)

operator_prop : (w : World) → IsProp (fmap.get w.tokens w.operator ≡ None)
operator_prop w = Coded-set (coded_option (caller.the_row).coded) _ _

bytes_prop : (w : World) → IsProp ((t : Token) (c : Caller) → fmap.get w.tokens t ≡ Some c → IsToken t)
bytes_prop w = hlevel (props, token_prop)

owners_prop : (w : World) → IsProp ((t : Token) (c : Caller) → fmap.get w.tokens t ≡ Some c → IsOwner w c)
owners_prop w = hlevel (props, owner_prop)

single_prop : (w : World) → IsProp ((s t : Token) (c : Caller) → fmap.get w.tokens s ≡ Some c → fmap.get w.tokens t ≡ Some c → s ≡ t)
single_prop w = hlevel (props, token_set)

tokens_prop : (w : World) → IsProp (TokensHold w)
tokens_prop w x y = λ i. record {
  operator_bytes = token_prop w.operator x.operator_bytes y.operator_bytes i;
  bytes = bytes_prop w x.bytes y.bytes i;
  operator = operator_prop w x.operator y.operator i;
  owners = owners_prop w x.owners y.owners i;
  clerks = λ m h. has_prop w (Clerk m) x.single (x.clerks m h) (y.clerks m h) i;
  holders = λ m h. has_prop w (Holder m) x.single (x.holders m h) (y.holders m h) i;
  single = single_prop w x.single y.single i;
}

pub is_world_prop : (w : World) → IsProp (IsWorld w)
is_world_prop w = hlevel (tokens_prop, members_prop, purses_prop, inboxes_prop, all_lines_prop, results_prop, settled_prop, clears_prop, payments_prop)
