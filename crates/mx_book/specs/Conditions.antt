-- What holds of every World, by groups.
use Rattle.std.specs.Prelude.{◌≡◌, ℕ, ◌+◌, ◌<◌, ◌≤◌, Bool, List, [], ◌∷◌, length, Some, None, IsSome, IsTrue}
use Rattle.std.specs.List.{AllByRecursion}
use Rattle.std.specs.FinMap as fmap
use Rattle.mx_book.specs.Limits.{most_messages, most_purses}
use Rattle.mx_pay.specs.Limits.{most_amount, most_number}
use Rattle.mx_pay.specs.Names.{is_name_text}
use Rattle.mx_pay.specs.Tokens.{IsToken}
use Rattle.mx_pay.specs.Details.{Details, IsDetails}
use Rattle.mx_pay.specs.Log.{Entries, log_len, has_logged}
use Rattle.mx_purse.specs.State.{IsPurse}
use Rattle.mx_purse.specs.declared.message.Message.{Message}
use Rattle.mx_purse.specs.declared.message.Message.TheVariants.{Clear}
use Rattle.mx_purse.specs.Messages.{IsMessage}
use Rattle.mx_book.specs.declared.values.Caller.{Caller}
use Rattle.mx_book.specs.declared.values.Caller.TheVariants.{Operator, Clerk, Holder}
use Rattle.mx_book.specs.declared.values.Note.{Note}
use Rattle.mx_book.specs.declared.values.Note.TheVariants as note
use Rattle.mx_book.specs.declared.values.Line.{Line}
use Rattle.mx_book.specs.declared.values.MemberRow.{MemberRow}
use Rattle.mx_book.specs.World.{World, Row, Name, Token}
use Rattle.mx_book.specs.Reads.{purses_of}
use Rattle.mx_book.specs.Sums.{sum_values}

-- whose token one of the clerks' and holders' may be: that of a member or a holder that is there
abbrev pub IsOwner : World → Caller → Type 0
IsOwner w Operator = ⊥
IsOwner w (Clerk m) = IsSome (fmap.get w.members m)
IsOwner w (Holder h) = IsSome (fmap.get w.holders h)

-- some token is that caller's
abbrev pub HasToken : World → Caller → Type 0
HasToken w c = (t : Token) × (fmap.get w.tokens t ≡ Some c)

-- each token has its bytes; tokens differ: the operator's is no other's, and each member and each holder has one,
-- and no second one
pub record TokensHold (w : World) : Type 0 where
  pub operator_bytes : IsToken w.operator
  pub bytes : (t : Token) (c : Caller) → fmap.get w.tokens t ≡ Some c → IsToken t
  pub operator : fmap.get w.tokens w.operator ≡ None
  pub owners : (t : Token) (c : Caller) → fmap.get w.tokens t ≡ Some c → IsOwner w c
  pub clerks : (m : Name) → IsSome (fmap.get w.members m) → HasToken w (Clerk m)
  pub holders : (h : Name) → IsSome (fmap.get w.holders h) → HasToken w (Holder h)
  pub single : (s t : Token) (c : Caller) → fmap.get w.tokens s ≡ Some c → fmap.get w.tokens t ≡ Some c → s ≡ t

-- the sum of all grants
abbrev pub all_granted : World → ℕ
all_granted w = sum_values (λ (row : MemberRow). row.granted) w.members

-- members and holders have names, each holder's member is there, and grants and floats are within their limits
pub record MembersHold (w : World) : Type 0 where
  pub named : (m : Name) → IsSome (fmap.get w.members m) → IsTrue (is_name_text m)
  pub granted : all_granted w ≤ most_number
  pub floats : (m : Name) (row : MemberRow) → fmap.get w.members m ≡ Some row → row.float ≤ most_number
  pub holders : (h m : Name) → fmap.get w.holders h ≡ Some m → IsTrue (is_name_text h) × IsSome (fmap.get w.members m)

-- a purse is kept under its name, its holder is there, and it meets the conditions of a purse
pub record IsPurseRow (w : World) (p : Name) (r : Row) : Type 0 where
  pub text : IsTrue (is_name_text p)
  pub named : r.holding.purse.name ≡ p
  pub holder : IsSome (fmap.get w.holders r.holder)
  pub purse : IsPurse r.holding.purse

-- each purse is one, and no holder has more than 64
pub record PursesHold (w : World) : Type 0 where
  pub each : (p : Name) (r : Row) → fmap.get w.rows p ≡ Some r → IsPurseRow w p r
  pub few : (h : Name) → length (purses_of w h) ≤ most_purses

-- an inbox has at most 32 messages, each within its limits, with numbers below the next one, which has a limit too
pub record IsInbox (r : Row) : Type 0 where
  pub few : fmap.len r.holding.inbox ≤ most_messages
  pub below : (n : ℕ) → IsSome (fmap.get r.holding.inbox n) → n < r.holding.next_message
  pub next : r.holding.next_message ≤ most_number
  pub messages : (n : ℕ) (m : Message) → fmap.get r.holding.inbox n ≡ Some m → IsMessage m

-- each inbox is one
pub record InboxesHold (w : World) : Type 0 where
  pub each : (p : Name) (r : Row) → fmap.get w.rows p ≡ Some r → IsInbox r

-- what a line refers to is a name or details within their limits
abbrev pub IsNote : Note → Type 0
IsNote (note.Reference reference) = IsTrue (is_name_text reference)
IsNote (note.Details d) = IsDetails d

-- a line's amount, balance and note are within their limits
pub record IsLine (l : Line) : Type 0 where
  pub amount : l.amount ≤ most_amount
  pub balance : l.balance ≤ most_number
  pub note : IsNote l.note

-- lines are numbered from n, without gaps
abbrev pub AreNumbered : ℕ → List Line → Type 0
AreNumbered n [] = Unit {0}
AreNumbered n (l ∷ ls) = (l.number ≡ n) × AreNumbered (n + 1) ls

-- the lines of a purse are numbered from 1 to its line count, and each is within its limits
pub record AreLines (r : Row) : Type 0 where
  pub numbered : AreNumbered 1 r.holding.lines
  pub counted : length r.holding.lines ≡ r.holding.purse.lines
  pub each : AllByRecursion IsLine r.holding.lines

-- the lines of each purse are such
pub record LinesHold (w : World) : Type 0 where
  pub each : (p : Name) (r : Row) → fmap.get w.rows p ≡ Some r → AreLines r

-- a result in the tray is an entry of its purse's log
abbrev pub IsEntry : World → Name → Details → Type 0
IsEntry w p d = (r : Row) × (fmap.get w.rows p ≡ Some r) × (has_logged r.holding.purse.log d ≡ Bool.true)

-- what is archived is of a purse that is there, with details within their limits; what is in the tray is an entry
-- of its purse's log, and isn't archived
pub record ResultsHold (w : World) : Type 0 where
  pub archived : (p : Name) (d : Details) → fmap.contains_key w.archive (p, d) ≡ Bool.true → IsSome (fmap.get w.rows p)
  pub details : (p : Name) (d : Details) → fmap.contains_key w.archive (p, d) ≡ Bool.true → IsDetails d
  pub logged : (p : Name) (d : Details) → fmap.contains_key w.tray (p, d) ≡ Bool.true → IsEntry w p d
  pub apart : (p : Name) (d : Details) → fmap.contains_key w.tray (p, d) ≡ Bool.true → fmap.contains_key w.archive (p, d) ≡ Bool.false

-- settled details are within their limits
abbrev pub AreSettled : Entries → Type 0
AreSettled settled = (d : Details) → has_logged settled d ≡ Bool.true → IsDetails d

-- a set of details may be cleared from a purse's log: it isn't empty, and is archived for the purse in full
pub record MayClear (w : World) (p : Name) (set : Entries) : Type 0 where
  pub some : 0 < log_len set
  pub archived : (d : Details) → has_logged set d ≡ Bool.true → fmap.contains_key w.archive (p, d) ≡ Bool.true

-- a message may lie in the inbox of a purse: a clear only where its set may be cleared
abbrev pub MayLie : World → Name → Message → Type 0
MayLie w p (Clear set) = MayClear w p set
MayLie w p message = Unit {0}

-- each message in each inbox may lie there
pub record ClearsHold (w : World) : Type 0 where
  pub each : (p : Name) (r : Row) (n : ℕ) (m : Message) → fmap.get w.rows p ≡ Some r → fmap.get r.holding.inbox n ≡ Some m → MayLie w p m

-- references are names and amounts are within their limit, and what is collected is a redemption
pub record IsPaid (r : Row) : Type 0 where
  pub loads : (ref : Name) (amount : ℕ) → fmap.get r.loads ref ≡ Some amount → IsTrue (is_name_text ref) × (amount ≤ most_amount)
  pub redemptions : (ref : Name) (amount : ℕ) → fmap.get r.holding.redemptions ref ≡ Some amount → IsTrue (is_name_text ref) × (amount ≤ most_amount)
  pub collected : (ref : Name) → fmap.contains_key r.collected ref ≡ Bool.true → IsSome (fmap.get r.holding.redemptions ref)

-- the loads and redemptions of each purse are such
pub record PaymentsHold (w : World) : Type 0 where
  pub each : (p : Name) (r : Row) → fmap.get w.rows p ≡ Some r → IsPaid r

-- a World: each group of its conditions holds
pub record IsWorld (w : World) : Type 0 where
  pub tokens : TokensHold w
  pub members : MembersHold w
  pub purses : PursesHold w
  pub inboxes : InboxesHold w
  pub lines : LinesHold w
  pub results : ResultsHold w
  pub settled : AreSettled w.settled
  pub clears : ClearsHold w
  pub payments : PaymentsHold w
