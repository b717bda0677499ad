-- What holds of the rows of a book, table by table, exactly where they spell a World.
use Rattle.std.specs.Prelude.{◌≡◌, ℕ, ◌<◌, ◌≤◌, Bool, length, Some, None, IsSome, IsTrue}
use Rattle.std.specs.Ordering.{nat_cmp}
use Rattle.std.specs.FinMap as fmap
use Rattle.mx_pay.specs.Limits.{most_amount, most_number}
use Rattle.mx_pay.specs.Names.{name_cmp, is_name_text}
use Rattle.mx_pay.specs.Tokens.{IsToken}
use Rattle.mx_pay.specs.Details.{Details, IsDetails}
use Rattle.mx_pay.specs.Log.{Entries, log_len, has_logged}
use Rattle.mx_purse.specs.State.{IsPurse}
use Rattle.mx_purse.specs.declared.message.Message.{Message}
use Rattle.mx_purse.specs.declared.message.Message.TheVariants.{Clear}
use Rattle.mx_purse.specs.Messages.{IsMessage}
use Rattle.mx_book.specs.declared.values.Caller.{Caller}
use Rattle.mx_book.specs.declared.values.Caller.TheVariants.{Operator, Clerk, Holder}
use Rattle.mx_book.specs.declared.values.MemberRow.{MemberRow}
use Rattle.mx_book.specs.declared.values.PurseRow.{PurseRow}
use Rattle.mx_book.specs.declared.values.LineRow.{LineRow}
use Rattle.mx_book.specs.declared.values.Redemption.{Redemption}
use Rattle.mx_book.specs.Limits.{most_messages, most_purses}
use Rattle.mx_book.specs.World.{Name, Token}
use Rattle.mx_book.specs.Sums.{sum_values}
use Rattle.mx_book.specs.Under.{pair_cmp}
use Rattle.mx_book.specs.Conditions.{IsLine, AreSettled}
use Rattle.mx_book.specs.Rows.{Rows, IsProper, line_at}
use Rattle.mx_book.specs.RowReads.{of_name, row_purses_of}

-- ---- tokens

-- whose token one of the clerks' and holders' may be: that of a member or a holder that is there
abbrev pub IsOwnerRow : Rows → Caller → Type 0
IsOwnerRow r Operator = ⊥
IsOwnerRow r (Clerk m) = IsSome (fmap.get r.members m)
IsOwnerRow r (Holder h) = IsSome (fmap.get r.holders h)

-- some token is that caller's
abbrev pub HasTokenRow : Rows → Caller → Type 0
HasTokenRow r c = (t : Token) × (fmap.get r.tokens t ≡ Some c)

-- each token has its bytes; tokens differ: the operator's is no other's, and each member and each holder has one,
-- and no second one
pub record SoundTokens (r : Rows) : Type 0 where
  pub operator_bytes : IsToken r.operator
  pub bytes : (t : Token) (c : Caller) → fmap.get r.tokens t ≡ Some c → IsToken t
  pub operator : fmap.get r.tokens r.operator ≡ None
  pub owners : (t : Token) (c : Caller) → fmap.get r.tokens t ≡ Some c → IsOwnerRow r c
  pub clerks : (m : Name) → IsSome (fmap.get r.members m) → HasTokenRow r (Clerk m)
  pub holders : (h : Name) → IsSome (fmap.get r.holders h) → HasTokenRow r (Holder h)
  pub single : (s t : Token) (c : Caller) → fmap.get r.tokens s ≡ Some c → fmap.get r.tokens t ≡ Some c → s ≡ t

-- ---- members and holders

-- members and holders have names, each holder's member is there, and grants and floats are within their limits
pub record SoundMembers (r : Rows) : Type 0 where
  pub named : (m : Name) → IsSome (fmap.get r.members m) → IsTrue (is_name_text m)
  pub granted : sum_values (λ (row : MemberRow). row.granted) r.members ≤ most_number
  pub floats : (m : Name) (row : MemberRow) → fmap.get r.members m ≡ Some row → row.float ≤ most_number
  pub holders : (h m : Name) → fmap.get r.holders h ≡ Some m → IsTrue (is_name_text h) × IsSome (fmap.get r.members m)

-- ---- purses

-- a purse is there, with this row
abbrev pub HasPurse : Rows → Name → PurseRow → Type 0
HasPurse r p x = fmap.get r.purses p ≡ Some x

-- each purse is kept under its name, its holder is there, it meets the conditions of a purse, and its next message
-- has a number within its limit; and no holder has more than 64 purses
pub record SoundPurses (r : Rows) : Type 0 where
  pub text : (p : Name) (x : PurseRow) → HasPurse r p x → IsTrue (is_name_text p)
  pub named : (p : Name) (x : PurseRow) → HasPurse r p x → x.purse.name ≡ p
  pub holder : (p : Name) (x : PurseRow) → HasPurse r p x → IsSome (fmap.get r.holders x.holder)
  pub purse : (p : Name) (x : PurseRow) → HasPurse r p x → IsPurse x.purse
  pub next : (p : Name) (x : PurseRow) → HasPurse r p x → x.next_message ≤ most_number
  pub few : (h : Name) → length (row_purses_of r h) ≤ most_purses

-- ---- messages and lines

-- a purse's message or line is there under this number
abbrev pub HasMessage : Rows → Name → ℕ → Message → Type 0
HasMessage r p n m = fmap.get r.inbox (p, n) ≡ Some m

abbrev pub HasLine : Rows → Name → ℕ → LineRow → Type 0
HasLine r p n l = fmap.get r.lines (p, n) ≡ Some l

-- how many of these rows are a purse's
abbrev pub count_of : {V : Type 0} → Name → fmap.FinMap (pair_cmp name_cmp nat_cmp) V → ℕ
count_of p m = length (of_name p (fmap.entries m))

-- a purse has at most 32 messages, each within its limits, with numbers below its next one
pub record SoundInboxes (r : Rows) : Type 0 where
  pub few : (p : Name) (x : PurseRow) → HasPurse r p x → count_of p r.inbox ≤ most_messages
  pub below : (p : Name) (x : PurseRow) (n : ℕ) (m : Message) → HasPurse r p x → HasMessage r p n m → n < x.next_message
  pub messages : (p : Name) (n : ℕ) (m : Message) → HasMessage r p n m → IsMessage m

-- a purse has as many lines as its line count says, with numbers from 1 to that count, and each is within its limits
pub record SoundLines (r : Rows) : Type 0 where
  pub counted : (p : Name) (x : PurseRow) → HasPurse r p x → count_of p r.lines ≡ x.purse.lines
  pub least : (p : Name) (n : ℕ) (l : LineRow) → HasLine r p n l → 1 ≤ n
  pub most : (p : Name) (x : PurseRow) (n : ℕ) (l : LineRow) → HasPurse r p x → HasLine r p n l → n ≤ x.purse.lines
  pub each : (p : Name) (n : ℕ) (l : LineRow) → HasLine r p n l → IsLine (line_at (n, l))

-- ---- results

-- details are archived for a purse, or are in its tray
abbrev pub IsArchived : Rows → Name → Details → Type 0
IsArchived r p d = fmap.contains_key r.archive (p, d) ≡ Bool.true

abbrev pub IsLaid : Rows → Name → Details → Type 0
IsLaid r p d = fmap.contains_key r.tray (p, d) ≡ Bool.true

-- details are an entry of a purse's log
abbrev pub IsEntryRow : Rows → Name → Details → Type 0
IsEntryRow r p d = (x : PurseRow) × HasPurse r p x × (has_logged x.purse.log d ≡ Bool.true)

-- what is archived is of a purse that is there, with details within their limits; what is in the tray is an entry
-- of its purse's log, and isn't archived
pub record SoundResults (r : Rows) : Type 0 where
  pub archived : (p : Name) (d : Details) → IsArchived r p d → IsSome (fmap.get r.purses p)
  pub details : (p : Name) (d : Details) → IsArchived r p d → IsDetails d
  pub logged : (p : Name) (d : Details) → IsLaid r p d → IsEntryRow r p d
  pub apart : (p : Name) (d : Details) → IsLaid r p d → fmap.contains_key r.archive (p, d) ≡ Bool.false

-- the set of a clear in an inbox isn't empty, and is archived for the purse in full
pub record SoundClears (r : Rows) : Type 0 where
  pub some : (p : Name) (n : ℕ) (set : Entries) → HasMessage r p n (Clear set) → 0 < log_len set
  pub archived : (p : Name) (n : ℕ) (set : Entries) (d : Details) → HasMessage r p n (Clear set) → has_logged set d ≡ Bool.true
      → IsArchived r p d

-- ---- loads and redemptions

-- a reference is a name, and an amount is within its limit
abbrev pub IsPayment : Name → ℕ → Type 0
IsPayment reference amount = IsTrue (is_name_text reference) × (amount ≤ most_amount)

-- those of each load and each redemption are such
pub record SoundPayments (r : Rows) : Type 0 where
  pub loads : (p reference : Name) (amount : ℕ) → fmap.get r.loads (p, reference) ≡ Some amount → IsPayment reference amount
  pub redemptions : (p reference : Name) (x : Redemption) → fmap.get r.redemptions (p, reference) ≡ Some x → IsPayment reference x.amount

-- ---- all

-- each group holds, and each row of a purse is of a purse that is there
pub record IsSound (r : Rows) : Type 0 where
  pub tokens : SoundTokens r
  pub members : SoundMembers r
  pub purses : SoundPurses r
  pub inboxes : SoundInboxes r
  pub lines : SoundLines r
  pub results : SoundResults r
  pub settled : AreSettled r.settled
  pub clears : SoundClears r
  pub payments : SoundPayments r
  pub proper : IsProper r
