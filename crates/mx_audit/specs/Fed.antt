-- The rows of all tables in the order in which the audit goes over them, and what it sees in the end.
use Rattle.std.specs.Prelude.{◌≡◌, ℕ, Bool, List, [], ◌∷◌, map, Option, option_and_then}
use Rattle.std.specs.declared.cmp.Ordering.{Ordering}
use Rattle.std.specs.List.{AllByRecursion}
use Rattle.std.specs.FinMap as fmap
use Rattle.std.specs.FinMap.{FinMap}
use Rattle.mx_pay.specs.Details.{Details, IsDetails}
use Rattle.mx_pay.specs.Log.{Entries, has_logged}
use Rattle.mx_pay.specs.Tokens.{token_cmp}
use Rattle.mx_purse.specs.declared.message.Message.{Message}
use Rattle.mx_purse.specs.declared.message.Message.TheVariants.{Clear}
use Rattle.mx_book.specs.World.{Name, Token}
use Rattle.mx_book.specs.Rows.{Rows}
use Rattle.mx_book.specs.declared.values.Caller.{Caller}
use Rattle.mx_book.specs.declared.values.Caller.TheVariants.{Operator}
use Rattle.mx_book.specs.declared.values.LineRow.{LineRow}
use Rattle.mx_book.specs.declared.values.MemberRow.{MemberRow}
use Rattle.mx_book.specs.declared.values.PurseRow.{PurseRow}
use Rattle.mx_book.specs.declared.values.Redemption.{Redemption}
use Rattle.mx_cells.specs.Entries.{IsTokenRow, IsMemberRow, IsHolderRow, IsPurseRow, IsMessageRow, IsLineRow, IsResultRow, IsLoadRow, IsRedemptionRow}
use Rattle.mx_tables.proofs.MapLists.{AreDistinct}
use Rattle.mx_audit.specs.Seen.{Seen, nothing_seen, seen_all, fits_member, with_member, fits_holder, with_holder, fits_token, with_token, fits_purse, with_purse, fits_message, with_message, fits_line, with_line, has_purse}
use Rattle.mx_audit.specs.Sound.{HasMessage, IsLaid, IsArchived, IsEntryRow}

pub record Fed : Type 0 where
  pub tokens : List (Token × Caller)
  pub members : List (Name × MemberRow)
  -- each holder's member
  pub holders : List (Name × Name)
  pub purses : List (Name × PurseRow)
  -- messages and lines by purse and number
  pub inbox : List ((Name × ℕ) × Message)
  pub lines : List ((Name × ℕ) × LineRow)
  pub tray : List (Name × Details)
  pub archive : List (Name × Details)
  -- amounts and redemptions by purse and reference
  pub loads : List ((Name × Name) × ℕ)
  pub redemptions : List ((Name × Name) × Redemption)
  pub settled : List Details

-- ---- what is seen in the end, where each row fits what was seen before it

-- the rows of one table more
abbrev pub and_all : {E : Type 0} → (Seen → E → Bool) → (Seen → E → Seen) → List E → Option Seen → Option Seen
and_all fits next es = option_and_then (λ s. seen_all fits next s es)

-- rows that have to be of a purse that is there, and add nothing
abbrev pub and_of_purses : {E : Type 0} → (E → Name) → List E → Option Seen → Option Seen
and_of_purses purse = and_all (λ s e. has_purse s (purse e)) (λ s e. s)

-- table by table, each from where the one before it ended
abbrev pub seen_members : Fed → Option Seen
seen_members f = seen_all fits_member with_member nothing_seen f.members

abbrev pub seen_holders : Fed → Option Seen
seen_holders f = and_all fits_holder with_holder f.holders (seen_members f)

abbrev pub seen_tokens : Fed → Option Seen
seen_tokens f = and_all fits_token with_token f.tokens (seen_holders f)

abbrev pub seen_purses : Fed → Option Seen
seen_purses f = and_all fits_purse with_purse f.purses (seen_tokens f)

abbrev pub seen_inbox : Fed → Option Seen
seen_inbox f = and_all fits_message with_message f.inbox (seen_purses f)

abbrev pub seen_lines : Fed → Option Seen
seen_lines f = and_all fits_line with_line f.lines (seen_inbox f)

abbrev pub seen_tray : Fed → Option Seen
seen_tray f = and_of_purses (λ (e : Name × Details). e.0) f.tray (seen_lines f)

abbrev pub seen_archive : Fed → Option Seen
seen_archive f = and_of_purses (λ (e : Name × Details). e.0) f.archive (seen_tray f)

abbrev pub seen_loads : Fed → Option Seen
seen_loads f = and_of_purses (λ (e : (Name × Name) × ℕ). e.0.0) f.loads (seen_archive f)

abbrev pub seen_fed : Fed → Option Seen
seen_fed f = and_of_purses (λ (e : (Name × Name) × Redemption). e.0.0) f.redemptions (seen_loads f)

-- ---- each row is within its limits

pub record AreLimited (f : Fed) : Type 0 where
  pub tokens : AllByRecursion IsTokenRow f.tokens
  pub members : AllByRecursion IsMemberRow f.members
  pub holders : AllByRecursion IsHolderRow f.holders
  pub purses : AllByRecursion IsPurseRow f.purses
  pub inbox : AllByRecursion IsMessageRow f.inbox
  pub lines : AllByRecursion IsLineRow f.lines
  pub tray : AllByRecursion IsResultRow f.tray
  pub archive : AllByRecursion IsResultRow f.archive
  pub loads : AllByRecursion IsLoadRow f.loads
  pub redemptions : AllByRecursion IsRedemptionRow f.redemptions
  pub settled : AllByRecursion IsDetails f.settled

-- ---- the rows are those of a book

-- the rows are those of a map, and no two have one key
pub record IsListed {K V : Type 0} {R : K → K → Ordering} (es : List (K × V)) (m : FinMap R V) : Type 0 where
  pub map : m ≡ fmap.from_entries es
  pub apart : AreDistinct R es

-- the members of a set as rows
abbrev pub marked : {K : Type 0} → List K → List (K × Unit {0})
marked ks = map (λ k. (k, tt)) ks

-- no two tokens are of one caller
abbrev pub CallersDiffer : List (Token × Caller) → Type 0
CallersDiffer [] = Unit {0}
CallersDiffer (e ∷ es) = AllByRecursion (λ (d : Token × Caller). d.1 ≡ e.1 → ⊥) es × CallersDiffer es

-- the first token is the operator's, the others are those of the map, no two are alike and no two of one caller
pub record ListedTokens (tokens : List (Token × Caller)) (r : Rows) : Type 0 where
  pub rest : List (Token × Caller)
  pub first : tokens ≡ (r.operator, Operator) ∷ rest
  pub map : r.tokens ≡ fmap.from_entries rest
  pub apart : AreDistinct token_cmp tokens
  pub single : CallersDiffer tokens

pub record Lists (f : Fed) (r : Rows) : Type 0 where
  pub tokens : ListedTokens f.tokens r
  pub members : IsListed f.members r.members
  pub holders : IsListed f.holders r.holders
  pub purses : IsListed f.purses r.purses
  pub inbox : IsListed f.inbox r.inbox
  pub lines : IsListed f.lines r.lines
  pub tray : IsListed (marked f.tray) r.tray
  pub archive : IsListed (marked f.archive) r.archive
  pub loads : IsListed f.loads r.loads
  pub redemptions : IsListed f.redemptions r.redemptions
  pub settled : IsListed (marked f.settled) r.settled

-- ---- what is looked up beside

-- what is in the tray is an entry of its purse's log, and isn't archived
pub record Laid (r : Rows) : Type 0 where
  pub logged : (p : Name) (d : Details) → IsLaid r p d → IsEntryRow r p d
  pub apart : (p : Name) (d : Details) → IsLaid r p d → fmap.contains_key r.archive (p, d) ≡ Bool.false

-- the set of a clear in an inbox is archived for the purse in full
pub record Cleared (r : Rows) : Type 0 where
  pub archived : (p : Name) (n : ℕ) (set : Entries) (d : Details) → HasMessage r p n (Clear set) → has_logged set d ≡ Bool.true
      → IsArchived r p d
