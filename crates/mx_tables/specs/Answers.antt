-- What the statements that read answer from the typed rows.
use Rattle.std.specs.Prelude.{ℕ, Bool, false, ◌&&◌, List, [], ◌∷◌, codes, filter, ◌≡◌, ◌≤◌, ◌+◌, Option, Some, None, option_map}
use Rattle.std.specs.Ordering.{eq_by_cmp}
use Rattle.std.specs.declared.cmp.Ordering.{Ordering}
use Rattle.sqlite_value.specs.Order.{Row, column}
use Rattle.sqlite_value.specs.declared.value.Value.{Value}
use Rattle.sqlite_value.specs.declared.value.Value.TheVariants.{Null, Int, Real, Text, Blob}
use Rattle.std.specs.FinMap as fmap
use Rattle.mx_purse.specs.declared.message.Message.{Message}
use Rattle.mx_purse.specs.Messages.{IsMessage}
use Rattle.mx_book.specs.World.{Name}
use Rattle.mx_book.specs.Rows.{Rows}
use Rattle.mx_pay.specs.Limits.{most_number}
use Rattle.mx_pay.specs.Names.{is_name}
use Rattle.mx_purse.specs.State.{IsPurse}
use Rattle.mx_book.specs.declared.values.PurseRow.{PurseRow}
use Rattle.sqlite.specs.State.{State as Connected}
use Rattle.mx_book.specs.RowEdits.{on_purse}
use Rattle.mx_tables.specs.declared.asking.About.{About}
use Rattle.mx_tables.specs.declared.asking.About.TheVariants.{Member, Holder, Purse, Owner, Next}
use Rattle.mx_tables.specs.Holds.{Holds}
use Rattle.mx_tables.specs.States.{Brings}
use Rattle.mx_cells.specs.Cells.{member_shown, purse_shown, number}
use Rattle.mx_cells.specs.Entries.{HasColumns}

-- the entries at a key
abbrev pub at_key : {K V : Type 0} → (K → K → Ordering) → K → List (K × V) → List (K × V)
at_key {K} {V} R q = filter (λ (e : K × V). eq_by_cmp R q e.0)

abbrev pub text_shown : List ℕ → Row
text_shown t = Text t ∷ []

abbrev pub amount_shown : ℕ → Row
amount_shown n = number n ∷ []

-- each message is within its limits
abbrev pub AreMessages : Rows → Type 0
AreMessages r = (k : Name × ℕ) (m : Message) → fmap.get r.inbox k ≡ Some m → IsMessage m

-- each message has a number up to 10^15
abbrev pub HaveNumbers : Rows → Type 0
HaveNumbers r = (k : Name × ℕ) (m : Message) → fmap.get r.inbox k ≡ Some m → k.1 ≤ most_number

-- the value is this text
abbrev pub is_text : Name → Value → Bool
is_text t Null = false
is_text t (Int n) = false
is_text t (Real x) = false
is_text t (Text u) = is_name t u
is_text t (Blob b) = false

-- the row shows the name of a purse and its holder
abbrev pub is_owned_in : Name → Name → Row → Bool
is_owned_in h p r = is_text p (column r 0) && is_text h (column r 1)

abbrev pub next_shown : PurseRow → Row
next_shown x = number x.next_message ∷ []

-- each purse is one, under its name
abbrev pub ArePurses : Rows → Type 0
ArePurses r = (p : Name) (x : PurseRow) → fmap.get r.purses p ≡ Some x → (x.purse.name ≡ p) × IsPurse x.purse

-- the row shows one of these in its first columns
abbrev pub Displays : {E : Type 0} → (E → Type 0) → (E → Row) → Row → Type 0
Displays {E} IsOne shows row = (e : E) × IsOne e × HasColumns row 0 (shows e)

-- one or none, as a list
abbrev pub one_or_none : {X : Type 0} → Option X → List X
one_or_none None = []
one_or_none (Some x) = x ∷ []

-- the number of a purse's next message, which is this one, is raised by one
pub record Raises (p : Name) (next : ℕ) (old new : Connected) : Type 0 where
  pub goes : Brings (λ r. on_purse (fmap.get r.purses p) r (λ x. record r { purses = fmap.insert r.purses p (record x { next_message = next + 1 }) })) old new
  pub was : (r : Rows) → Holds old.now r → option_map (λ (x : PurseRow). x.next_message) (fmap.get r.purses p) ≡ Some next

-- what is asked about a name, and the row that answers
abbrev pub about_text : About → List ℕ
about_text Member = codes "SELECT granted, unspent FROM member WHERE name = ?1"
about_text Holder = codes "SELECT member FROM holder WHERE name = ?1"
about_text Purse = codes "SELECT holder, balance, next_number, status, details, log, line_count, next_message FROM purse WHERE name = ?1"
about_text Owner = codes "SELECT holder FROM purse WHERE name = ?1"
about_text Next = codes "SELECT next_message FROM purse WHERE name = ?1"

abbrev pub shown_about : About → Rows → Name → Option Row
shown_about Member r p = option_map member_shown (fmap.get r.members p)
shown_about Holder r p = option_map text_shown (fmap.get r.holders p)
shown_about Purse r p = option_map purse_shown (fmap.get r.purses p)
shown_about Owner r p = option_map (λ (x : PurseRow). text_shown x.holder) (fmap.get r.purses p)
shown_about Next r p = option_map next_shown (fmap.get r.purses p)
