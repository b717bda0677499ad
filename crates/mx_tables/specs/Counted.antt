-- What rows that were read add to sums, which purses they are of, and what the sums are.
use Rattle.std.specs.Prelude.{◌≡◌, ℕ, pos, negsuc, Bool, true, ◌&&◌, ◌||◌, List, [], ◌∷◌, codes, if◌then◌else◌, bytes_eq, unwrap_or, Option, Some, None, IfSome, IsSome, ◌≤◌, ◌<◌, ◌^◌}
use Rattle.std.specs.FinMap as fmap
use Rattle.std.specs.List.{list_any}
use Rattle.std.specs.Ordering.{eq_by_cmp}
use Rattle.mx_book.specs.Under.{pair_cmp}
use Rattle.sqlite_value.specs.declared.value.Value.{Value}
use Rattle.sqlite_value.specs.declared.value.Value.TheVariants.{Null, Int, Real, Text, Blob}
use Rattle.sqlite_value.specs.Order.{Row, column}
use Rattle.mx_pay.specs.Names.{name_cmp, is_name, is_name_text}
use Rattle.mx_book.specs.World.{Name, is_of, result_cmp}
use Rattle.mx_book.specs.Rows.{Rows}
use Rattle.mx_book.specs.RowEdits.{member_at}
use Rattle.mx_book.specs.RowReads.{is_counted, row_uncollected_of}
use Rattle.mx_book.specs.RowTotals.{row_issued_of, row_redeemed_of, row_balances_of, has_left, lost_in_log, lost_in_archive, row_transit_of}
use Rattle.mx_book.specs.declared.values.PurseRow.{PurseRow}
use Rattle.mx_book.specs.declared.values.Redemption.{Redemption}
use Rattle.mx_book.specs.declared.values.Scope.{Scope}
use Rattle.mx_book.specs.declared.values.Scope.TheVariants.{Scheme}
use Rattle.mx_tables.specs.declared.sums.Sums.{Sums}
use Rattle.mx_cells.specs.Cells.{number}
use Rattle.mx_tables.specs.declared.sums.Amounts.{Amounts}
use Rattle.mx_tables.specs.declared.sums.Amounts.TheVariants.{Uncollected, Issued, Redeemed, Balances}
use Rattle.mx_sorted.specs.Slots.{map_of}
use Rattle.mx_book.specs.declared.values.MemberRow.{MemberRow}
use Rattle.mx_book.specs.declared.values.MemberTotals.{MemberTotals}
use Rattle.mx_tables.specs.declared.member_sums.MemberSums.{MemberSums}
use Rattle.std.specs.FinSet.{FinSet}
use Rattle.mx_tables.specs.Answers.{Displays}
use Rattle.mx_tables.specs.States.{SpellAny}
use Rattle.mx_pay.specs.Limits.{most_amount, most_entries, most_number}
use Rattle.mx_pay.specs.Details.{Details, IsDetails}
use Rattle.mx_pay.specs.Log.{Entries, IsLogValue, none_logged}
use Rattle.mx_pay.specs.Codes.{code, entry_text}
use Rattle.mx_pay.specs.Reading.{entry_of, entries_of}
use Rattle.mx_purse.specs.State.{details_of}
use Rattle.mx_purse.specs.Words.{status_details, status_word}
use Rattle.mx_purse.specs.declared.status.Status.{Status}
use Rattle.mx_book.specs.Sums.{sum_entries}
use Rattle.mx_tables.specs.declared.sums.Adds.{Adds}
use Rattle.mx_tables.specs.declared.sums.Adds.TheVariants.{Counted, Waiting, Logged, Archived}

-- a name and a number
abbrev pub owed_shown : Name → ℕ → Row
owed_shown p n = Text p ∷ number n ∷ []

-- a purse and its holder
abbrev pub owned_shown : Name × PurseRow → Row
owned_shown e = Text e.0 ∷ Text e.1.holder ∷ []

-- both are names
abbrev pub HaveNames : Name × PurseRow → Type 0
HaveNames e = (is_name_text e.0 ≡ true) × (is_name_text e.1.holder ≡ true)

-- the text of a value, and the number of one
abbrev pub text_of : Value → List ℕ
text_of Null = []
text_of (Int n) = []
text_of (Real x) = []
text_of (Text t) = t
text_of (Blob b) = []

abbrev pub number_of : Value → ℕ
number_of Null = 0
number_of (Int (pos n)) = n
number_of (Int (negsuc n)) = 0
number_of (Real x) = 0
number_of (Text t) = 0
number_of (Blob b) = 0

-- the number of a row, where the purse that it names counts
abbrev pub counted_row : fmap.FinMap name_cmp PurseRow → fmap.FinMap name_cmp Name → Scope → Row → ℕ
counted_row purses holders scope row = if is_counted holders scope (fmap.get purses (text_of (column row 0))) then number_of (column row 1) else 0

-- whether a purse is the one that a row names before its holder, who is one of the member m
abbrev pub is_owned : fmap.FinMap name_cmp Name → Name → Row → Name → Bool
is_owned holders m row p = is_name p (text_of (column row 0)) && is_of m (fmap.get holders (text_of (column row 1)))

-- a redemption, collected where its purse and reference pass
abbrev pub collected_where : (Name × Name → Bool) → Name × Name → Redemption → Redemption
collected_where passes key x = record x { collected = x.collected || passes key }

-- whether it is one of these keys
abbrev pub is_among : List (Name × Name) → Name × Name → Bool
is_among keys k = list_any (eq_by_cmp (pair_cmp name_cmp name_cmp) k) keys

-- the purse and the reference of a redemption
abbrev pub key_shown : Name × Name → Row
key_shown k = Text k.0 ∷ Text k.1 ∷ []

-- both are names
abbrev pub AreNames : Name × Name → Type 0
AreNames k = (is_name_text k.0 ≡ true) × (is_name_text k.1 ≡ true)

-- the purse and the reference that a row shows
abbrev pub key_in : Row → Name × Name
key_in row = (text_of (column row 0), text_of (column row 1))

-- the query of amounts
abbrev pub amounts_text : Amounts → List ℕ
amounts_text Uncollected = codes "SELECT purse, amount FROM redemption WHERE collected = 0"
amounts_text Issued = codes "SELECT purse, amount FROM load"
amounts_text Redeemed = codes "SELECT purse, amount FROM redemption"
amounts_text Balances = codes "SELECT name, balance FROM purse"

-- the most of one of these amounts
abbrev pub most_of : Amounts → ℕ
most_of Balances = most_number
most_of a = most_amount

-- what the amounts of the purses that count come to
abbrev pub amounts_of : Rows → Scope → Amounts → ℕ
amounts_of r scope Uncollected = row_uncollected_of r scope
amounts_of r scope Issued = row_issued_of r scope
amounts_of r scope Redeemed = row_redeemed_of r scope
amounts_of r scope Balances = row_balances_of r scope

-- the sums of the purses that count
abbrev pub row_sums : Rows → Scope → Sums
row_sums r scope = record {
  uncollected = row_uncollected_of r scope;
  issued = row_issued_of r scope;
  redeemed = row_redeemed_of r scope;
  balances = row_balances_of r scope;
}

-- the sum of a member, which is 0 where none is kept
abbrev pub sum_at : fmap.FinMap name_cmp ℕ → Name → ℕ
sum_at sums m = unwrap_or (fmap.get sums m) 0

-- the sums of a member
abbrev pub sums_at : MemberSums → Name → Sums
sums_at sums m = record {
  uncollected = sum_at (map_of name_cmp sums.uncollected) m;
  issued = sum_at (map_of name_cmp sums.issued) m;
  redeemed = sum_at (map_of name_cmp sums.redeemed) m;
  balances = sum_at (map_of name_cmp sums.balances) m;
}

-- nothing is summed yet
pub record HasNoSums (sums : MemberSums) : Type 0 where
  pub uncollected : map_of name_cmp sums.uncollected ≡ fmap.empty
  pub issued : map_of name_cmp sums.issued ≡ fmap.empty
  pub redeemed : map_of name_cmp sums.redeemed ≡ fmap.empty
  pub balances : map_of name_cmp sums.balances ≡ fmap.empty

-- a member, its grants and its float
abbrev pub member_listed : Name × MemberRow → Row
member_listed e = Text e.0 ∷ number e.1.granted ∷ number e.1.float ∷ []

-- a member's name, and numbers within their limits
abbrev pub IsListed : Name × MemberRow → Type 0
IsListed e = (is_name_text e.0 ≡ true) × (e.1.granted ≤ most_number) × (e.1.float ≤ most_number)

-- the sums of a member with its grants and its float
abbrev pub totals_with : Sums → ℕ → ℕ → MemberTotals
totals_with sums granted float = record {
  granted = granted;
  float = float;
  uncollected = sums.uncollected;
  issued = sums.issued;
  redeemed = sums.redeemed;
  balances = sums.balances;
}

-- the member of a row with its sums
abbrev pub totals_row : MemberSums → Row → Name × MemberTotals
totals_row sums row = (text_of (column row 0), totals_with (sums_at sums (text_of (column row 0))) (number_of (column row 1)) (number_of (column row 2)))

-- a number of a value, and 0 where there is none
abbrev pub if_some : {X : Type 0} → (X → ℕ) → Option X → ℕ
if_some f None = 0
if_some f (Some x) = f x

-- what is read of a purse's status, of a purse's log, and of an archived result
abbrev pub status_shown : Status → Row
status_shown s = Text (status_word s) ∷ Text (status_details s) ∷ []

abbrev pub waiting_shown : Name × PurseRow → Row
waiting_shown e = status_shown e.1.purse.status

abbrev pub log_shown : Name × PurseRow → Row
log_shown e = Text e.0 ∷ Text (code e.1.purse.log) ∷ []

abbrev pub result_shown : (Name × Details) × Unit {0} → Row
result_shown e = Text e.0.0 ∷ Text (entry_text e.0.1) ∷ []

module _ (purses : fmap.FinMap name_cmp PurseRow) (archive : FinSet result_cmp) where
  -- the value of details that has left the purse that pays
  abbrev pub left_value : Details → ℕ
  left_value d = if has_left purses archive d then d.value else 0

  -- what these rows add to the value on its way, and to what is lost
  abbrev pub waiting_at : Value → Value → ℕ
  waiting_at word details = if bytes_eq (text_of word) (codes "epv") then if_some left_value (entry_of (text_of details)) else 0

  abbrev pub waiting_row : Row → ℕ
  waiting_row row = waiting_at (column row 0) (column row 1)

  abbrev pub log_row : Entries → Row → ℕ
  log_row settled row = if_some (lost_in_log purses archive settled (text_of (column row 0))) (entries_of most_entries (text_of (column row 1)) none_logged)

  abbrev pub result_row : Entries → Row → ℕ
  result_row settled row = if_some (λ d. lost_in_archive purses archive settled (text_of (column row 0), d)) (entry_of (text_of (column row 1)))

-- what is lost by all logs, and by all archived results
abbrev pub logs_lost : Rows → ℕ
logs_lost r = sum_entries (λ p (x : PurseRow). lost_in_log r.purses r.archive r.settled p x.purse.log) r.purses

abbrev pub results_lost : Rows → ℕ
results_lost r = sum_entries (λ result _. lost_in_archive r.purses r.archive r.settled result) r.archive

-- the query of what is summed
abbrev pub adds_text : Adds → List ℕ
adds_text (Counted amounts scope) = amounts_text amounts
adds_text Waiting = codes "SELECT status, details FROM purse"
adds_text Logged = codes "SELECT name, log FROM purse"
adds_text Archived = codes "SELECT purse, details FROM archive"

-- an amount of a purse whose member is there
abbrev pub IsOwed : Rows → Amounts → Name × ℕ → Type 0
IsOwed r amounts e = (is_name_text e.0 ≡ true) × (e.1 ≤ most_of amounts) × IsSome (member_at r.holders (fmap.get r.purses e.0))

-- the row shows what is added, within its limits; an archived result is of a purse that is there
abbrev pub IsAdded : Rows → Adds → Row → Type 0
IsAdded r (Counted amounts scope) = Displays (IsOwed r amounts) (λ e. owed_shown e.0 e.1)
IsAdded r Waiting = Displays (λ s. IfSome (details_of s) IsDetails) status_shown
IsAdded r Logged = Displays (λ (e : Name × PurseRow). (is_name_text e.0 ≡ true) × IsLogValue e.1.purse.log) log_shown
IsAdded r Archived = Displays (λ (e : (Name × Details) × Unit {0}). (is_name_text e.0.0 ≡ true) × IsDetails e.0.1 × IsSome (fmap.get r.purses e.0.0)) result_shown

-- of rows that spell a World
abbrev pub MayAdd : Adds → Row → Rows → Type 0
MayAdd adds row r = SpellAny r × IsAdded r adds row

-- to sums with room for it
abbrev pub MayOwe : fmap.FinMap name_cmp ℕ → Amounts → Row → Rows → Type 0
MayOwe sums amounts row r = MayAdd (Counted amounts Scheme) row r × ((m : Name) → sum_at sums m < 2 ^ 127)

-- what a row adds to a sum
abbrev pub row_adds : Rows → Adds → Row → ℕ
row_adds r (Counted amounts scope) row = counted_row r.purses r.holders scope row
row_adds r Waiting row = waiting_row r.purses r.archive row
row_adds r Logged row = log_row r.purses r.archive r.settled row
row_adds r Archived row = result_row r.purses r.archive r.settled row

-- the sum
abbrev pub sum_of : Rows → Adds → ℕ
sum_of r (Counted amounts scope) = amounts_of r scope amounts
sum_of r Waiting = row_transit_of r
sum_of r Logged = logs_lost r
sum_of r Archived = results_lost r
