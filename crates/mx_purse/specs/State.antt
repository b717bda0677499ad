-- A purse as a record (PRG-126: the schema ConPurse), and what always holds of one.
use Rattle.std.specs.Prelude.{◌≡◌, ℕ, ◌+◌, ◌<◌, ◌≤◌, ◌⊎◌, Bool, List, Option, Some, None, IfSome, IsTrue, refl}
use Rattle.std.specs.Coded.{Coded, code_by, coded×, coded_ℕ, coded_list}
use Rattle.mx_pay.specs.Limits.{most_number, most_entries}
use Rattle.mx_pay.specs.Names.{is_name_text}
use Rattle.mx_pay.specs.Details.{Details, IsDetails}
use Rattle.mx_pay.specs.Log.{Entries, IsLogValue, coded_entries, log_len, has_logged, none_logged}
use Rattle.mx_purse.specs.contracts.status.Status as status
use Rattle.mx_purse.specs.declared.status.Status.{Status}
use Rattle.mx_purse.specs.declared.status.Status.TheVariants.{EaFrom, EaTo, Epr, Epv, Epa}

-- the parts of ConPurse, with the present details inside the status, and the count of statement lines
pub record State : Type 0 where
  pub name : List ℕ
  pub balance : ℕ
  -- the sequence number that the next payment takes
  pub next : ℕ
  -- where the purse stands, with the details of the payment under way
  pub status : Status
  -- the exception log
  pub log : Entries
  -- how many statement lines it has
  pub lines : ℕ

-- a new purse: at rest, with nothing in it and nothing logged
abbrev pub new_purse : List ℕ → State
new_purse name = record { name = name; balance = 0; next = 0; status = EaFrom; log = none_logged; lines = 0 }

-- the details of a status, if it has some
abbrev pub details_of : Status → Option Details
details_of EaFrom = None
details_of EaTo = None
details_of (Epr d) = Some d
details_of (Epv d) = Some d
details_of (Epa d) = Some d

-- details name the purse, with the purse's own number in them below its next one
abbrev pub IsOwnEntry : State → Details → Type 0
IsOwnEntry p d = ((d.from ≡ p.name) × (d.from_seq < p.next)) ⊎ ((d.to ≡ p.name) × (d.to_seq < p.next))

-- what holds in each status: at rest only that the lines are few; in the others the details name the purse on
-- its side, with its own number below its next one, they aren't logged yet, the log has room for them, and the
-- lines are few; in epr the balance covers the value
abbrev pub IsInStatus : State → Status → Type 0
IsInStatus p EaFrom = p.lines ≤ most_number + 2
IsInStatus p EaTo = p.lines ≤ most_number + 2
IsInStatus p (Epr d) = (d.from ≡ p.name) × (d.value ≤ p.balance) × (d.from_seq < p.next)
    × (has_logged p.log d ≡ Bool.false) × (log_len p.log < most_entries) × (p.lines ≤ most_number)
IsInStatus p (Epv d) = (d.to ≡ p.name) × (d.to_seq < p.next)
    × (has_logged p.log d ≡ Bool.false) × (log_len p.log < most_entries) × (p.lines ≤ most_number)
IsInStatus p (Epa d) = (d.from ≡ p.name) × (d.from_seq < p.next)
    × (has_logged p.log d ≡ Bool.false) × (log_len p.log < most_entries) × (p.lines ≤ most_number + 1)

-- what always holds of a purse: the conditions of ConPurse, and the limits and conditions of this office
pub record IsPurse (p : State) : Type 0 where
  pub name : IsTrue (is_name_text p.name)
  pub balance : p.balance ≤ most_number
  pub next : p.next ≤ most_number
  pub status : IsInStatus p p.status
  pub details : IfSome (details_of p.status) IsDetails
  pub log : IsLogValue p.log
  pub entries : (d : Details) → has_logged p.log d ≡ Bool.true → IsOwnEntry p d

-- a purse as the tuple of its parts, by which a proof tells two of them apart
abbrev pub coded_state : Coded State
coded_state =
    code_by (List ℕ × (ℕ × (ℕ × (Status × (Entries × ℕ)))))
    (coded× (coded_list coded_ℕ) (coded× coded_ℕ (coded× coded_ℕ (coded× (status.the_row).coded (coded× coded_entries coded_ℕ)))))
    (λ p. (p.name, (p.balance, (p.next, (p.status, (p.log, p.lines))))))
    (λ t. record { name = t.0; balance = t.1.0; next = t.1.1.0; status = t.1.1.1.0; log = t.1.1.1.1.0; lines = t.1.1.1.1.1 })
    (λ _. refl)
