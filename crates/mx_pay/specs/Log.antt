-- A log is a finite set of payment details (PRG-126: the exception log of the schema ConPurse).
use Rattle.std.specs.Prelude.{◌≡◌, ℕ, ◌-◌, ◌≤◌, nat_lt, Bool, ◌&&◌, ◌||◌, List, ◌++◌, length, map, replicate, slice_get, Option, Some, None, T}
use Rattle.std.specs.List.{list_all, AllByRecursion}
use Rattle.std.specs.Option.{some_prefix}
use Rattle.std.specs.Ordering.{is_lt}
use Rattle.std.specs.Coded.{Coded}
use Rattle.std.specs.FinMap as fmap
use Rattle.std.specs.FinMap.Entries.{is_sorted}
use Rattle.std.specs.FinSet.{FinSet}
use Rattle.std.specs.FinSet as fset
use Rattle.mx_pay.specs.Limits.{most_entries}
use Rattle.mx_pay.specs.Names.{is_name}
use Rattle.mx_pay.specs.Details.{Details, IsDetails, details_cmp, coded_details}

-- a set of details
abbrev pub Entries : Type 0
Entries = FinSet details_cmp

-- the code of such a set, by which a proof tells two of them apart
abbrev pub coded_entries : Coded Entries
coded_entries = fset.code coded_details

-- the empty log
abbrev pub none_logged : Entries
none_logged = fmap.empty

-- the details of a log, in order
abbrev pub logged : Entries → List Details
logged = fmap.keys

-- how many details a log has
abbrev pub log_len : Entries → ℕ
log_len = fmap.len

-- whether details are in a log
abbrev pub has_logged : Entries → Details → Bool
has_logged = fmap.contains_key

-- the details at a place of a log, counted from 0, in order
abbrev pub entry_at : Entries → ℕ → Option Details
entry_at log place = slice_get (logged log) place

-- a log with details added
abbrev pub with_entry : Entries → Details → Entries
with_entry log d = fmap.insert log d tt

-- whether all details of the first log are in the second
abbrev pub is_within : Entries → Entries → Bool
is_within a b = list_all (has_logged b) (logged a)

-- whether two logs have the same details
abbrev pub is_same_log : Entries → Entries → Bool
is_same_log a b = is_within a b && is_within b a

-- whether details come behind all of a log
abbrev pub is_below : Details → Entries → Bool
is_below d log = list_all (λ e. is_lt (details_cmp e d)) (logged log)

-- whether details name a purse, with the purse's own number in them below its next one
abbrev pub owns : List ℕ → ℕ → Details → Bool
owns name next d = (is_name d.from name && nat_lt d.from_seq next) || (is_name d.to name && nat_lt d.to_seq next)

-- whether all details of a log do
abbrev pub all_owned : List ℕ → ℕ → Entries → Bool
all_owned name next log = list_all (owns name next) (logged log)

-- a log has at most 16 details, each within its limits
pub record IsLogValue (log : Entries) : Type 0 where
  pub room : log_len log ≤ most_entries
  pub entries : (d : Details) → has_logged log d ≡ Bool.true → IsDetails d

-- details as the entries of a map to nothing, which is what a set is made of
abbrev pub marks : List Details → List (Details × Unit {0})
marks ds = map (λ d. (d, tt)) ds

-- the log of details in rising order
abbrev pub log_of : List Details → Entries
log_of ds = fmap.from_sorted (marks ds)

-- sixteen places, of which the first hold the details and the others nothing
abbrev pub places : List Details → List (Option Details)
places ds = map Some ds ++ replicate (most_entries - length ds) None

-- sixteen places are those of a log: at most 16 details in rising order, each within its limits, then nothing
pub record IsLog (entries : List (Option Details)) : Type 0 where
  pub room : length (some_prefix entries) ≤ most_entries
  pub exact : places (some_prefix entries) ≡ entries
  pub rises : T (is_sorted details_cmp (marks (some_prefix entries)))
  pub each : AllByRecursion IsDetails (some_prefix entries)
