-- What the statements on the tray and the archive answer, and what they add.
use Rattle.std.specs.Prelude.{◌≡◌, ◌≤◌, List, [], ◌∷◌, length, map, Some}
use Rattle.std.specs.List.{AllByRecursion, list_any}
use Rattle.std.specs.FinMap as fmap
use Rattle.std.specs.FinSet.{FinSet}
use Rattle.sqlite_value.specs.Order.{Row, column}
use Rattle.sqlite_value.specs.declared.value.Value.TheVariants.{Text}
use Rattle.sqlite.specs.State.{State}
use Rattle.mx_tables.specs.Schema.{office_schema}
use Rattle.mx_tables.specs.States.{Brings}
use Rattle.mx_pay.specs.Details.{Details, IsDetails, is_details}
use Rattle.mx_pay.specs.Codes.{entry_text}
use Rattle.mx_pay.specs.Log.{Entries, has_logged, log_len}
use Rattle.mx_pay.specs.Limits.{most_entries}
use Rattle.mx_book.specs.World.{Name, result_cmp}
use Rattle.mx_book.specs.Rows.{Rows}
use Rattle.mx_book.specs.Conditions.{AreSettled}

abbrev pub details_shown : Details → Row
details_shown d = Text (entry_text d) ∷ []

-- the first column of a row
abbrev pub first_one : Row → Row
first_one r = column r 0 ∷ []

-- each of these results has details within their limits
abbrev pub AreDetails : FinSet result_cmp → Type 0
AreDetails s = (k : Name × Details) (x : Unit {0}) → fmap.get s k ≡ Some x → IsDetails k.1

-- what is archived and what is settled has details within their limits
pub record AreEntries (r : Rows) : Type 0 where
  pub archive : AreDetails r.archive
  pub settled : AreSettled r.settled

-- a log has the details that rows show, and no others
pub record Shows (log : Entries) (rows : List Row) : Type 0 where
  pub details : List Details
  pub shown : map first_one rows ≡ map details_shown details
  pub valid : AllByRecursion IsDetails details
  pub has : (d : Details) → has_logged log d ≡ list_any (is_details d) details

-- the rows show each of the details of a log once, which has at most 16
pub record ShowsOnce (log : Entries) (rows : List Row) : Type 0 where
  pub shows : Shows log rows
  pub once : length rows ≡ log_len log
  pub room : log_len log ≤ most_entries

-- results with these details of a purse
abbrev pub and_details : Name → FinSet result_cmp → List Details → FinSet result_cmp
and_details p s [] = s
and_details p s (d ∷ ds) = and_details p (fmap.insert s (p, d) tt) ds

-- what these rows show becomes a part of the archive of a purse
pub record Archives (p : Name) (rows : List Row) (old new : State) : Type 0 where
  pub schema : new.now.schema ≡ office_schema
  pub goes : (ds : List Details) → map details_shown ds ≡ rows → Brings (λ r. record r { archive = and_details p r.archive ds }) old new
