-- What the audit makes of one row more, of whichever table.
use Rattle.std.specs.Prelude.{◌≡◌, ◌≤◌, ◌++◌, Bool, true, List, [], map}
use Rattle.sqlite_value.specs.Order.{Row}
use Rattle.mx_pay.specs.Details.{Details}
use Rattle.mx_pay.specs.Log.{Entries, logged}
use Rattle.mx_purse.specs.declared.message.Message.{Message}
use Rattle.mx_purse.specs.declared.message.Message.TheVariants.{Clear}
use Rattle.mx_book.specs.World.{Name}
use Rattle.mx_audit.specs.Seen.{Seen, nothing_seen, fits_member, with_member, fits_holder, with_holder, fits_token, with_token, fits_purse, with_purse, fits_message, with_message, fits_line, with_line, has_purse}
use Rattle.mx_audit.specs.Readings.{laid_of}
use Rattle.mx_audit.specs.Typed.{IsShown, IsSource, IsTyped}
use Rattle.mx_audit.specs.declared.audit.Audit.{Audit}
use Rattle.mx_audit.specs.declared.typed.TypedRow.{TypedRow}
use Rattle.mx_audit.specs.declared.typed.TypedRow.TheVariants as row
use Rattle.mx_audit.specs.declared.typed.TypedRow.TheVariants.{Version, Member, Holder, Token, Purse, Line, Laid, Archived, Load, Redemption, Settled}

-- whether it fits what was seen before it. What is settled is tested by itself.
abbrev pub fits_row : Seen → TypedRow → Bool
fits_row s Version = true
fits_row s (Member name member) = fits_member s (name, member)
fits_row s (Holder holder member) = fits_holder s (holder, member)
fits_row s (Token token caller) = fits_token s (token, caller)
fits_row s (Purse name purse) = fits_purse s (name, purse)
fits_row s (row.Message purse number message) = fits_message s ((purse, number), message)
fits_row s (Line purse number line) = fits_line s ((purse, number), line)
fits_row s (Laid purse details) = has_purse s purse
fits_row s (Archived purse details) = has_purse s purse
fits_row s (Load purse reference amount) = has_purse s purse
fits_row s (Redemption purse reference redemption) = has_purse s purse
fits_row s (Settled details) = true

-- what is seen then
abbrev pub with_row : Seen → TypedRow → Seen
with_row s Version = s
with_row s (Member name member) = with_member s (name, member)
with_row s (Holder holder member) = with_holder s (holder, member)
with_row s (Token token caller) = with_token s (token, caller)
with_row s (Purse name purse) = with_purse s (name, purse)
with_row s (row.Message purse number message) = with_message s ((purse, number), message)
with_row s (Line purse number line) = with_line s ((purse, number), line)
with_row s (Laid purse details) = s
with_row s (Archived purse details) = s
with_row s (Load purse reference amount) = s
with_row s (Redemption purse reference redemption) = s
with_row s (Settled details) = s

-- the entries of a set of details, for a purse
abbrev pub all_of : Name → Entries → List (Name × Details)
all_of p set = map (λ d. (p, d)) (logged set)

-- what has to be looked up of a row: a result in a tray (`laid_of`), and what a clear would clear
abbrev pub cleared_by : Name → Message → List (Name × Details)
cleared_by p (Clear set) = all_of p set
cleared_by p message = []

abbrev pub cleared_of : TypedRow → List (Name × Details)
cleared_of (row.Message purse number message) = cleared_by purse message
cleared_of _ = []

pub record IsBegun (a : Audit) : Type 0 where
  pub seen : a.seen ≡ nothing_seen
  pub found : a.found ≡ 0
  pub laid : a.laid.items ≡ []
  pub cleared : a.cleared.items ≡ []

-- a row that fits is taken in
pub record TakesIn (e : TypedRow) (old new : Audit) : Type 0 where
  pub seen : new.seen ≡ with_row old.seen e
  pub laid : new.laid.items ≡ old.laid.items ++ laid_of e
  pub cleared : new.cleared.items ≡ old.cleared.items ++ cleared_of e

-- A row of the table that is gone over. Where nothing was found in the end, it is one that fits, and was taken in. A row of which
-- each reading fits is no finding.
pub record Goes (row : Row) (old new : Audit) : Type 0 where
  pub source : new.source ≡ old.source
  pub lasts : old.found ≤ new.found
  pub took : new.found ≡ 0 → (e : TypedRow) × IsTyped e × IsShown old.source row e × (fits_row old.seen e ≡ true) × TakesIn e old new
  pub fine : IsSource old.source row → ((e : TypedRow) → IsTyped e → IsShown old.source row e → fits_row old.seen e ≡ true) → new.found ≡ old.found
