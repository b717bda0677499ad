-- What comes of a row, by what it is in a World.
use Rattle.std.proofs.Common.{◌≡◌, Bool, true, false, Option, Some, None, refl, ◌∙◌, ap, option_map}
use Rattle.std.specs.Prelude.{if◌then◌else◌, is_some}
use Rattle.std.specs.FinMap as fmap
use Rattle.mx_book.specs.declared.values.Caller.{Caller}
use Rattle.mx_pay.specs.Names.{is_name}
use Rattle.mx_book.specs.Reads.{from_row, own_purse}
use Rattle.mx_book.specs.World.{World, Row, Name}
use Rattle.mx_command.specs.declared.values.Refusal.TheVariants.{NoSuchHolder}
use Rattle.mx_command.specs.declared.values.Reply.{Reply}
use Rattle.mx_command.specs.Commands.{IsAsked}
use Rattle.mx_office.specs.Step.{step}
use Rattle.mx_report.specs.declared.roll_rows.RollRow.{RollRow}
use Rattle.mx_report.specs.declared.rolls.RollReason.TheVariants as reason
use Rattle.mx_report.specs.declared.rolls.RowOutcome.{RowOutcome}
use Rattle.mx_report.specs.declared.rolls.RowOutcome.TheVariants.{Same, Refused}
use Rattle.mx_report.specs.Roll.{is_holders, is_same, asker, command_of}
use Rattle.mx_report.specs.Import.{IsRowImported, outcome_of, row_imported}

-- a purse is a holder's where its row says so
named_case : (b : Bool) (r : Row) → is_some (if b then Some r.holding.purse else None) ≡ b
named_case true r = refl
named_case false r = refl

own_case : (h : Name) (o : Option Row) → is_some (from_row None (λ (r : Row). if is_name h r.holder then Some r.holding.purse else None) o) ≡ is_holders h (option_map (λ (r : Row). r.holder) o)
own_case h None = refl
own_case h (Some r) = named_case (is_name h r.holder) r

pub own_is_holders : (w : World) (h p : Name) → is_some (own_purse w h p) ≡ is_holders h (option_map (λ (r : Row). r.holder) (fmap.get w.rows p))
own_is_holders w h p = own_case h (fmap.get w.rows p)

-- a row that is same
pub row_same : (Stands : World → Type 0) (w : World) (row : RollRow) → is_same w row ≡ true → Stands w → IsRowImported Stands w (Some row) Same
unfolding row_imported
row_same Stands w row is stands = record { stands = rw is stands; outcome_is = rw is refl; values = rw is tt }

-- a row for which nobody asks
pub row_unasked : (Stands : World → Type 0) (w : World) (row : RollRow) → is_same w row ≡ false → asker w row ≡ None → Stands w → IsRowImported Stands w (Some row) (Refused (reason.Refused NoSuchHolder))
unfolding row_imported
row_unasked Stands w row is nobody stands = record { stands = rw (is, nobody) stands; outcome_is = rw (is, nobody) refl; values = rw (is, nobody) tt }

-- a row whose command is asked
pub row_asked : (Stands : World → Type 0) (w : World) (row : RollRow) (caller : Caller) (r : Reply) (outcome : RowOutcome) → is_same w row ≡ false → asker w row ≡ Some caller
    → r ≡ (step w caller (command_of row)).reply → outcome ≡ outcome_of r → Stands (step w caller (command_of row)).world → IsAsked (caller, command_of row) → IsRowImported Stands w (Some row) outcome
unfolding row_imported
row_asked Stands w row caller r outcome is somebody told came stands value =
    record { stands = rw (is, somebody) stands; outcome_is = rw (is, somebody) (came ∙ ap outcome_of told); values = rw (is, somebody) (value, tt) }
