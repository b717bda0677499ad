-- The import of a roll: what comes of its records, one after another.
use Rattle.std.specs.Prelude.{◌≡◌, ◌≢◌, ◌≤◌, ◌⊎◌, ℕ, ◌+◌, if◌then◌else◌, List, [], ◌∷◌, ◌++◌, length, Option, Some, None, option_map, IsTrue}
use Rattle.std.specs.List.{AllByRecursion}
use Rattle.csv.specs.Machine.{Read, next_record}
use Rattle.csv.specs.Reading.{Reached, default_config, strip_bom}
use Rattle.csv.specs.declared.parser.State.{State}
use Rattle.csv.specs.declared.parser.State.TheVariants as st
use Rattle.mx_book.specs.Views.{View, IsSure, HasSoundStore}
use Rattle.mx_book.specs.declared.values.Caller.{Caller}
use Rattle.mx_book.specs.World.{World}
use Rattle.mx_command.specs.declared.values.Reply.{Reply}
use Rattle.mx_command.specs.declared.values.Reply.TheVariants as reply
use Rattle.mx_command.specs.declared.values.Refusal.TheVariants.{NoSuchHolder}
use Rattle.mx_command.specs.Commands.{IsAsked, Asked}
use Rattle.mx_office.specs.Step.{step, steps, listed}
use Rattle.mx_report.specs.declared.roll_rows.RollRow.{RollRow}
use Rattle.mx_report.specs.declared.rolls.RollReason.TheVariants as reason
use Rattle.mx_report.specs.declared.rolls.RowOutcome.{RowOutcome}
use Rattle.mx_report.specs.declared.rolls.RowOutcome.TheVariants.{Added, Same, Refused}
use Rattle.mx_report.specs.declared.rolls.RefusedRow.{RefusedRow}
use Rattle.mx_report.specs.declared.rolls.RollReport.{RollReport}
use Rattle.mx_report.specs.Roll.{Fields, roll_header, row_of, is_same, asker, command_of}

-- ---- one record

-- what stands after a record, and what came of it
pub record Imported : Type 0 where
  pub world : World
  pub outcome : RowOutcome

-- a command adds, or it is refused
abbrev pub outcome_of : Reply → RowOutcome
outcome_of (reply.Refused r) = Refused (reason.Refused r)
outcome_of r = Added

-- what is asked by a caller; nobody asks for a purse of a holder that isn't there
abbrev pub asked : World → RollRow → Option Caller → Imported
asked w row None = record { world = w; outcome = Refused (reason.Refused NoSuchHolder) }
asked w row (Some caller) = let now = step w caller (command_of row) in record { world = now.world; outcome = outcome_of now.reply }

-- a row is same, or its command is asked
unfoldable pub row_imported : World → RollRow → Imported
row_imported w row = if is_same w row then record { world = w; outcome = Same } else asked w row (asker w row)

-- a record that spells no row is a bad row
abbrev pub spelled_imported : World → Option RollRow → Imported
spelled_imported w None = record { world = w; outcome = Refused reason.BadRow }
spelled_imported w (Some row) = row_imported w row

abbrev pub record_imported : World → Fields → Imported
record_imported w fields = spelled_imported w (row_of fields)

-- ---- records in order

-- how many rows were added, how many were same, and those that were refused
pub record Tally : Type 0 where
  pub added : ℕ
  pub same : ℕ
  pub refused : List RefusedRow

-- no rows yet
abbrev pub no_rows : Tally
no_rows = record { added = 0; same = 0; refused = [] }

-- the tally of a report
abbrev pub tally_of : RollReport → Tally
tally_of r = record { added = r.added; same = r.same; refused = r.refused.items }

-- how many rows were counted
abbrev pub rows_counted : Tally → ℕ
rows_counted t = t.added + t.same + length t.refused

-- a tally with one row more, whose number follows
abbrev pub tallied : Tally → RowOutcome → Tally
tallied t Added = record t { added = t.added + 1 }
tallied t Same = record t { same = t.same + 1 }
tallied t (Refused why) = record t { refused = t.refused ++ record { number = rows_counted t + 1; reason = why } ∷ [] }

-- how far an import has come
pub record Import : Type 0 where
  pub world : World
  pub tally : Tally

-- one record more, and records in order
abbrev pub after_record : Import → Fields → Import
after_record i fields = let now = record_imported i.world fields in record { world = now.world; tally = tallied i.tally now.outcome }

abbrev pub after_records : Import → List Fields → Import
after_records i [] = i
after_records i (r ∷ rs) = after_records (after_record i r) rs

-- the import of these records into a World
abbrev pub import : World → List Fields → Import
import w records = after_records (record { world = w; tally = no_rows }) records

-- ---- the commands of an import

-- what is asked for a record, and by whom: nothing where it is a bad row or same, and where nobody asks
abbrev pub spelled_asks : World → Option RollRow → List Asked
spelled_asks w None = []
spelled_asks w (Some row) = if is_same w row then [] else listed (option_map (λ caller. (caller, command_of row)) (asker w row))

abbrev pub record_asks : World → Fields → List Asked
record_asks w fields = spelled_asks w (row_of fields)

-- what is asked for records in order, each of the World that stands before it
abbrev pub roll_asks : World → List Fields → List Asked
roll_asks w [] = []
roll_asks w (r ∷ rs) = record_asks w r ++ roll_asks (record_imported w r).world rs

-- ---- rows that stay

-- a row is same in a World
abbrev pub IsSame : World → RollRow → Type 0
IsSame w row = IsTrue (is_same w row)

-- the row of a record, if it wasn't refused
abbrev pub row_standing : Option RollRow → RowOutcome → List RollRow
row_standing (Some row) Added = row ∷ []
row_standing (Some row) Same = row ∷ []
row_standing row outcome = []

-- the rows of records that were added or found the same, in order
abbrev pub rows_standing : World → List Fields → List RollRow
rows_standing w [] = []
rows_standing w (r ∷ rs) = let now = record_imported w r in row_standing (row_of r) now.outcome ++ rows_standing now.world rs

-- the import of records that comes again, after commands
abbrev pub import_again : World → List Fields → List Asked → Import
import_again w records commands = import (steps (import w records).world commands).end records

-- ---- the texts of rolls

-- the header and these records of four fields begin a text, and leave this state and this rest
pub record BeginsRoll (text : List ℕ) (records : List Fields) (state : State) (rest : List ℕ) : Type 0 where
  pub reached : Reached default_config st.StartRecord (strip_bom text) (roll_header ∷ records) state rest
  pub fours : AllByRecursion (λ (r : Fields). length r ≡ 4) records

-- a text is the roll of these records
pub record IsRoll (text : List ℕ) (records : List Fields) : Type 0 where
  pub state : State
  pub rest : List ℕ
  pub begins : BeginsRoll text records state rest
  pub ends : next_record default_config state [] [] rest ≡ None

-- these are the first records of a text behind its header; none may be where the header is another
abbrev pub AreFirst : List ℕ → List Fields → Type 0
AreFirst text records = (records ≡ []) ⊎ ((state : State) × (rest : List ℕ) × BeginsRoll text records state rest)

-- the first record of a text, if there is one, isn't the header
pub record HasNoHeader (text : List ℕ) (rows : ℕ) : Type 0 where
  pub none : rows ≡ 0
  pub other : (p : Read) → next_record default_config st.StartRecord [] [] (strip_bom text) ≡ Some p → p.0 ≢ roll_header

-- a text begins with a header and so many records, and the next one has another number of fields than four
pub record HasOddRecord (text : List ℕ) (rows : ℕ) : Type 0 where
  pub records : List Fields
  pub state : State
  pub rest : List ℕ
  pub odd : Read
  pub begins : BeginsRoll text records state rest
  pub next : next_record default_config state [] [] rest ≡ Some odd
  pub fields : length odd.0 ≢ 4
  pub rows_before : length records ≡ rows

-- a text is no roll: it has no header, or an odd record behind so many rows
abbrev pub IsNoRoll : List ℕ → ℕ → Type 0
IsNoRoll text rows = HasNoHeader text rows ⊎ HasOddRecord text rows

-- ---- the import of a text

-- what stands after these records were imported into a World: their World, by a run of the commands of the rows, which
-- are values; and each row that was added or found the same is same in it
pub record StandsImported (Stands : World → Type 0) (w : World) (records : List Fields) : Type 0 where
  pub stands : Stands (import w records).world
  pub values : AllByRecursion IsAsked (roll_asks w records)
  pub run : (steps w (roll_asks w records)).end ≡ (import w records).world
  pub rows : AllByRecursion (IsSame (import w records).world) (rows_standing w records)

-- a row was imported into a World, if a record spells one: what stands is its World, this came of it, and what was asked
-- are values
pub record IsRowImported (Stands : World → Type 0) (w : World) (row : Option RollRow) (outcome : RowOutcome) : Type 0 where
  pub stands : Stands (spelled_imported w row).world
  pub outcome_is : outcome ≡ (spelled_imported w row).outcome
  pub values : AllByRecursion IsAsked (spelled_asks w row)

-- a record was imported into a World, and counted
pub record IsRecordImported (Stands : World → Type 0) (w : World) (fields : Fields) (before now : Tally) : Type 0 where
  pub stands : Stands (record_imported w fields).world
  pub counted : now ≡ tallied before (record_imported w fields).outcome
  pub values : AllByRecursion IsAsked (record_asks w fields)

-- a text was imported whole, with this tally
pub record IsImported (Stands : World → Type 0) (w : World) (text : List ℕ) (tally : Tally) : Type 0 where
  pub records : List Fields
  pub roll : IsRoll text records
  pub stands : StandsImported Stands w records
  pub counts : (import w records).tally ≡ tally

-- so many of the first records of a text were imported, and no other
pub record IsBroken (Stands : World → Type 0) (w : World) (text : List ℕ) (rows : ℕ) : Type 0 where
  pub records : List Fields
  pub first : AreFirst text records
  pub rows_before : length records ≡ rows
  pub stands : StandsImported Stands w records

-- so many rows were settled: all of them are kept, or as many as before, and then the World is what the last settle
-- left
pub record SettlesRows (old new : View) (all before done : ℕ) : Type 0 where
  pub lasts : old.harm ≤ new.harm
  pub ends : new.IsSettled
  pub keeps : HasSoundStore new → ((done ≡ all) × IsSure old × (new.world ≡ old.world)) ⊎ ((done ≡ before) × old.defers × (new.world ≡ old.base))
