-- How a reader of the crate csv stands in the text of a roll.
use Rattle.std.specs.Prelude.{◌≡◌, ◌<◌, ℕ, Bool, List, Option, Some}
use Rattle.std.specs.Borrow.{Bor}
use Rattle.csv.specs.Reading.{Ready, Reached, default_config, expected_len, is_flexible, owned_rows_left, owned_rows_reader, reader_config, reader_state, reader_trim, source_of, strip_bom}
use Rattle.csv.specs.declared.error.ErrorKind.{ErrorKind}
use Rattle.csv.specs.declared.error.ErrorKind.TheVariants as error
use Rattle.csv.specs.declared.iter.ByteRecordsIntoIter.{ByteRecordsIntoIter}
use Rattle.csv.specs.declared.parser.State.TheVariants as st
use Rattle.csv.specs.declared.reader.Trim.TheVariants as trim
use Rattle.mx_book.specs.declared.contract.StoreFault.{StoreFault}
use Rattle.mx_book.specs.declared.contract.StoreFault.TheVariants as fault
use Rattle.mx_report.specs.declared.rolls.RollFaultKind.{RollFaultKind}
use Rattle.mx_report.specs.declared.rolls.RollFaultKind.TheVariants.{NotRoll, Memory, Store}
use Rattle.mx_report.specs.Roll.{Fields}

-- the records of a text
abbrev pub Records : Type 0
Records = ByteRecordsIntoIter (Bor (List ℕ))

-- a reader has given these records of a text, and the next one is to have so many fields
pub record HasGiven (text : List ℕ) (given : List Fields) (expected : Option ℕ) (r : Records) : Type 0 where
  pub trim : reader_trim (owned_rows_reader r) ≡ trim.None
  pub ready : Ready (owned_rows_reader r)
  pub left : 0 < owned_rows_left r
  pub config : reader_config (owned_rows_reader r) ≡ default_config
  pub strict : is_flexible (owned_rows_reader r) ≡ Bool.false
  pub fields : expected_len (owned_rows_reader r) ≡ expected
  pub rest : List ℕ
  pub source : source_of (λ (s : Bor (List ℕ)). Some s.now) (owned_rows_reader r) ≡ Some rest
  pub reached : Reached default_config st.StartRecord (strip_bom text) given (reader_state (owned_rows_reader r)) rest

-- what a record that csv refuses comes to: another number of fields, or want of memory
abbrev pub record_fault : ErrorKind → RollFaultKind
record_fault (error.UnequalLengths pos expected len) = NotRoll
record_fault kind = Memory

-- what a fault of the book comes to
abbrev pub book_fault : StoreFault → RollFaultKind
book_fault fault.Memory = Memory
book_fault fault.Store = Store
