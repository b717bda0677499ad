use Rattle.std.proofs.Common.{arith, sym}
use Rattle.csv.specs.Records.{fields_of}
use Rattle.csv.proofs.RecordFacts.{field-there}
use Rattle.mx_report.proofs.RollLemmas.{four_at}
use Rattle.mx_report.proofs.roll_rows.four_fields.Goals as goal

pub returns-in_err-get-clause-none : goal.returns-in_err-get-clause-none
returns-in_err-get-clause-none c = absurd (field-there (fields_of c.args.entry.now) 0 (omega arith) (sym c.in_err-get.ensures.value))

pub returns-in_err-get-2-clause-none : goal.returns-in_err-get-2-clause-none
returns-in_err-get-2-clause-none c = absurd (field-there (fields_of c.args.entry.now) 1 (omega arith) (sym c.in_err-get-2.ensures.value))

pub returns-in_err-get-3-clause-none : goal.returns-in_err-get-3-clause-none
returns-in_err-get-3-clause-none c = absurd (field-there (fields_of c.args.entry.now) 2 (omega arith) (sym c.in_err-get-3.ensures.value))

pub returns-in_err-get-4-clause-none : goal.returns-in_err-get-4-clause-none
returns-in_err-get-4-clause-none c = absurd (field-there (fields_of c.args.entry.now) 3 (omega arith) (sym c.in_err-get-4.ensures.value))

pub returns-clause-some : goal.returns-clause-some
returns-clause-some c =
    four_at (fields_of c.args.entry.now) _ _ _ _ (omega arith) c.in_ok-get.ensures.value c.in_ok-get-2.ensures.value c.in_ok-get-3.ensures.value c.in_ok-get-4.ensures.value
