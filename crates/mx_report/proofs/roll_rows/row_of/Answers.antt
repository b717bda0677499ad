use Rattle.std.proofs.Common.{◌∙◌, rules}
use Rattle.csv.specs.Records.{fields_of}
use Rattle.mx_report.proofs.RollLemmas.{odd_row, four_row}
use Rattle.mx_report.proofs.roll_rows.row_of.Goals as goal

pub returns-in_err-kind : goal.returns-in_err-kind
returns-in_err-kind c = search rules ∙ odd_row (fields_of c.args.entry.now) c.in_err-kind.ensures.none

pub returns : goal.returns
returns c = c.row_in.ensures ∙ four_row (fields_of c.args.entry.now) _ _ _ _ (rw c.in_ok-kind.was at c.four_fields.ensures.some)
