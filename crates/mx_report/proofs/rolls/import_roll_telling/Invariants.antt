use Rattle.std.proofs.Common.{◌≤◌}
use Rattle.mx_report.specs.Import.{rows_counted, tally_of}
use Rattle.mx_report.proofs.RoundLemmas.{ComeTo, Round}
use Rattle.mx_report.proofs.rolls.import_roll_telling.Given as goal

abbrev pub invariant-loop-record : goal.invariant-loop-record
invariant-loop-record g l = let show = g.B.Book.view in record {
  within : l.kept ≤ rows_counted (tally_of l.report);
  come : ComeTo l.fn.bytes (show l.fn.office.book) (show l.office.book) l.record-iterator (tally_of l.report);
  round : (show l.fn.office.book).IsSettled → Round show l.fn.bytes (show l.fn.office.book) (show l.office.book) l.kept;
}
