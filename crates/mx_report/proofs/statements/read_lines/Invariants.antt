use Rattle.std.proofs.Common.{◌≡◌}
use Rattle.mx_book.specs.Views.{Keeps}
use Rattle.mx_report.proofs.StatementLemmas.{AreRead}
use Rattle.mx_report.specs.Statement.{own_lines}
use Rattle.mx_report.proofs.statements.read_lines.Given as goal

abbrev pub invariant-pages : goal.invariant-pages
invariant-pages g l = let show = g.B.Book.view in record {
  keeps : Keeps (show l.fn.book) (show l.book);
  read : (show l.book).doubt ≡ 0 → AreRead (own_lines (show l.fn.book).world l.purse) l.lines.items;
}
