use Rattle.std.proofs.Common.{rules, refl}
use Rattle.mx_book.proofs.StandLemmas.{sure_before}
use Rattle.mx_book.proofs.ViewLemmas.{keeps_none, keeps_then}
use Rattle.mx_report.proofs.StatementLemmas.{all_read, more_read}
use Rattle.mx_report.specs.Statement.{own_lines}
use Rattle.mx_report.proofs.statements.read_lines.Goals as goal

pub pages-init : goal.pages-init
pages-init g c = record {
  keeps = keeps_none _;
  read = λ sure. record { rest = own_lines (g.B.Book.view c.args.book.now).world c.args.purse; whole = rw c.new-lines.ensures.items refl };
}

pub pages-preserved : goal.pages-preserved
pages-preserved g c = record {
  keeps = keeps_then c.pages.invariant.keeps c.lines.ensures.keeps;
  read = λ sure.
      let before = sure_before c.lines.ensures.keeps.later sure in
      let w = (g.B.Book.view c.args.book.now).world in
      let world = (g.met.B.Book.lawful c.args.book.now).sound (sure_before c.pages.invariant.keeps.later before) in
      let value = rw (c.pages.invariant.keeps.same before) at (c.in_ok-page.ensures.value sure) in
      more_read w c.args.purse c.pages.lines.items c.in_ok-page.page.items _ _ world (c.pages.invariant.read before) (search rules) value (search rules);
}

pub returns-then-len-lt-MOST_LINES-clause-value : goal.returns-then-len-lt-MOST_LINES-clause-value
returns-then-len-lt-MOST_LINES-clause-value g c = λ sure.
    let before = sure_before c.lines.ensures.keeps.later sure in
    let w = (g.B.Book.view c.args.book.now).world in
    let world = (g.met.B.Book.lawful c.args.book.now).sound (sure_before c.pages.invariant.keeps.later before) in
    let value = rw (c.pages.invariant.keeps.same before) at (c.in_ok-page.ensures.value sure) in
    all_read w c.args.purse c.pages.lines.items c.in_ok-page.page.items _ _ world (c.pages.invariant.read before) (search rules) value (search rules) (search rules)
