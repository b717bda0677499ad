-- Each purse adds its statement.
use Rattle.std.proofs.Common.{◌∙◌, Some, ap, sym, take}
use Rattle.std.specs.Prelude.{◌&&◌}
use Rattle.std.specs.List.{list_all}
use Rattle.std.proofs.lemmas.List.Folds.{list_all_more}
use Rattle.mx_book.proofs.StandLemmas.{sure_before}
use Rattle.mx_book.proofs.ViewLemmas.{keeps_then}
use Rattle.mx_report.specs.Even.{is_even_purse}
use Rattle.mx_report.specs.Statement.{lines_text, own_lines}
use Rattle.mx_report.proofs.TextLemmas.{row_more}
use Rattle.mx_report.proofs.statements.all_statements.Goals as goal

pub loop-purse-preserved : goal.loop-purse-preserved
loop-purse-preserved g c =
    let so_far = c.loop-purse.invariant in
    let told = c.with_statement.ensures in
    let w = (g.B.Book.view c.args.book.now).world in
    let purse = c.purse-item.result in
    record {
      keeps = keeps_then so_far.keeps told.keeps;
      names = λ sure. so_far.names (sure_before told.keeps.later sure);
      text = λ sure.
          let before = sure_before told.keeps.later sure in
          let value = rw (so_far.keeps.same before) at (c.in_ok-longer.ensures.value sure) in
          row_more (λ p. lines_text (Some p) (own_lines w p)) c.deref-purse-items.result.now c.loop-purse.purse-index purse c.loop-purse.text (lines_text (Some purse) (own_lines w purse)) c.loop-purse-test.true
          (so_far.text before) (ap (λ p. lines_text (Some p) (own_lines w p)) c.purse-item.is) value.0;
      even = λ sure.
          let before = sure_before told.keeps.later sure in
          let value = rw (so_far.keeps.same before) at (c.in_ok-longer.ensures.value sure) in
          let more = list_all_more (is_even_purse w) c.deref-purse-items.result.now c.loop-purse.purse-index purse c.loop-purse-test.true in
          let here = value.1 ∙ ap (is_even_purse w) c.purse-item.is in
          ap (λ b. b && c.in_ok-longer.is_even) (so_far.even before) ∙ ap (λ b. list_all (is_even_purse w) (take c.loop-purse.purse-index c.deref-purse-items.result.now) && b) here ∙ sym more;
    }
