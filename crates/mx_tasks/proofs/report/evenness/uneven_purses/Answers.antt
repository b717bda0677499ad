-- Each purse adds its line.
use Rattle.std.proofs.Common.{◌∙◌, ap, rules, string_bytes}
use Rattle.mx_book.proofs.StandLemmas.{sure_before}
use Rattle.mx_tasks.specs.Evenness.{uneven_purse}
use Rattle.mx_report.proofs.TextLemmas.{row_more, rows_done}
use Rattle.mx_tasks.proofs.report.evenness.uneven_purses.Goals as goal

pub loop-purse-preserved : goal.loop-purse-preserved
loop-purse-preserved g c = record {
  keeps = search rules;
  lines = λ sure.
      let before = sure_before c.uneven_purse.ensures.keeps.later sure in
      let line = c.in_ok-line.ensures.value sure ∙ ap (λ w. uneven_purse w c.purse-item.result) (c.loop-purse.invariant.keeps.same before) in
      row_more (uneven_purse (g.B.Book.view c.args.book.now).world) c.args.purses.now c.loop-purse.purse-index c.purse-item.result (string_bytes c.loop-purse.text) c.as_str.result.now c.loop-purse-test.true
      (c.loop-purse.invariant.lines before) (c.as_str.ensures.value ∙ line ∙ ap (uneven_purse (g.B.Book.view c.args.book.now).world) c.purse-item.is) c.in_ok-push_str.ensures.bytes;
}

pub returns-clause-value : goal.returns-clause-value
returns-clause-value g c = λ sure.
    rows_done (uneven_purse (g.B.Book.view c.args.book.now).world) c.args.purses.now c.loop-purse.purse-index (string_bytes c.loop-purse.text) c.loop-purse-test.false (c.loop-purse.invariant.lines sure)
