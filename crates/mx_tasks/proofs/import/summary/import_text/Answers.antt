-- Each row adds its line.
use Rattle.std.proofs.Common.{◌∙◌, string_bytes}
use Rattle.mx_tasks.specs.Texts.{row_line}
use Rattle.mx_report.proofs.TextLemmas.{row_more, rows_done}
use Rattle.mx_tasks.proofs.import.summary.import_text.Goals as goal

pub loop-row-preserved : goal.loop-row-preserved
loop-row-preserved c =
    row_more row_line c.as_slice-rows.result.now c.loop-row.row-index _ (string_bytes c.loop-row.text) c.as_str.result.now c.loop-row-test.true
    c.loop-row.invariant (c.as_str.ensures.value ∙ c.in_ok-line.ensures) c.in_ok-push_str.ensures.bytes

pub returns : goal.returns
returns c = rows_done row_line c.as_slice-rows.result.now c.loop-row.row-index (string_bytes c.loop-row.text) c.loop-row-test.false c.loop-row.invariant
