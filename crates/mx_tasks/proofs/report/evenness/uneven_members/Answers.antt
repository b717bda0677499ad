-- Each member adds its line.
use Rattle.std.proofs.Common.{◌∙◌, ap, string_bytes}
use Rattle.mx_tasks.specs.Evenness.{uneven_member}
use Rattle.mx_report.proofs.TextLemmas.{row_more, rows_done}
use Rattle.mx_tasks.proofs.report.evenness.uneven_members.Goals as goal

pub loop-member-preserved : goal.loop-member-preserved
loop-member-preserved c =
    row_more uneven_member c.args.members.now c.loop-member.member-index c.member-item.result (string_bytes c.loop-member.text) c.as_str.result.now c.loop-member-test.true
    c.loop-member.invariant (c.as_str.ensures.value ∙ c.in_ok-line.ensures ∙ ap uneven_member c.member-item.is) c.in_ok-push_str.ensures.bytes

pub returns : goal.returns
returns c = rows_done uneven_member c.args.members.now c.loop-member.member-index (string_bytes c.loop-member.text) c.loop-member-test.false c.loop-member.invariant
