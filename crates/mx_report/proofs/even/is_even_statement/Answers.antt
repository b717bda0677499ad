use Rattle.std.proofs.Common.{rules, ◌∙◌, ◌+◌, sym, arith}
use Rattle.mx_report.proofs.EvenLemmas.{ends_all, ends_more}
use Rattle.mx_report.proofs.even.is_even_statement.Goals as goal

pub returns-then-line-number : goal.returns-then-line-number
returns-then-line-number c =
    let more = ends_more c.args.lines.now c.loop-line.line-index (c.loop-line.number + 1) c.loop-line.last c.args.balance
    c.line-item.result c.loop-line-test.true c.line-item.is in
    grind (arith, more, c.loop-line.invariant.rest, c.if-line-number.true)

pub loop-line-preserved : goal.loop-line-preserved
loop-line-preserved c =
    let more = ends_more c.args.lines.now c.loop-line.line-index (c.loop-line.number + 1) c.loop-line.last c.args.balance
    c.line-item.result c.loop-line-test.true c.line-item.is in
    record {
      counts = search rules;
      rest = grind (arith, more, c.loop-line.invariant.rest, c.if-line-number.false);
    }

pub returns : goal.returns
returns c =
    sym (ends_all c.args.lines.now c.loop-line.line-index (c.loop-line.number + 1) c.loop-line.last c.args.balance
    c.loop-line-test.false) ∙ c.loop-line.invariant.rest
