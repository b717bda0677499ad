use Rattle.std.proofs.Common.{◌≡◌, ◌+◌, drop}
use Rattle.mx_report.specs.Even.{ends_at, is_even_statement}
use Rattle.mx_report.proofs.even.is_even_statement.Given as goal

abbrev pub invariant-loop-line : goal.invariant-loop-line
invariant-loop-line l = record {
  counts : l.number ≡ l.line-index;
  rest : ends_at (l.number + 1) l.last (drop l.line-index l.lines) l.fn.balance ≡ is_even_statement l.lines l.fn.balance;
}
