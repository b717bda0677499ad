use Rattle.std.proofs.Common.{◌≡◌, ◌++◌, drop, option_map}
use Rattle.mx_report.specs.Statement.{lines_text}
use Rattle.mx_report.proofs.statements.with_lines.Given as goal

abbrev pub invariant-loop-line : goal.invariant-loop-line
invariant-loop-line l = l.text ++ lines_text (option_map (λ p. p.now) l.purse) (drop l.line-index l.lines) ≡ l.fn.text ++ lines_text (option_map (λ p. p.now) l.purse) l.lines
