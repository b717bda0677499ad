use Rattle.std.proofs.Common.{◌∙◌, rules}
use Rattle.mx_report.proofs.StatementLemmas.{whole_statement}
use Rattle.mx_report.proofs.statements.statement.Goals as goal

pub returns-clause-value : goal.returns-clause-value
returns-clause-value g c = λ sure. search rules ∙ whole_statement (g.B.Book.view c.args.book.now).world _ (search rules)
