use Rattle.std.proofs.Common.{◌≡◌, ◌∙◌, false, rules, sym}
use Rattle.mx_report.specs.Even.{is_even_purse}
use Rattle.mx_tasks.proofs.report.evenness.uneven_purse.Goals as goal

pub returns-clause-value : goal.returns-clause-value
returns-clause-value g c = λ sure.
    let odd : is_even_purse (g.B.Book.view c.args.book.now).world c.args.purse ≡ false = sym (c.in_ok-report_text.ensures.value sure).1 ∙ c.if-branch.false in
    rw odd (search rules)
