use Rattle.std.proofs.Common.{◌∙◌}
use Rattle.std.proofs.lemmas.Result.{IfOk-weaker}
use Rattle.mx_report.specs.Roll.{is_same}
use Rattle.mx_report.proofs.RowLemmas.{own_is_holders}
use Rattle.mx_report.proofs.rolls.is_same.Goals as goal

pub returns-in-Purse-clause-value : goal.returns-in-Purse-clause-value
unfolding is_same
returns-in-Purse-clause-value g c = λ sure.
    rw c.in-Purse.is (IfOk-weaker c.is_own.result _ _ (λ b h. h ∙ own_is_holders (g.B.Book.view c.args.book.now).world c.in-Purse.holder c.in-Purse.purse) (c.is_own.ensures.value sure))
