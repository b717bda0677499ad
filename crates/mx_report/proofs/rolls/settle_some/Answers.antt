use Rattle.std.proofs.Common.{inr, arith}
use Rattle.std.proofs.lemmas.Result.{IfOk-weaker}
use Rattle.mx_report.proofs.RoundLemmas.{on_err}
use Rattle.mx_report.proofs.rolls.settle_some.Goals as goal

pub returns-clause-ok : goal.returns-clause-ok
returns-clause-ok g c = IfOk-weaker c.settle_rows.result _ _ (λ n is. inr (is, c.settle_rows.ensures.settles)) c.settle_rows.ensures.all

pub returns-clause-err : goal.returns-clause-err
returns-clause-err g c = on_err c.settle_rows.result _ c.settle_rows.ensures.settles

pub returns-clause-within : goal.returns-clause-within
returns-clause-within g c = IfOk-weaker c.settle_rows.result _ _ (λ n is. omega arith) c.settle_rows.ensures.all
