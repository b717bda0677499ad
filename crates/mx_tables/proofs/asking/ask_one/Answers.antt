use Rattle.mx_tables.proofs.Common.{arith, IfOk-weaker}
use Rattle.std.proofs.Common.{subst}
use Rattle.std.proofs.lemmas.Result.{IfErr-weaker}
use Rattle.sqlite.specs.State.{Shown}
use Rattle.mx_tables.proofs.CallLemmas.{asks_as, asks_by, asks_fault}
use Rattle.mx_tables.proofs.asking.ask_one.Goals as goal

pub returns-in_err-ask : goal.returns-in_err-ask
returns-in_err-ask g c = asks_fault g.S.Store (asks_as g.S.Store c.in_err-ask.ensures.asks (λ r holds it. it.accepts)) c.from_residual.ensures.1

pub returns : goal.returns
returns g c = asks_by g.S.Store c.in_ok-ask.ensures.asks.reads (λ r holds shown. IfOk-weaker c.only.result _ _ (λ row one. subst (Shown _ _ _ _) one shown) c.only.ensures.one)
    (λ r holds it shown. IfErr-weaker c.only.result _ _ (λ e two. absurd (let one = it.few _ shown in omega (arith, one, two))) c.only.ensures.more)
