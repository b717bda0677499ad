use Rattle.mx_tables.proofs.Common.{◌<◌, ◌≤◌, ◌∙◌, arith, length, refl, rules}
use Rattle.std.proofs.Common.{ap}
use Rattle.std.proofs.lemmas.List.{take_all}
use Rattle.std.specs.FinMap as fmap
use Rattle.std.specs.Prelude.{sum_by}
use Rattle.mx_memory.specs.Due.{amount_at}
use Rattle.mx_tables.proofs.CountedSums.{sum_more}
use Rattle.mx_tables.proofs.ThroughLemmas.{through_cache, through_more, through_read, through_stopped, through_then, through_to}
use Rattle.mx_tables.proofs.due.sum_amounts.Goals as goal

pub loop-key-init : goal.loop-key-init
loop-key-init g c = (λ k. through_cache g.S.Store (λ r w s it. (it, refl)), omega arith)

pub loop-key-preserved : goal.loop-key-preserved
loop-key-preserved g c =
    let within : c.loop-key.key-index < length c.args.keys.now = search rules in (
      λ k. through_to g.S.Store (through_then g.S.Store (c.loop-key.invariant.0 k) (through_read g.S.Store {k = k} c.in_ok-amount.ensures.asks (λ r w s x is. is))) (λ r w s both.
          sum_more (λ key. amount_at (fmap.get r.redemptions key)) c.args.keys.now c.loop-key.key-index c.key-item.result c.loop-key.sum c.in_ok-amount.amount _ within c.key-item.is both.0 both.1 refl),
      omega (arith, c.loop-key.invariant.1, c.in_ok-amount.ensures.small),
    )

pub returns-in_err-amount : goal.returns-in_err-amount
returns-in_err-amount g c k =
    through_more g.S.Store (through_then g.S.Store (c.loop-key.invariant.0 k) (through_stopped g.S.Store {k = k} c.in_err-amount.ensures.asks c.from_residual.ensures.1)) (λ r w s x both. both.1)

pub returns : goal.returns
returns g c k =
    let past : length c.args.keys.now ≤ c.loop-key.key-index = search rules in
    through_to g.S.Store (c.loop-key.invariant.0 k) (λ r w s it. it ∙ ap (sum_by (λ key. amount_at (fmap.get r.redemptions key))) (take_all c.loop-key.key-index c.args.keys.now past))
