use Rattle.mx_tables.proofs.CallLemmas.{asks_fault, asks_ok, asks_then, reads_then, reads_to}
use Rattle.mx_tables.proofs.sums.sum_all.Goals as goal

pub returns-in_err-sum_of : goal.returns-in_err-sum_of
returns-in_err-sum_of g c = asks_fault g.S.Store c.in_err-sum_of.ensures.asks c.from_residual.ensures.1

pub returns-in_err-sum_of-2 : goal.returns-in_err-sum_of-2
returns-in_err-sum_of-2 g c =
    asks_fault g.S.Store (asks_then g.S.Store c.in_ok-sum_of.ensures.asks.reads c.in_err-sum_of-2.ensures.asks) c.from_residual-in_err-sum_of-2.ensures.1

pub returns-in_err-sum_of-3 : goal.returns-in_err-sum_of-3
returns-in_err-sum_of-3 g c =
    asks_fault g.S.Store
    (asks_then g.S.Store (reads_then g.S.Store c.in_ok-sum_of.ensures.asks.reads c.in_ok-sum_of-2.ensures.asks.reads) c.in_err-sum_of-3.ensures.asks)
    c.from_residual-in_err-sum_of-3.ensures.1

pub returns-in_err-sum_of-4 : goal.returns-in_err-sum_of-4
returns-in_err-sum_of-4 g c =
    asks_fault g.S.Store
    (asks_then g.S.Store (reads_then g.S.Store (reads_then g.S.Store c.in_ok-sum_of.ensures.asks.reads c.in_ok-sum_of-2.ensures.asks.reads) c.in_ok-sum_of-3.ensures.asks.reads) c.in_err-sum_of-4.ensures.asks)
    c.from_residual-in_err-sum_of-4.ensures.1

pub returns : goal.returns
returns g c =
    asks_ok g.S.Store (reads_to g.S.Store (reads_then g.S.Store (reads_then g.S.Store (reads_then g.S.Store c.in_ok-sum_of.ensures.asks.reads c.in_ok-sum_of-2.ensures.asks.reads) c.in_ok-sum_of-3.ensures.asks.reads) c.in_ok-sum_of-4.ensures.asks.reads)
    (λ rows holds all purses entries k. record {
      uncollected = all.0.0.0 purses entries k;
      issued = all.0.0.1 purses entries k;
      redeemed = all.0.1 purses entries k;
      balances = all.1 purses entries k;
    }))
