use Rattle.mx_tables.proofs.CallLemmas.{asks_fault, asks_more, asks_then, reads_then}
use Rattle.mx_tables.proofs.member_sums.add_all.Goals as goal

pub returns-in_err-add_amounts : goal.returns-in_err-add_amounts
returns-in_err-add_amounts g c = asks_fault g.S.Store c.in_err-add_amounts.ensures c.from_residual.ensures.1

pub returns-in_err-add_amounts-2 : goal.returns-in_err-add_amounts-2
returns-in_err-add_amounts-2 g c = asks_fault g.S.Store (asks_then g.S.Store c.in_ok-add_amounts.ensures.reads c.in_err-add_amounts-2.ensures) c.from_residual-in_err-add_amounts-2.ensures.1

pub returns-in_err-add_amounts-3 : goal.returns-in_err-add_amounts-3
returns-in_err-add_amounts-3 g c = asks_fault g.S.Store (asks_then g.S.Store (reads_then g.S.Store c.in_ok-add_amounts.ensures.reads c.in_ok-add_amounts-2.ensures.reads) c.in_err-add_amounts-3.ensures) c.from_residual-in_err-add_amounts-3.ensures.1

pub returns : goal.returns
returns g c =
    asks_more g.S.Store
    (asks_then g.S.Store (reads_then g.S.Store (reads_then g.S.Store c.in_ok-add_amounts.ensures.reads c.in_ok-add_amounts-2.ensures.reads) c.in_ok-add_amounts-3.ensures.reads) c.add_amounts-4.ensures)
    (λ r holds x all m k. record { uncollected = all.0.0.0 m k; issued = all.0.0.1 m k; redeemed = all.0.1 m k; balances = all.1 m k })
