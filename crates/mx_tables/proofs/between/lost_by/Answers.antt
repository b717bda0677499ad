use Rattle.mx_tables.proofs.Common.{arith}
use Rattle.mx_tables.proofs.CallLemmas.{asks_fault, asks_more, asks_ok, asks_then, reads_to}
use Rattle.mx_tables.proofs.between.lost_by.Goals as goal

pub returns-then-settled-clause-asks : goal.returns-then-settled-clause-asks
returns-then-settled-clause-asks g c live = asks_ok g.S.Store (reads_to g.S.Store c.in_ok-settled.ensures.reads (λ r holds is purses entries. let found = is entries.settled in grind (arith, found)))

pub returns-else-settled-clause-asks : goal.returns-else-settled-clause-asks
returns-else-settled-clause-asks g c live = asks_more g.S.Store (asks_then g.S.Store c.in_ok-settled.ensures.reads c.value_left.ensures.asks) (λ r holds n both purses entries.
    let found = both.0 entries.settled in
    let left = both.1 purses entries.archive in
    grind (arith, found, left))

pub returns-in_err-settled-clause-asks : goal.returns-in_err-settled-clause-asks
returns-in_err-settled-clause-asks g c live = asks_fault g.S.Store c.in_err-settled.ensures c.from_residual.ensures.1
