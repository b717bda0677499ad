use Rattle.mx_tables.proofs.Common.{arith}
use Rattle.mx_tables.proofs.CallLemmas.{asks_fault, asks_ok, asks_then, reads_then, reads_to}
use Rattle.mx_tables.proofs.between.value_left.Goals as goal

pub returns-in_err-row-clause-asks : goal.returns-in_err-row-clause-asks
returns-in_err-row-clause-asks g c = asks_fault g.S.Store c.in_err-row.ensures c.from_residual.ensures.1

pub returns-in_err-found-clause-asks : goal.returns-in_err-found-clause-asks
returns-in_err-found-clause-asks g c =
    asks_fault g.S.Store (asks_then g.S.Store c.in_ok-row.ensures.reads c.in_err-found.ensures) c.from_residual-in_err-found.ensures.1

pub returns-then-has_sent-clause-asks : goal.returns-then-has_sent-clause-asks
returns-then-has_sent-clause-asks g c = asks_ok g.S.Store (reads_to g.S.Store c.in_ok-row.ensures.reads (λ r holds is purses archive. let row = is purses in grind (arith, row)))

pub returns-then-found-clause-asks : goal.returns-then-found-clause-asks
returns-then-found-clause-asks g c = asks_ok g.S.Store (reads_to g.S.Store (reads_then g.S.Store c.in_ok-row.ensures.reads c.in_ok-found.ensures.reads) (λ r holds both purses archive.
    let row = both.0 purses in
    let found = both.1 archive in
    grind (arith, row, found)))

pub returns-else-found-clause-asks : goal.returns-else-found-clause-asks
returns-else-found-clause-asks g c = asks_ok g.S.Store (reads_to g.S.Store (reads_then g.S.Store c.in_ok-row.ensures.reads c.in_ok-found.ensures.reads) (λ r holds both purses archive.
    let row = both.0 purses in
    let found = both.1 archive in
    grind (arith, row, found)))
