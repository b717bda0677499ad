use Rattle.mx_tables.proofs.Common.{refl}
use Rattle.std.proofs.Common.{sym}
use Rattle.mx_tables.proofs.CallLemmas.{asks_as, asks_fault, asks_never, asks_ok, reads_to}
use Rattle.mx_tables.proofs.sums.count_row.Goals as goal

pub returns-then-counted-clause-asks : goal.returns-then-counted-clause-asks
returns-then-counted-clause-asks g c live = asks_ok g.S.Store (reads_to g.S.Store (c.in_ok-counted.ensures live).reads (λ r holds is. rw (c.in_ok-purse.ensures.is, c.in_ok-number.ensures.shown, sym is, c.if-counted.true) refl))

pub returns-else-counted-clause-asks : goal.returns-else-counted-clause-asks
returns-else-counted-clause-asks g c live = asks_ok g.S.Store (reads_to g.S.Store (c.in_ok-counted.ensures live).reads (λ r holds is. rw (c.in_ok-purse.ensures.is, sym is, c.if-counted.false) refl))

pub returns-in_err-purse-clause-asks : goal.returns-in_err-purse-clause-asks
returns-in_err-purse-clause-asks g c live = asks_never g.S.Store c.from_residual.ensures.0 (λ r holds it. absurd (let ok = c.in_err-purse.ensures.there it.1.0.0 it.1.1.0 it.1.2.0 in cc))

pub returns-in_err-number-clause-asks : goal.returns-in_err-number-clause-asks
returns-in_err-number-clause-asks g c live = asks_never g.S.Store c.from_residual-in_err-number.ensures.0 (λ r holds it. absurd (let ok = c.in_err-number.ensures.there it.1.0.1 it.1.1.1 it.1.2.1.0 in cc))

pub returns-in_err-counted-clause-asks : goal.returns-in_err-counted-clause-asks
returns-in_err-counted-clause-asks g c live = asks_fault g.S.Store (asks_as g.S.Store (c.in_err-counted.ensures live) (λ r holds it. it.0)) c.from_residual-in_err-counted.ensures.1
