use Rattle.mx_tables.proofs.Common.{◌∙◌}
use Rattle.mx_tables.proofs.AddedLemmas.{grants_accepted, grants_shown}
use Rattle.mx_tables.proofs.CallLemmas.{asks_as, asks_fault, asks_ok, asks_wrong, reads_to}
use Rattle.mx_tables.proofs.CountedSums.{granted_summed, float_summed, select_grants_is}
use Rattle.mx_tables.proofs.sums.sum_grants.Goals as goal

pub ask-requires : goal.ask-requires
ask-requires g c = select_grants_is.query

pub returns-in_err-rows : goal.returns-in_err-rows
returns-in_err-rows g c = asks_fault g.S.Store (asks_as g.S.Store c.in_err-rows.ensures.asks (λ r holds it. grants_accepted _)) c.from_residual.ensures.1

pub returns-in_err-sum_column : goal.returns-in_err-sum_column
returns-in_err-sum_column g c = asks_wrong g.S.Store c.in_ok-rows.ensures.asks.reads c.from_residual-in_err-sum_column.ensures.0 (λ r holds it shown.
    absurd (let ok = c.in_err-sum_column.ensures.there (rw c.deref.ensures.value (grants_shown r it.0 it.1 _ _ _ shown holds).0) in cc))

pub returns-in_err-sum_column-2 : goal.returns-in_err-sum_column-2
returns-in_err-sum_column-2 g c = asks_wrong g.S.Store c.in_ok-rows.ensures.asks.reads c.from_residual-in_err-sum_column-2.ensures.0 (λ r holds it shown.
    absurd (let ok = c.in_err-sum_column-2.ensures.there (rw c.deref-2.ensures.value (grants_shown r it.0 it.1 _ _ _ shown holds).1) in cc))

pub returns : goal.returns
returns g c = asks_ok g.S.Store (reads_to g.S.Store c.in_ok-rows.ensures.asks.reads (λ r holds shown. (
  rw c.deref.ensures.value at c.in_ok-sum_column.ensures.is ∙ granted_summed _ _ _ shown r holds,
  rw c.deref-2.ensures.value at c.in_ok-sum_column-2.ensures.is ∙ float_summed _ _ _ shown r holds,
)))
