use Rattle.mx_tables.proofs.CallLemmas.{asks_as, asks_more}
use Rattle.mx_tables.proofs.sums.row_adds.Goals as goal

pub returns-in-Counted-clause-asks : goal.returns-in-Counted-clause-asks
returns-in-Counted-clause-asks g c live = asks_more g.S.Store (asks_as g.S.Store (c.count_row.ensures.asks live) (λ r holds it. (it.0, rw c.in-Counted.is at it.1))) (λ rows holds n is purses entries. rw c.in-Counted.is is)

pub returns-in-Logged-clause-asks : goal.returns-in-Logged-clause-asks
returns-in-Logged-clause-asks g c live = asks_more g.S.Store (asks_as g.S.Store (c.lose_row.ensures.asks live) (λ r holds it. (it.0, rw c.in-Logged.is at it.1))) (λ rows holds n is purses entries. rw c.in-Logged.is (is purses entries))

pub returns-in-Waiting-clause-asks : goal.returns-in-Waiting-clause-asks
returns-in-Waiting-clause-asks g c live = asks_more g.S.Store (asks_as g.S.Store (c.await_row.ensures.asks live) (λ r holds it. (it.0, rw c.in-Waiting.is at it.1))) (λ r holds n is purses entries. rw c.in-Waiting.is (is purses entries.archive))

pub returns-in-Archived-clause-asks : goal.returns-in-Archived-clause-asks
returns-in-Archived-clause-asks g c live = asks_more g.S.Store (asks_as g.S.Store c.lose_result.ensures.asks (λ r holds it. (it.0, rw c.in-Archived.is at it.1))) (λ rows holds n is purses entries. rw c.in-Archived.is (is purses entries))
