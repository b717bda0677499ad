use Rattle.std.proofs.Common.{sym}
use Rattle.mx_tables.proofs.CallLemmas.{asks_fault, asks_ok, reads_none, reads_to}
use Rattle.mx_tables.proofs.Common.{refl}
use Rattle.mx_tables.proofs.sums.counts.Goals as goal

pub returns-in_ok-find_member_at-in-Member : goal.returns-in_ok-find_member_at-in-Member
returns-in_ok-find_member_at-in-Member g c live = asks_ok g.S.Store (reads_to g.S.Store c.in_ok-find_member_at-in-Member.ensures.reads (λ r holds is. rw (c.in-Member.is, sym is) c.is_of.ensures))

pub returns-in-Scheme : goal.returns-in-Scheme
returns-in-Scheme g c live = asks_ok g.S.Store (reads_none g.S.Store live (λ r holds. rw c.in-Scheme.is refl))

pub returns-in_err-find_member_at-in-Member : goal.returns-in_err-find_member_at-in-Member
returns-in_err-find_member_at-in-Member g c live = asks_fault g.S.Store c.in_err-find_member_at-in-Member.ensures c.from_residual.ensures.1
