use Rattle.mx_tables.proofs.ThroughLemmas.{through_cache, through_less}
use Rattle.mx_tables.proofs.due.take_due.Goals as goal

pub returns-in-Some : goal.returns-in-Some
returns-in-Some g c = through_cache g.S.Store (λ r w s it. let both = c.take_due.ensures r it in (both.0 r.redemptions, rw c.in-Some.is at both.1))

pub returns-in-None : goal.returns-in-None
returns-in-None g c = through_less g.S.Store (λ r it. (c.take_due.ensures r it).0 r.redemptions) (c.list_due.ensures _)
