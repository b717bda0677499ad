use Rattle.mx_tables.proofs.ThroughLemmas.{through_cache, through_less, through_read}
use Rattle.mx_tables.proofs.owners.take_owners.Goals as goal

pub returns-in-Some : goal.returns-in-Some
returns-in-Some g c = through_cache g.S.Store (λ rows w s it. let both = c.take_owners.ensures rows it in (both.0, rw c.in-Some.is at both.1))

pub returns-in-None : goal.returns-in-None
returns-in-None g c = through_less g.S.Store (λ rows it. (c.take_owners.ensures rows it).0) (through_read g.S.Store c.list_owners.ensures (λ rows w s held is. is))
