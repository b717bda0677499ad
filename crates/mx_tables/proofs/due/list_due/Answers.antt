use Rattle.mx_tables.proofs.CollectLemmas.{due_listed}
use Rattle.mx_tables.proofs.ThroughLemmas.{through_more, through_read, through_stopped, through_then}
use Rattle.mx_tables.proofs.due.list_due.Goals as goal

pub returns-in_err-keys : goal.returns-in_err-keys
returns-in_err-keys g c k = through_stopped g.S.Store c.in_err-keys.ensures c.from_residual.ensures.1

pub returns : goal.returns
returns g c k = through_more g.S.Store (through_then g.S.Store (through_read g.S.Store {k = k} c.in_ok-keys.ensures (λ r w s x is. is)) (c.index_keys.ensures k))
    (λ r w s due both. due_listed r w s _ (rw (← c.deref.ensures.value) at both.0) _ both.1)
