use Rattle.mx_tables.proofs.CallLemmas.{reads_never, reads_to, reads_fault}
use Rattle.mx_audit.proofs.missing.tell_purse.Goals as goal

pub returns-in_err-crowded : goal.returns-in_err-crowded
returns-in_err-crowded g c live = reads_never g.S.Store c.from_residual.ensures.0

pub returns-in_err-tell_gap : goal.returns-in_err-tell_gap
returns-in_err-tell_gap g c live = reads_fault g.S.Store (c.in_err-tell_gap.ensures live) c.from_residual-in_err-tell_gap.ensures.0

pub returns : goal.returns
returns g c live = reads_to g.S.Store (c.in_ok-tell_gap.ensures live) (λ rows holds is. tt)
