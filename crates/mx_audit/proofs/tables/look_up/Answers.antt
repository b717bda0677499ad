use Rattle.mx_tables.proofs.Common.{arith}
use Rattle.mx_tables.proofs.CallLemmas.{reads_to, reads_then, reads_fault}
use Rattle.mx_audit.proofs.AuditLemmas.{both_none}
use Rattle.mx_audit.proofs.tables.look_up.Goals as goal

pub returns-in_err-laid : goal.returns-in_err-laid
returns-in_err-laid g c live = reads_fault g.S.Store (c.in_err-laid.ensures live) c.from_residual.ensures.0

pub returns-in_err-cleared : goal.returns-in_err-cleared
returns-in_err-cleared g c live =
    let laid = c.in_ok-laid.ensures live in
    reads_fault g.S.Store (reads_then g.S.Store laid (c.in_err-cleared.ensures laid.live)) c.from_residual-in_err-cleared.ensures.0

pub returns : goal.returns
returns g c live =
    let laid = c.in_ok-laid.ensures live in
    reads_to g.S.Store (reads_then g.S.Store laid (c.in_ok-cleared.ensures laid.live)) (λ r holds both purses details.
    both_none c.in_ok-laid.laid c.in_ok-cleared.cleared c.saturating_add.result (rw c.deref.ensures.value at (both.0 purses details)) (rw c.deref-2.ensures.value at (both.1 details)) (grind (arith, c.saturating_add.ensures)))
