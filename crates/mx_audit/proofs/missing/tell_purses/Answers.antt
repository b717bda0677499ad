use Rattle.mx_tables.proofs.CallLemmas.{reads_none, reads_to, reads_then, reads_fault}
use Rattle.mx_audit.proofs.missing.tell_purses.Goals as goal

pub loop-row-init : goal.loop-row-init
loop-row-init g c live = reads_none g.S.Store live (λ rows holds. tt)

pub loop-row-preserved : goal.loop-row-preserved
loop-row-preserved g c live =
    let before = c.loop-row.invariant live in
    reads_to g.S.Store (reads_then g.S.Store before (c.in_ok-more.ensures before.live)) (λ rows holds both. tt)

pub returns : goal.returns
returns g c live = reads_to g.S.Store (c.loop-row.invariant live) (λ rows holds is. tt)

pub returns-in_err-more : goal.returns-in_err-more
returns-in_err-more g c live =
    let before = c.loop-row.invariant live in
    reads_fault g.S.Store (reads_then g.S.Store before (c.in_err-more.ensures before.live)) c.from_residual.ensures.0
