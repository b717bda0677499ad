use Rattle.std.proofs.Common.{arith}
use Rattle.mx_tables.proofs.CallLemmas.{reads_to, reads_then}
use Rattle.mx_audit.proofs.look.is_laid_well.Goals as goal

pub returns-then-not-is_logged : goal.returns-then-not-is_logged
returns-then-not-is_logged g c = reads_to g.S.Store c.in_ok-row.ensures.reads (λ r holds is purses archive. let row = is purses in grind (arith, row))

pub returns : goal.returns
returns g c = reads_to g.S.Store (reads_then g.S.Store c.in_ok-row.ensures.reads c.in_ok-archived.ensures.reads) (λ r holds both purses archive.
    let row = both.0 purses in
    let found = both.1 archive in
    grind (arith, row, found))
