use Rattle.std.proofs.Common.{rules, arith, ◌<◌, ◌≤◌, length}
use Rattle.mx_book.specs.RowReads.{row_is_archived}
use Rattle.mx_tables.proofs.CallLemmas.{reads_fault, reads_to, reads_then}
use Rattle.mx_audit.proofs.LookLemmas.{one_well, one_wrong, all_found}
use Rattle.mx_audit.proofs.look.look_up_cleared.Goals.{then-not-archived+in_ok-tell, else-not-archived}
use Rattle.mx_audit.proofs.look.look_up_cleared.Goals as goal

pub loop-purse-preserved : goal.loop-purse-preserved
loop-purse-preserved g c live =
    let within : c.loop-purse.purse-index < length c.args.cleared.now = search rules in
    reads_to g.S.Store (reads_then g.S.Store (c.loop-purse.invariant live) c.in_ok-archived.ensures.reads) (λ r holds both archive.
    let found = both.1 archive in
    elim c.if-not-archived.branch [
      | then-not-archived+in_ok-tell w ↦ one_wrong (λ e. row_is_archived r e.0 e.1) c.args.cleared.now _ c.loop-purse-item.result _ within c.loop-purse-item.is (grind (arith, found)) (omega arith)
      | else-not-archived w ↦ rw w.found-is (one_well (λ e. row_is_archived r e.0 e.1) c.args.cleared.now _ c.loop-purse-item.result _ within c.loop-purse-item.is (grind (arith, found)) (both.0 archive))
    ])

pub returns : goal.returns
returns g c live =
    let past : length c.args.cleared.now ≤ c.loop-purse.purse-index = search rules in
    reads_to g.S.Store (c.loop-purse.invariant live) (λ r holds is archive. all_found (λ e. row_is_archived r e.0 e.1) c.args.cleared.now _ _ past (is archive))

pub returns-in_err-archived : goal.returns-in_err-archived
returns-in_err-archived g c live =
    reads_fault g.S.Store (reads_then g.S.Store (c.loop-purse.invariant live) c.in_err-archived.ensures.reads) c.from_residual.ensures.0

pub returns-in_err-tell : goal.returns-in_err-tell
returns-in_err-tell g c live =
    reads_fault g.S.Store (reads_then g.S.Store (c.loop-purse.invariant live) c.in_ok-archived.ensures.reads) c.from_residual-in_err-tell.ensures.0
