use Rattle.std.proofs.Common.{rules, arith, ◌<◌, ◌≤◌, length}
use Rattle.mx_audit.specs.Audited.{is_laid_well}
use Rattle.mx_tables.proofs.CallLemmas.{reads_fault, reads_to, reads_then}
use Rattle.mx_audit.proofs.LookLemmas.{one_well, one_wrong, all_found}
use Rattle.mx_audit.proofs.look.look_up_laid.Goals.{then-not-well, else-not-well}
use Rattle.mx_audit.proofs.look.look_up_laid.Goals as goal

pub loop-purse-preserved : goal.loop-purse-preserved
loop-purse-preserved g c live =
    let within : c.loop-purse.purse-index < length c.args.laid.now = search rules in
    reads_to g.S.Store (reads_then g.S.Store (c.loop-purse.invariant live) c.in_ok-well.ensures) (λ r holds both purses archive.
    let found = both.1 purses archive in
    elim c.if-not-well.branch [
      | then-not-well w ↦ one_wrong (is_laid_well r) c.args.laid.now _ c.loop-purse-item.result _ within c.loop-purse-item.is (grind (arith, found)) (omega arith)
      | else-not-well w ↦ rw w.found-is (one_well (is_laid_well r) c.args.laid.now _ c.loop-purse-item.result _ within c.loop-purse-item.is (grind (arith, found)) (both.0 purses archive))
    ])

pub returns : goal.returns
returns g c live =
    let past : length c.args.laid.now ≤ c.loop-purse.purse-index = search rules in
    reads_to g.S.Store (c.loop-purse.invariant live) (λ r holds is purses archive. all_found (is_laid_well r) c.args.laid.now _ _ past (is purses archive))

pub returns-in_err-well : goal.returns-in_err-well
returns-in_err-well g c live =
    reads_fault g.S.Store (reads_then g.S.Store (c.loop-purse.invariant live) c.in_err-well.ensures) c.from_residual.ensures.0
