use Rattle.mx_tables.proofs.Common.{arith}
use Rattle.mx_tables.proofs.CallLemmas.{reads_then}
use Rattle.mx_audit.proofs.AuditLemmas.{audits_fault, audits_stopped, audits_looked, fault_mapped}
use Rattle.mx_audit.proofs.DecideLemmas.{decides}
use Rattle.mx_audit.proofs.tables.check.Goals as goal

pub returns-in_err-go_over_all : goal.returns-in_err-go_over_all
returns-in_err-go_over_all g c = audits_fault decides g.S.Store c.args.conn.now c.go_over_all.new.conn c.go_over_all.ensures (fault_mapped _ _ c.from_residual.ensures.0)

pub returns-in_err-missing : goal.returns-in_err-missing
returns-in_err-missing g c =
    let scans = c.in_ok-go_over_all.ensures in
    audits_stopped decides g.S.Store c.args.conn.now c.go_over_all.new.conn c.find_missing.new.conn scans (c.in_err-missing.ensures.reads scans.live) (fault_mapped _ _ c.from_residual-in_err-missing.ensures.0)

pub returns-in_err-looked : goal.returns-in_err-looked
returns-in_err-looked g c =
    let scans = c.in_ok-go_over_all.ensures in
    let missing = c.in_ok-missing.ensures.reads scans.live in
    audits_stopped decides g.S.Store c.args.conn.now c.go_over_all.new.conn c.look_up.new.conn scans (reads_then g.S.Store missing (c.in_err-looked.ensures missing.live)) (fault_mapped _ _ c.from_residual-in_err-looked.ensures.0)

pub returns : goal.returns
returns g c =
    let scans = c.in_ok-go_over_all.ensures in
    let missing = c.in_ok-missing.ensures.reads scans.live in
    audits_looked decides g.S.Store c.args.conn.now c.go_over_all.new.conn c.look_up.new.conn c.new-audit.result c.go_over_all.new.audit c.in_ok-missing.missing c.in_ok-looked.looked _ scans c.new-audit.ensures c.schema-schema.ensures.live (g.met.S.Ordered.in_order c.args.conn.now)
    c.in_ok-missing.ensures.missing (reads_then g.S.Store missing (c.in_ok-looked.ensures missing.live)) (grind (arith, c.saturating_add.ensures, c.saturating_add-2.ensures))
