use Rattle.mx_tables.proofs.Common.{office_schema}
use Rattle.mx_tables.proofs.CallLemmas.{reads_none}
use Rattle.mx_audit.proofs.ScanLemmas.{numbers_query, scans_read, scan_fails}
use Rattle.mx_audit.proofs.missing.tell_gap.Goals as goal

pub scan-requires : goal.scan-requires
scan-requires g c = numbers_query.silent

pub returns-then-not-has_room : goal.returns-then-not-has_room
returns-then-not-has_room g c live = reads_none g.S.Store live (λ rows holds. tt)

pub returns-in_err-scan : goal.returns-in_err-scan
returns-in_err-scan g c live = scan_fails g.S.Store (c.in_err-scan.ensures.scans office_schema numbers_query.plain) c.from_residual.ensures.0

pub returns : goal.returns
returns g c live = scans_read g.S.Store (c.in_ok-scan.ensures.scans office_schema numbers_query.plain)
