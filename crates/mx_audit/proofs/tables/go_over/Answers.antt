use Rattle.mx_tables.proofs.Common.{office_schema}
use Rattle.mx_audit.proofs.OverLemmas.{source_query, source_shows}
use Rattle.mx_audit.proofs.ScanLemmas.{scans_more}
use Rattle.mx_audit.proofs.tables.go_over.Goals as goal

pub scan-requires : goal.scan-requires
scan-requires g c = rw c.text.ensures (source_query c.args.source.now).silent

pub returns : goal.returns
returns g c = scans_more g.S.Store (c.scan.ensures.scans office_schema (rw c.text.ensures (source_query c.args.source.now).plain)) (λ has did.
    (did.0, source_shows c.args.source.now _ _ did.0 has (rw c.text.ensures at did.1), did.2))
