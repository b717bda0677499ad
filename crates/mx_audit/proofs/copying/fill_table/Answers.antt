use Rattle.sqlite.specs.Held.{state}
use Rattle.std.proofs.Common.{◌≡◌, ap, map, refl, rules, subst}
use Rattle.mx_tables.specs.Schema.{schema_of}
use Rattle.mx_audit.specs.Audited.{tree_of}
use Rattle.mx_audit.specs.Copies.{Fills, whole_of}
use Rattle.mx_audit.specs.Scans.{TakesAll}
use Rattle.mx_audit.proofs.CopyLemmas.{fills_taken, shows_rows}
use Rattle.mx_audit.proofs.CopyTexts.{known, reads_silent}
use Rattle.mx_audit.proofs.ScanLemmas.{scans_more}
use Rattle.mx_audit.proofs.copying.fill_table.Goals as goal

pub scan-requires : goal.scan-requires
scan-requires g c = rw c.rows_text.ensures (reads_silent c.args.source)

pub returns-clause-fills : goal.returns-clause-fills
returns-clause-fills g c version among =
    scans_more g.S.Store (c.scan.ensures.scans (schema_of version) (rw c.rows_text.ensures (known version c.args.source among).plain_read)) (λ has did rise.
    let lent : c.scan.new.taker.tx.now ≡ c.tx-1.given.0 = search (rules, ap (λ t. t.0) c.scan.ensures.lends) in
    let same = shows_rows version c.args.source among (state g.S.Store c.args.conn.now) (state g.S.Store c.scan.new.conn) did.0 has rise (rw c.rows_text.ensures at did.1) in
    subst (λ tx. TakesAll (Fills g.T.Store c.args.source) c.args.tx.now (map (whole_of c.args.source) ((state g.S.Store c.args.conn.now).now.trees (tree_of c.args.source))) tx) lent
    (subst (λ rows. TakesAll (Fills g.T.Store c.args.source) c.args.tx.now rows c.scan.new.taker.tx.now) same
    (fills_taken g.T.Store c.args.source did.0 _ c.scan.new.taker refl did.2)))
