use Rattle.mx_tables.proofs.Common.{◌≡◌, rules, state}
use Rattle.mx_tables.specs.Schema.{no_schema}
use Rattle.mx_audit.proofs.CopyLemmas.{copy_spells_one, ours_copied, rows_copied}
use Rattle.mx_audit.proofs.copying.copy.Goals as goal

pub returns-in-Ok-clause-ours : goal.returns-in-Ok-clause-ours
returns-in-Ok-clause-ours g c calm =
    let found = c.in_ok-version.ensures in
    let blank : c.args.to.now.schema ≡ no_schema = search rules in
    ours_copied g.S.Store g.T.Store c.in_ok-version.version c.args.conn.now c.find_version.new.store c.copy_as.new.conn c.args.to.now c.copy_as.new.to found.stays found.whole
    (c.in-Ok.ensures.stays found.stays.ours) (λ calm. c.in-Ok.ensures.copies found.stays.ours calm blank) calm

pub returns-in-Ok-clause-spells : goal.returns-in-Ok-clause-spells
returns-in-Ok-clause-spells g c calm clean v w =
    let found = c.in_ok-version.ensures in
    let blank : c.args.to.now.schema ≡ no_schema = search rules in
    copy_spells_one v c.in_ok-version.version (state g.S.Store c.args.conn.now).now (state g.T.Store c.copy_as.new.to).now w
    (rows_copied g.S.Store g.T.Store c.in_ok-version.version c.args.conn.now c.find_version.new.store c.copy_as.new.conn c.args.to.now c.copy_as.new.to found.stays found.whole
    (c.in-Ok.ensures.stays found.stays.ours) (λ calm. c.in-Ok.ensures.copies found.stays.ours calm blank) calm clean)
