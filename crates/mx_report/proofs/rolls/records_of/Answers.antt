use Rattle.std.proofs.Common.{◌∙◌, rules}
use Rattle.mx_report.proofs.ReadingLemmas.{started}
use Rattle.mx_report.proofs.rolls.records_of.Goals as goal

pub returns-in_err-take_header-clause-err : goal.returns-in_err-take_header-clause-err
returns-in_err-take_header-clause-err c =
    let from = c.from_reader-reader.ensures in
    let e = c.has_headers.ensures in
    let records = c.into_byte_records-records.ensures in
    let begun = started c.args.bytes.now _ _ records.rdr records.left (rw e at from.trim ∙ c.new.ensures.trim) (rw e at from.has_headers) from.headers (rw e at from.config ∙ c.new.ensures.config) (rw e at from.flexible ∙ c.new.ensures.flexible) from.expected from.source from.state in
    let why = c.in_err-take_header.ensures.err c.args.bytes.now begun in search rules

pub returns-clause-ok : goal.returns-clause-ok
returns-clause-ok c =
    let from = c.from_reader-reader.ensures in
    let e = c.has_headers.ensures in
    let records = c.into_byte_records-records.ensures in
    let begun = started c.args.bytes.now _ _ records.rdr records.left (rw e at from.trim ∙ c.new.ensures.trim) (rw e at from.has_headers) from.headers (rw e at from.config ∙ c.new.ensures.config) (rw e at from.flexible ∙ c.new.ensures.flexible) from.expected from.source from.state in
    c.in_ok-take_header.ensures.ok c.args.bytes.now begun
