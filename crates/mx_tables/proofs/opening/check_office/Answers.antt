use Rattle.mx_tables.proofs.Common.{◌≡◌, rules, state}
use Rattle.mx_tables.specs.Schema.{schema_of}
use Rattle.mx_tables.proofs.StateLemmas.{rests_at, stays_found}
use Rattle.mx_tables.proofs.opening.check_office.Goals as goal

-- the connection is read as it stands, in the schema that was found
pub returns-clause-rests : goal.returns-clause-rests
returns-clause-rests g c =
    let found : c.args.conn.now.schema ≡ schema_of c.in_ok-version.version = search rules in
    rests_at (state g.S.Store c.args.conn.now) (state g.S.Store c.check_version.new.conn)
    (stays_found (state g.S.Store c.args.conn.now) (state g.S.Store c.check_version.new.conn) c.check_version.ensures.stays c.requires.idle c.requires.steady found)
