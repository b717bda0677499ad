use Rattle.mx_tables.proofs.Common.{◌≡◌, inr, rules, state}
use Rattle.std.proofs.Common.{◌≢◌, sym}
use Rattle.mx_tables.specs.Schema.{schema_of, number_of}
use Rattle.mx_tables.proofs.StateLemmas.{awake, rests_at, stays_found}
use Rattle.mx_tables.proofs.migration.find_version.Goals as goal

pub returns-in-Ok-clause-rests : goal.returns-in-Ok-clause-rests
returns-in-Ok-clause-rests g c =
    let found : c.args.store.now.schema ≡ schema_of c.in_ok-version.version = search rules in
    rests_at (state g.S.Store c.args.store.now) (state g.S.Store c.version_number.new.conn) (stays_found (state g.S.Store c.args.store.now) (state g.S.Store c.version_number.new.conn) c.version_number.ensures.stays c.requires.idle c.requires.steady found)

pub returns-in-Ok-clause-stays : goal.returns-in-Ok-clause-stays
returns-in-Ok-clause-stays g c =
    let found : c.args.store.now.schema ≡ schema_of c.in_ok-version.version = search rules in
    stays_found (state g.S.Store c.args.store.now) (state g.S.Store c.version_number.new.conn) c.version_number.ensures.stays c.requires.idle c.requires.steady found

pub returns-in-Ok-2-clause-rests : goal.returns-in-Ok-2-clause-rests
returns-in-Ok-2-clause-rests g c =
    let found : c.args.store.now.schema ≡ schema_of c.in_ok-version.version = search rules in
    rests_at (state g.S.Store c.args.store.now) (state g.S.Store c.version_number.new.conn) (stays_found (state g.S.Store c.args.store.now) (state g.S.Store c.version_number.new.conn) c.version_number.ensures.stays c.requires.idle c.requires.steady found)

pub returns-in-Ok-2-clause-unknown : goal.returns-in-Ok-2-clause-unknown
returns-in-Ok-2-clause-unknown g c honest _ =
    let sure = awake (state g.S.Store c.version_number.new.conn) c.in-Ok-2.ensures.live honest in
    let found : c.args.store.now.schema ≡ schema_of c.in_ok-version.version = search rules in
    let other : c.in-Ok-2.field-0 ≢ number_of c.in_ok-version.version = search rules in
    inr (c.in_ok-version.version, found, (c.in-Ok-2.ensures.known c.in_ok-version.version sure found).1 (number_of c.in_ok-version.version) (λ e. other (sym e)))

pub returns-in-Err-clause-rests : goal.returns-in-Err-clause-rests
returns-in-Err-clause-rests g c =
    let found : c.args.store.now.schema ≡ schema_of c.in_ok-version.version = search rules in
    rests_at (state g.S.Store c.args.store.now) (state g.S.Store c.version_number.new.conn) (stays_found (state g.S.Store c.args.store.now) (state g.S.Store c.version_number.new.conn) c.version_number.ensures.stays c.requires.idle c.requires.steady found)

pub returns-in-Err-clause-unknown : goal.returns-in-Err-clause-unknown
returns-in-Err-clause-unknown g c sure e =
    let found : c.args.store.now.schema ≡ schema_of c.in_ok-version.version = search rules in
    inr (c.in_ok-version.version, found, c.in-Err.ensures.unknown c.in_ok-version.version sure found e (number_of c.in_ok-version.version))
