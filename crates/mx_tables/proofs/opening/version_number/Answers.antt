use Rattle.mx_tables.proofs.Common.{length, ◌∙◌, arith, state}
use Rattle.std.proofs.Common.{sym, ap}
use Rattle.sqlite.proofs.RunLemmas.{only_one}
use Rattle.mx_tables.proofs.StateLemmas.{awake}
use Rattle.mx_tables.proofs.MadeLemmas.{version_there, version_missing, version_other}
use Rattle.mx_tables.proofs.opening.version_number.Goals as goal

pub returns-in-empty-clause-unknown : goal.returns-in-empty-clause-unknown
returns-in-empty-clause-unknown g c version honest has _ n =
    let sure = awake (state g.S.Store c.version_rows.new.conn) c.in-Ok.ensures.live honest in
    version_missing n (state g.S.Store c.args.conn.now).now c.in-Ok.rows.items (c.in-Ok.ensures.rows version sure has) (omega (arith, c.in-empty.len_below, ap length c.as_slice.ensures.value))

pub returns-in-Ok-number_at-clause-known : goal.returns-in-Ok-number_at-clause-known
returns-in-Ok-number_at-clause-known g c version sure has =
    let db = (state g.S.Store c.args.conn.now).now in
    let one = sym c.as_slice.ensures.value ∙ only_one c.as_slice.result.now c.row-item.result (omega arith) c.row-item.is in
    let rows = c.in-Ok.ensures.rows version sure has in
    (version_there _ db c.in-Ok.rows.items rows c.row-item.result one c.in-Ok-number_at.ensures.is, λ k other. version_other k db c.in-Ok.rows.items rows c.row-item.result _ one c.in-Ok-number_at.ensures.is (λ e. other (sym e)))
