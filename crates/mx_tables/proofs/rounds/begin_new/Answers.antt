use Rattle.mx_tables.proofs.Common.{[], ◌∙◌, ◌≡◌, state}
use Rattle.std.proofs.Common.{not, ap}
use Rattle.mx_tables.proofs.StateLemmas.{not_run_quits}
use Rattle.mx_tables.proofs.RoundLemmas.{begin, not_twice, begins_refused, begins_made, begins_failed}
use Rattle.mx_tables.proofs.rounds.begin_new.Goals as goal

pub returns-in-Err : goal.returns-in-Err
returns-in-Err g c =
    begins_refused c.args.begun.now (state g.S.Store c.args.conn.now) (state g.S.Store c.prepare.new.self) _ c.requires c.in-Err.ensures.mode c.in-Err.ensures.survives
    (λ clean. not_run_quits begin [] _ _ _ (c.in-Err.ensures.err clean []))

pub returns-in-Ok-done : goal.returns-in-Ok-done
returns-in-Ok-done g c =
    let is : not c.is_autocommit.result ≡ (state g.S.Store c.execute-done.new.conn).in_transaction = ap not c.is_autocommit.ensures.value ∙ not_twice _ in
    begins_made c.args.begun.now (not c.is_autocommit.result) (state g.S.Store c.args.conn.now) (state g.S.Store c.prepare.new.self) (state g.S.Store c.execute-done.new.conn) _ c.requires is
    c.in-Ok.ensures.survives c.in-Ok.ensures.ok c.in-Ok-done.ensures.survives _ c.in-Ok-done.ensures.runs

pub returns : goal.returns
returns g c =
    let is : not c.is_autocommit.result ≡ (state g.S.Store c.execute-done.new.conn).in_transaction = ap not c.is_autocommit.ensures.value ∙ not_twice _ in
    begins_failed c.args.begun.now (not c.is_autocommit.result) (state g.S.Store c.args.conn.now) (state g.S.Store c.prepare.new.self) (state g.S.Store c.execute-done.new.conn) _ c.requires is
    c.in-Ok.ensures.survives c.in-Ok.ensures.ok c.in-Err-done.ensures.survives _ _ c.in-Err-done.ensures.runs
