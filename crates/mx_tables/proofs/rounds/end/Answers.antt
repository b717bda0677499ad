use Rattle.mx_tables.proofs.Common.{[], state}
use Rattle.mx_tables.proofs.StateLemmas.{not_run_quits}
use Rattle.mx_tables.proofs.RoundLemmas.{commit, ends_refused, ends_made, ends_failed, not_false}
use Rattle.mx_tables.proofs.rounds.end.Goals as goal

pub returns-in-Err : goal.returns-in-Err
returns-in-Err g c =
    ends_refused c.args.begun (state g.S.Store c.args.conn.now) (state g.S.Store c.prepare.new.self) _ _ c.in-Err.ensures.survives
    (λ clean. not_run_quits commit [] _ _ _ (c.in-Err.ensures.err clean [])) (λ clean. c.in-Err.ensures.err clean [])

pub returns-in-Ok-execute : goal.returns-in-Ok-execute
returns-in-Ok-execute g c =
    ends_made c.args.begun (state g.S.Store c.args.conn.now) (state g.S.Store c.prepare.new.self) (state g.S.Store c.execute.new.conn) _ c.if-not-begun.false (not_false _ c.if-is_autocommit.ensures.value)
    c.in-Ok.ensures.survives c.in-Ok.ensures.ok c.in-Ok-execute.ensures.survives _ c.in-Ok-execute.ensures.runs

pub returns : goal.returns
returns g c =
    ends_failed c.args.begun (state g.S.Store c.args.conn.now) (state g.S.Store c.prepare.new.self) (state g.S.Store c.execute.new.conn) _ c.if-not-begun.false (not_false _ c.if-is_autocommit.ensures.value)
    c.in-Ok.ensures.survives c.in-Ok.ensures.ok c.in-Err-execute.ensures.survives _ _ c.in-Err-execute.ensures.runs
