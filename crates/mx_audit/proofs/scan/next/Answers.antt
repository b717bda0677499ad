use Rattle.std.proofs.Common.{inl}
use Rattle.sqlite.specs.Held.{state}
use Rattle.mx_tables.proofs.StateLemmas.{awake, sure, step_stays, failed_quits}
use Rattle.mx_audit.proofs.scan.next.Goals as goal

pub returns-in-Ok-clause-stays : goal.returns-in-Ok-clause-stays
returns-in-Ok-clause-stays g c begun of ours =
    step_stays (state g.S.Store c.args.rows.now.conn.now) (state g.S.Store c.advance.new.self.conn.now) ours c.in-Ok.ensures.mode c.in-Ok.ensures.survives (λ clean. inl (c.in-Ok.ensures.same clean))

pub returns-in-Ok-clause-shown : goal.returns-in-Ok-clause-shown
returns-in-Ok-clause-shown g c sound = c.in-Ok.ensures.ok (sure (state g.S.Store c.advance.new.self.conn.now) sound).1

pub returns-in-Ok-clause-live : goal.returns-in-Ok-clause-live
returns-in-Ok-clause-live g c = awake (state g.S.Store c.advance.new.self.conn.now) (λ clean. (c.in-Ok.ensures.same clean).0.is_open)

pub returns-in-Err-clause-stays : goal.returns-in-Err-clause-stays
returns-in-Err-clause-stays g c begun of ours =
    step_stays (state g.S.Store c.args.rows.now.conn.now) (state g.S.Store c.advance.new.self.conn.now) ours c.in-Err.ensures.mode c.in-Err.ensures.survives
    (λ clean. failed_quits _ _ _ (c.in-Err.ensures.kept clean))

pub returns-in-Ok-clause-same : goal.returns-in-Ok-clause-same
returns-in-Ok-clause-same g c sound = c.in-Ok.ensures.same (sure (state g.S.Store c.advance.new.self.conn.now) sound).1
