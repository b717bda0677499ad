use Rattle.mx_tables.proofs.Common.{◌≡◌, column, inl, inr, None, Some, refl, state}
use Rattle.std.proofs.Common.{ap, sym}
use Rattle.sqlite.specs.Given.{row_if}
use Rattle.mx_tables.proofs.StateLemmas.{awake, sure, step_stays, failed_quits}
use Rattle.mx_tables.proofs.CauseLemmas.{handed}
use Rattle.mx_tables.proofs.lines.next_line.Goals as goal

pub returns-in-Err-clause-stays : goal.returns-in-Err-clause-stays
returns-in-Err-clause-stays g c begun ours =
    step_stays (state g.S.Store c.args.rows.now.conn.now) (state g.S.Store c.advance.new.self.conn.now) ours c.in-Err.ensures.mode c.in-Err.ensures.survives
    (λ clean. failed_quits _ _ _ (c.in-Err.ensures.kept clean))

pub returns-in_default-get-clause-stays : goal.returns-in_default-get-clause-stays
returns-in_default-get-clause-stays g c begun ours =
    step_stays (state g.S.Store c.args.rows.now.conn.now) (state g.S.Store c.advance.new.self.conn.now) ours c.in_default.ensures.mode c.in_default.ensures.survives (λ clean. inl (c.in_default.ensures.same clean))

pub returns-in_err-note_at-clause-stays : goal.returns-in_err-note_at-clause-stays
returns-in_err-note_at-clause-stays g c begun ours =
    step_stays (state g.S.Store c.args.rows.now.conn.now) (state g.S.Store c.advance.new.self.conn.now) ours c.in_default.ensures.mode c.in_default.ensures.survives (λ clean. inl (c.in_default.ensures.same clean))

pub returns-in_err-line_in-clause-stays : goal.returns-in_err-line_in-clause-stays
returns-in_err-line_in-clause-stays g c begun ours =
    step_stays (state g.S.Store c.args.rows.now.conn.now) (state g.S.Store c.advance.new.self.conn.now) ours c.in_default.ensures.mode c.in_default.ensures.survives (λ clean. inl (c.in_default.ensures.same clean))

pub returns-clause-stays : goal.returns-clause-stays
returns-clause-stays g c begun ours =
    step_stays (state g.S.Store c.args.rows.now.conn.now) (state g.S.Store c.advance.new.self.conn.now) ours c.in_default.ensures.mode c.in_default.ensures.survives (λ clean. inl (c.in_default.ensures.same clean))

pub returns-in_default-get-clause-live : goal.returns-in_default-get-clause-live
returns-in_default-get-clause-live g c = awake (state g.S.Store c.advance.new.self.conn.now) (λ clean. (c.in_default.ensures.same clean).0.is_open)

pub returns-clause-live : goal.returns-clause-live
returns-clause-live g c = awake (state g.S.Store c.advance.new.self.conn.now) (λ clean. (c.in_default.ensures.same clean).0.is_open)

pub returns-in_default-get-clause-shown : goal.returns-in_default-get-clause-shown
returns-in_default-get-clause-shown g c sound =
    let made = c.in_default.ensures.ok (sure (state g.S.Store c.advance.new.self.conn.now) sound).1 in
    let end : None ≡ row_if c.advance.new.self.has_row c.advance.new.self.conn.now = rw c.in_default-get.is at c.get.ensures in
    (None, rw (sym end) at made, refl)

pub returns-clause-shown : goal.returns-clause-shown
returns-clause-shown g c sound =
    let made = c.in_default.ensures.ok (sure (state g.S.Store c.advance.new.self.conn.now) sound).1 in
    let row : Some c.in-Some.row.now ≡ row_if c.advance.new.self.has_row c.advance.new.self.conn.now = rw c.in-Some.is at c.get.ensures in
    (Some c.in-Some.row.now, rw (sym row) at made, ap Some c.in_ok-line_in.ensures.shown)

pub returns-in-Err-clause-fails : goal.returns-in-Err-clause-fails
returns-in-Err-clause-fails g c sound = inl (c.in-Err.error, c.in-Err.ensures.err (sure (state g.S.Store c.advance.new.self.conn.now) sound).1, c.fault_of.ensures)

pub returns-in_err-note_at-clause-fails : goal.returns-in_err-note_at-clause-fails
returns-in_err-note_at-clause-fails g c sound =
    let made = c.in_default.ensures.ok (sure (state g.S.Store c.advance.new.self.conn.now) sound).1 in
    let row : Some c.in-Some.row.now ≡ row_if c.advance.new.self.has_row c.advance.new.self.conn.now = rw c.in-Some.is at c.get.ensures in
    handed c.from_residual.result _ _ c.from_residual.ensures.1 (λ f is. inr (
      c.in-Some.row.now,
      rw (sym row) at made,
      λ line. let it = c.in_err-note_at.ensures.there line.0.note line.2 (ap (λ r. column r 4) line.3) in absurd (cc),
    ))

pub returns-in_err-line_in-clause-fails : goal.returns-in_err-line_in-clause-fails
returns-in_err-line_in-clause-fails g c sound =
    let made = c.in_default.ensures.ok (sure (state g.S.Store c.advance.new.self.conn.now) sound).1 in
    let row : Some c.in-Some.row.now ≡ row_if c.advance.new.self.has_row c.advance.new.self.conn.now = rw c.in-Some.is at c.get.ensures in
    handed c.from_residual-in_err-line_in.result _ _ c.from_residual-in_err-line_in.ensures.1 (λ f is. inr (
      c.in-Some.row.now,
      rw (sym row) at made,
      λ line. let it = c.in_err-line_in.ensures.there line.0 line.1 line.3 in absurd (cc),
    ))
