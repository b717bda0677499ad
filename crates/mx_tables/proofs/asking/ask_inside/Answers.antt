use Rattle.mx_tables.proofs.Common.{◌+◌, inl, state}
use Rattle.mx_tables.proofs.StateLemmas.{shown_same, shown_keeps, refused_quits, quits, quits_marks, within_by}
use Rattle.mx_tables.proofs.asking.ask_inside.Goals as goal

pub returns-in-Ok : goal.returns-in-Ok
returns-in-Ok g c =
    let old = state g.S.Store c.args.tx.now.conn.now in
    let new = state g.S.Store c.query_all.new.self.conn.now in
    record {
      same_reference = c.in-Ok.ensures.same_reference;
      place = c.in-Ok.ensures.place;
      within = within_by (c.args.tx.now.at + 1) old new _ c.in-Ok.ensures.survives (λ clean inside.
          let it = shown_keeps _ _ old new _ inside (c.in-Ok.ensures.ok clean) in
          (it.0, it.1, quits_marks _ old new (inl (shown_same _ _ old new _ c.requires.silent (c.in-Ok.ensures.ok clean)))));
      ok = λ clean inside has. record {
        same = (shown_same _ _ old new _ c.requires.silent (c.in-Ok.ensures.ok clean)).0.now_is;
        value = λ r holds. c.in-Ok.ensures.ok clean;
      };
    }

pub returns-in-Err : goal.returns-in-Err
returns-in-Err g c =
    let old = state g.S.Store c.args.tx.now.conn.now in
    let new = state g.S.Store c.query_all.new.self.conn.now in
    record {
      same_reference = c.in-Err.ensures.same_reference;
      place = c.in-Err.ensures.place;
      within = within_by (c.args.tx.now.at + 1) old new _ c.in-Err.ensures.survives (λ clean inside.
          let it = refused_quits _ _ old new _ (c.in-Err.ensures.err clean) in (quits old new it, tt, quits_marks _ old new it));
      ok = λ clean inside. tt;
    }
