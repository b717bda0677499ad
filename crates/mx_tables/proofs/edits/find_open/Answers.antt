use Rattle.mx_tables.proofs.Common.{◌+◌, [], inl, ◌∙◌, state}
use Rattle.mx_tables.proofs.StateLemmas.{quits, quits_marks, not_run_quits, within_by}
use Rattle.mx_tables.proofs.edits.find_open.Goals as goal
use Rattle.mx_tables.proofs.edits.find_open.Goals.{in-Ok, in-Err}

pub returns : goal.returns
returns g c =
    let old = state g.S.Store c.args.tx.now.conn.now in
    let new = state g.S.Store c.prepare.new.self.conn.now in
    elim c.match-prepare.branch [
      | in-Ok w ↦ rw w.result-is (record {
        same_reference = w.in-Ok.ensures.same_reference;
        place = w.in-Ok.ensures.place;
        within = within_by (c.args.tx.now.at + 1) old new _ w.in-Ok.ensures.survives (λ clean inside. let same = (w.in-Ok.ensures.ok clean).1 in (quits old new (inl same), same.0.mode ∙ inside, quits_marks _ old new (inl same)));
        ok = λ clean inside. (w.in-Ok.ensures.ok clean).1;
      })
      | in-Err w ↦ rw w.result-is (record {
        same_reference = w.in-Err.ensures.same_reference;
        place = w.in-Err.ensures.place;
        within = within_by (c.args.tx.now.at + 1) old new _ w.in-Err.ensures.survives (λ clean inside.
            let it = not_run_quits _ [] old new _ (w.in-Err.ensures.err clean []) in (quits old new it, tt, quits_marks _ old new it));
        ok = λ clean inside. tt;
      })
    ]
