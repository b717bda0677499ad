use Rattle.mx_tables.proofs.Common.{[], inl, state}
use Rattle.mx_tables.proofs.StateLemmas.{awake, not_run_quits, step_stays, sure_first, sure_in}
use Rattle.mx_tables.proofs.CallLemmas.{asks_ok}
use Rattle.mx_tables.proofs.CauseLemmas.{prepare_told}
use Rattle.mx_tables.proofs.asking.find_live.Goals as goal
use Rattle.mx_tables.proofs.asking.find_live.Goals.{in-Ok, in-Err}

pub returns : goal.returns
returns g c =
    let old = state g.S.Store c.args.conn.now in
    let new = state g.S.Store c.prepare.new.self in
    elim c.match-prepare.branch [
      | in-Ok w ↦ rw w.result-is (asks_ok g.S.Store (record {
        stays = λ ours. step_stays old new ours w.in-Ok.ensures.mode w.in-Ok.ensures.survives (λ clean. inl (w.in-Ok.ensures.ok clean).1);
        value = λ ours calm r holds. tt;
        live = awake new (λ clean. (w.in-Ok.ensures.ok clean).1.0.is_open);
      }))
      | in-Err w ↦ rw w.result-is (record {
        reads = record {
          stays = λ ours. step_stays old new ours w.in-Err.ensures.mode w.in-Err.ensures.survives (λ clean. not_run_quits _ [] old new _ (w.in-Err.ensures.err clean []));
          value = λ ours calm r holds. tt;
          live = tt;
        };
        cause = λ begun ours calm r holds it.
            let kept = step_stays old new ours w.in-Err.ensures.mode w.in-Err.ensures.survives (λ clean. not_run_quits _ [] old new _ (w.in-Err.ensures.err clean [])) in
            rw w.fault_of.ensures (prepare_told old new _ holds.has.schema (sure_in begun old (sure_first kept.later calm)).0 (w.in-Err.ensures.err (sure_in begun new calm).1 []));
      })
    ]
