use Rattle.std.proofs.Common.{[], arith}
use Rattle.std.proofs.lemmas.Result.{err_from_is_err_and}
use Rattle.mx_desk.proofs.LeavesLemmas.{serves}
use Rattle.mx_desk.proofs.RunLemmas.{flushed, unflushed}
use Rattle.mx_desk.proofs.desk.serve_one.Goals as goal
use Rattle.mx_desk.proofs.desk.serve_one.Goals.{in-Answered+in_ok-flush_out, in_default}

pub returns-in_err-served-clause-serves : goal.returns-in_err-served-clause-serves
returns-in_err-served-clause-serves g c = λ w low was.
    let p = err_from_is_err_and c.from_residual.result c.from_residual.ensures.1 in
    let led = c.in_err-served.ensures.steps w low (was, rw c.new-workspace.ensures.callers (c.none.ensures.knows w)) in
    let turns = led.holds.0 in
    let alone = led.holds.1 c.new-workspace.ensures.alone in
    rw (p.1, p.2) (record { end = led.end; rounds = led.rounds; holds = serves g.B.Book.fails _ _ _ _ [] alone (rw c.new-input.ensures at turns); moves = led.moves.0 })

pub returns-in_err-flush_out-clause-serves : goal.returns-in_err-flush_out-clause-serves
returns-in_err-flush_out-clause-serves g c = λ w low was.
    let p = err_from_is_err_and c.from_residual-in_err-flush_out.result c.from_residual-in_err-flush_out.ensures.1 in
    let led = c.in_ok-served.ensures.steps w low (was, rw c.new-workspace.ensures.callers (c.none.ensures.knows w)) in
    let turns = led.holds.0 in
    let alone = led.holds.1 c.new-workspace.ensures.alone in
    let cut = unflushed g.B.Book.fails _ _ _ _ _ (omega (arith, alone)) (rw (c.new-input.ensures, c.in-Answered.is) at turns) c.in_err-flush_out.ensures.bytes in
    rw (p.1, p.2, c.in_err-flush_out.ensures.fault) (record { end = led.end; rounds = led.rounds; holds = serves g.B.Book.fails _ _ _ _ [] alone cut; moves = led.moves.0 })

pub returns-clause-serves : goal.returns-clause-serves
returns-clause-serves g c = λ w low was.
    let led = c.in_ok-served.ensures.steps w low (was, rw c.new-workspace.ensures.callers (c.none.ensures.knows w)) in
    let turns = led.holds.0 in
    let alone = led.holds.1 c.new-workspace.ensures.alone in
    elim c.match-served.branch [
      | in-Answered+in_ok-flush_out v ↦ rw (v.writer-is, v.in-Answered.is) (record {
        end = led.end;
        rounds = led.rounds;
        holds = serves g.B.Book.fails _ _ _ _ [] alone (flushed g.B.Book.fails _ _ _ _ _ (rw (c.new-input.ensures, v.in-Answered.is) at turns) v.flush_out.ensures.bytes);
        moves = led.moves.0;
      })
      | in_default v ↦ rw v.writer-is (record {
        end = led.end;
        rounds = led.rounds;
        holds = serves g.B.Book.fails _ _ _ _ [] alone (rw c.new-input.ensures at turns);
        moves = led.moves.0;
      })
    ]
