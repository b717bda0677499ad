use Rattle.std.proofs.Common.{◌+◌, [], ◌++◌, Ok, refl, ap, ◌∙◌, arith, length-append}
use Rattle.std.proofs.lemmas.Result.{err_from_is_err_and}
use Rattle.mx_book.proofs.StandLemmas.{later_then, low_before}
use Rattle.mx_desk.specs.Rounds.{all_of}
use Rattle.mx_desk.proofs.StepLemmas.{capped_none, capped_then}
use Rattle.mx_desk.proofs.LeavesLemmas.{runs_faulty, runs_nothing, runs_stopped}
use Rattle.mx_desk.proofs.RoundLemmas.{all_of-append}
use Rattle.mx_desk.proofs.RunLemmas.{Ran-none, Ran-step}
use Rattle.mx_desk.proofs.MoveLemmas.{moves_not, moves_on, rests_on}
use Rattle.mx_desk.proofs.desk.run.Goals as goal

pub requests-init : goal.requests-init
requests-init g c = record {
  still = λ still. still;
  later = λ _. omega arith;
  ran = λ w low was. record {
    end = w;
    rounds = [];
    holds = (rw c.new-input.ensures (Ran-none g.B.Book.fails _), refl);
    moves = (moves_not was, rw c.new-workspace.ensures.callers (c.new.ensures.knows w));
  };
  reads = (0, refl, capped_none _ (rw c.calls-calls.ensures at c.calls-calls.type_inv));
  small = rw c.new-input.ensures (omega arith);
  read_failures = refl;
  write_failures = refl;
}

pub requests-preserved : goal.requests-preserved
requests-preserved g c =
    let had = c.requests.invariant.reads in
    let more = c.in_ok-serve_next.ensures.reads in
    let shrunk = c.in_ok-serve_next.ensures.smaller c.in-Answered.answered (ap Ok c.in-Answered.is) in
    let small = c.requests.invariant.small in
    record {
      still = λ still. c.in_ok-serve_next.ensures.still (c.requests.invariant.still still);
      later = λ still. later_then (c.requests.invariant.later still) (c.in_ok-serve_next.ensures.later (c.requests.invariant.still still));
      ran = λ w low was.
          let later = c.in_ok-serve_next.ensures.later (c.requests.invariant.still was.still) in
          let ran = c.requests.invariant.ran w (low_before later low) was in
          let led = c.in_ok-serve_next.ensures.steps ran.end low (rests_on was ran.moves.0, ran.moves.1) in
          let turns = led.holds.0 in
          let step = Ran-step g.B.Book.fails _ _ _ (all_of ran.rounds) c.in-Answered.answered ran.holds.0 (all_of led.rounds) (rw c.in-Answered.is at turns) in
          let so_far = ran.holds.1 in
          record {
            end = led.end;
            rounds = ran.rounds ++ led.rounds;
            holds = rw (all_of-append, length-append, ← step.1, ← so_far) (step.0, refl);
            moves = (moves_on w ran.end led.end ran.rounds led.rounds ran.moves.0 led.moves.0, led.moves.1);
          };
      reads = (had.0 + more.0, omega arith, capped_then _ had.0 _ more.0 _ had.2 more.3);
      small = omega (arith, shrunk);
      read_failures = c.in_ok-serve_next.ensures.whole.0 ∙ c.requests.invariant.read_failures;
      write_failures = c.in_ok-serve_next.ensures.whole.1 ∙ c.requests.invariant.write_failures;
    }

pub returns-in_err-serve_next-clause-runs : goal.returns-in_err-serve_next-clause-runs
returns-in_err-serve_next-clause-runs g c = λ w low was.
    let p = err_from_is_err_and c.from_residual.result c.from_residual.ensures.1 in
    let later = c.in_err-serve_next.ensures.later (c.requests.invariant.still was.still) in
    let ran = c.requests.invariant.ran w (low_before later low) was in
    let led = c.in_err-serve_next.ensures.steps ran.end low (rests_on was ran.moves.0, ran.moves.1) in
    rw (p.1, p.2) (record {
      end = led.end;
      rounds = ran.rounds ++ led.rounds;
      holds = rw all_of-append (runs_faulty g.B.Book.fails _ _ _ (all_of ran.rounds) (all_of led.rounds) _ [] ran.holds.0 led.holds.0);
      moves = moves_on w ran.end led.end ran.rounds led.rounds ran.moves.0 led.moves.0;
    })

pub returns-in_err-serve_next-clause-reads : goal.returns-in_err-serve_next-clause-reads
returns-in_err-serve_next-clause-reads g c =
    let had = c.requests.invariant.reads in
    let more = c.in_err-serve_next.ensures.reads in
    (had.0 + more.0, omega arith, capped_then _ had.0 _ more.0 _ had.2 more.3)

pub returns-in-Nothing-clause-runs : goal.returns-in-Nothing-clause-runs
returns-in-Nothing-clause-runs g c = λ w low was.
    let later = c.in_ok-serve_next.ensures.later (c.requests.invariant.still was.still) in
    let ran = c.requests.invariant.ran w (low_before later low) was in
    let led = c.in_ok-serve_next.ensures.steps ran.end low (rests_on was ran.moves.0, ran.moves.1) in
    let turns = led.holds.0 in
    let count = ran.holds.1 in
    record {
      end = led.end;
      rounds = ran.rounds ++ led.rounds;
      holds = rw (count, all_of-append) (runs_nothing g.B.Book.fails _ _ _ (all_of ran.rounds) (all_of led.rounds) [] refl ran.holds.0 (rw c.in-Nothing.is at turns));
      moves = moves_on w ran.end led.end ran.rounds led.rounds ran.moves.0 led.moves.0;
    }

pub returns-in-Nothing-clause-reads : goal.returns-in-Nothing-clause-reads
returns-in-Nothing-clause-reads g c =
    let had = c.requests.invariant.reads in
    let more = c.in_ok-serve_next.ensures.reads in
    (had.0 + more.0, omega arith, capped_then _ had.0 _ more.0 _ had.2 more.3)

pub returns-in-Stopped-clause-runs : goal.returns-in-Stopped-clause-runs
returns-in-Stopped-clause-runs g c = λ w low was.
    let later = c.in_ok-serve_next.ensures.later (c.requests.invariant.still was.still) in
    let ran = c.requests.invariant.ran w (low_before later low) was in
    let led = c.in_ok-serve_next.ensures.steps ran.end low (rests_on was ran.moves.0, ran.moves.1) in
    let turns = led.holds.0 in
    let count = ran.holds.1 in
    record {
      end = led.end;
      rounds = ran.rounds ++ led.rounds;
      holds = rw (count, all_of-append) (runs_stopped g.B.Book.fails _ _ _ (all_of ran.rounds) (all_of led.rounds) [] refl ran.holds.0 (rw c.in-Stopped.is at turns));
      moves = moves_on w ran.end led.end ran.rounds led.rounds ran.moves.0 led.moves.0;
    }

pub returns-in-Stopped-clause-reads : goal.returns-in-Stopped-clause-reads
returns-in-Stopped-clause-reads g c =
    let had = c.requests.invariant.reads in
    let more = c.in_ok-serve_next.ensures.reads in
    (had.0 + more.0, omega arith, capped_then _ had.0 _ more.0 _ had.2 more.3)
