use Rattle.std.proofs.Common.{◌++◌, [], arith, inl, refl, ◌∙◌}
use Rattle.std.proofs.lemmas.Bool.{false≢true}
use Rattle.std.proofs.lemmas.Result.{err_from_is_err_and}
use Rattle.mx_book.proofs.StandLemmas.{later_then, low_before}
use Rattle.mx_desk.proofs.MoveLemmas.{moves_not, moves_on, rests_on}
use Rattle.mx_desk.proofs.RoundLemmas.{all_of-append}
use Rattle.mx_tasks.proofs.ConnectionLemmas.{rings_then}
use Rattle.mx_tasks.proofs.HallLemmas.{tends_none}
use Rattle.mx_tasks.proofs.ServeLemmas.{nobody_served, rings_as, rings_more, rings_well, rounds_tend, rounds_then}
use Rattle.mx_tasks.proofs.work.serve_connections.Goals as goal

pub rounds-init : goal.rounds-init
rounds-init g c = record {
  still = λ still. still;
  later = λ _. omega arith;
  serves = λ w low was. record { end = w; rounds = []; holds = nobody_served g.B.Book.fails g.S.Connection.received g.S.Connection.written (tends_none g.S.Connection.received g.S.Connection.written _); moves = (moves_not was.0, was.1) };
  count = refl;
  rings = inl refl;
}

pub rounds-preserved : goal.rounds-preserved
rounds-preserved g c =
    let had = c.rounds.invariant in
    let round = c.in_ok-serve_round.ensures in
    record {
      still = λ still. round.still (had.still still);
      later = λ still. later_then (had.later still) (round.later (had.still still));
      serves = λ w low was.
          let b = g.B.Book in
          let round = c.serve_round.ensures in
          let had = c.rounds.invariant.serves w (low_before (round.later (c.rounds.invariant.still was.0.still)) low) was in
          let led = round.serves had.end low (rests_on was.0 had.moves.0, had.moves.1) in
          let before = rounds_tend b.fails g.S.Connection.received g.S.Connection.written had.holds c.wait.ensures.tends in
          let all = rounds_then b.fails g.S.Connection.received g.S.Connection.written before led.holds in
          let moves = moves_on w had.end led.end had.rounds led.rounds had.moves.0 led.moves.0 in
          record { end = led.end; rounds = had.rounds ++ led.rounds; holds = rw all_of-append all; moves = (moves, led.moves.1) };
      count = round.count ∙ c.wait.ensures.tends.count ∙ had.count;
      rings = rings_then g.V.Voice.said _ _ _ had.rings (rings_well g.V.Voice.said _ _ _ (λ never. false≢true never) (rings_as g.V.Voice.said _ _ _ _ _ c.wait.ensures.quiet (λ so. so) round.rings));
    }

pub returns-then-is_done-clause-serves : goal.returns-then-is_done-clause-serves
returns-then-is_done-clause-serves g c = λ w low was. let had = c.rounds.invariant.serves w low was in record { end = had.end; rounds = had.rounds; holds = had.holds; moves = had.moves.0 }

pub returns-clause-serves : goal.returns-clause-serves
returns-clause-serves g c = λ w low was. let had = c.rounds.invariant.serves w low was in record { end = had.end; rounds = had.rounds; holds = had.holds; moves = had.moves.0 }

-- nobody can be waited for
pub returns-in_default-clause-serves : goal.returns-in_default-clause-serves
returns-in_default-clause-serves g c = λ w low was.
    let had = c.rounds.invariant.serves w low was in
    record { end = had.end; rounds = had.rounds; holds = rounds_tend g.B.Book.fails g.S.Connection.received g.S.Connection.written had.holds c.wait.ensures.tends; moves = had.moves.0 }

pub returns-in_err-serve_round-clause-serves : goal.returns-in_err-serve_round-clause-serves
returns-in_err-serve_round-clause-serves g c = λ w low was.
    let b = g.B.Book in
    let round = c.serve_round.ensures in
    let had = c.rounds.invariant.serves w (low_before (round.later (c.rounds.invariant.still was.0.still)) low) was in
    let led = round.serves had.end low (rests_on was.0 had.moves.0, had.moves.1) in
    let before = rounds_tend b.fails g.S.Connection.received g.S.Connection.written had.holds c.wait.ensures.tends in
    let all = rounds_then b.fails g.S.Connection.received g.S.Connection.written before led.holds in
    let moves = moves_on w had.end led.end had.rounds led.rounds had.moves.0 led.moves.0 in
    record { end = led.end; rounds = had.rounds ++ led.rounds; holds = rw all_of-append all; moves = moves }

pub returns-in_err-serve_round-clause-rings : goal.returns-in_err-serve_round-clause-rings
returns-in_err-serve_round-clause-rings g c =
    let p = err_from_is_err_and c.from_residual.result c.from_residual.ensures.1 in
    rings_more g.V.Voice.said _ _ _ _ c.rounds.invariant.rings (rings_as g.V.Voice.said _ _ _ _ _ c.wait.ensures.quiet (λ so. rw p.1 refl) c.serve_round.ensures.rings)
