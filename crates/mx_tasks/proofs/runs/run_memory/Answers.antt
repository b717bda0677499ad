use Rattle.std.proofs.Common.{refl}
use Rattle.mx_book.specs.World.{opening}
use Rattle.mx_book.proofs.StandLemmas.{low_sure}
use Rattle.mx_desk.specs.Rounds.{all_of}
use Rattle.mx_tasks.proofs.RunLemmas.{opening_reachable}
use Rattle.mx_tasks.proofs.runs.run_memory.Goals as goal

pub returns-clause-begins : goal.returns-clause-begins
returns-clause-begins g c = opening_reachable c.args.operator c.as_bytes-bytes.ensures.valid

pub returns-clause-runs : goal.returns-clause-runs
returns-clause-runs g c =
    let led = c.run_in_book-count.ensures.runs (opening c.args.operator) (low_sure refl) (record { still = c.new_book.ensures.still; is = λ _. c.new_book.ensures.world }) in
    (all_of led.rounds, led.end, led.holds)
