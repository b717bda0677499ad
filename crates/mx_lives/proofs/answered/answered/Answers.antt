use Rattle.std.proofs.Common.{◌≡◌, Some, [], refl}
use Rattle.mx_lives.specs.declared.answered.Life.{Life}
use Rattle.mx_lives.proofs.LifeLemmas.{run_over}
use Rattle.mx_lives.proofs.answered.answered.Goals as goal

pub returns-clause-runs : goal.returns-clause-runs
returns-clause-runs g c = λ w low was.
    let life : Life = record { ended = c.run_office-ended.result; written = c.into_inner-written.result } in
    let given : Some c.new-reader.result.device.now ≡ Some c.args.input.now = rw c.new-reader.ensures.device refl in
    let empty : Some c.new-writer.result.device.items ≡ Some [] = rw (c.new-writer.ensures.device, c.new.ensures.items) refl in
    let led = c.run_office-ended.ensures.runs w (rw c.into_book.ensures at low) (rw c.new-office.ensures was) in
    let wrote : Some c.run_office-ended.new.writer.device.items ≡ Some life.written.items = rw c.into_inner-written.ensures refl in
    rw c.into_book.ensures (rw c.new-office.ensures at (run_over _ _ _ c.args.input.now w life given empty wrote c.run_office-ended.ensures.fault (λ ms now moved. moved) led))
