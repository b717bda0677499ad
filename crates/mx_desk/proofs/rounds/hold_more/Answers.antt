use Rattle.std.proofs.Common.{refl, sym, ◌∙◌}
use Rattle.std.proofs.lemmas.Bool.{false≢true}
use Rattle.mx_desk.specs.Found.{request_view}
use Rattle.mx_desk.proofs.RequestLemmas.{Whole-shorter}
use Rattle.mx_desk.proofs.RoundLemmas.{more_none, more_then}
use Rattle.mx_desk.proofs.StepLemmas.{first_now}
use Rattle.mx_desk.proofs.rounds.hold_more.Goals as goal

pub loop-goes_on-init : goal.loop-goes_on-init
loop-goes_on-init g c = record { held = more_none g.B.Book.fails _ _ _ _; alone = refl; one = λ _. refl; room = c.requires }

pub loop-goes_on-smaller : goal.loop-goes_on-smaller
loop-goes_on-smaller g c =
    let whole = rw c.pending.ensures.value at c.in-Whole.ensures.1 in
    rw c.forget.ensures (Whole-shorter c.loop-goes_on.input _ _ (first_now c.loop-goes_on.input (request_view c.in-Whole.request) c.in-Whole.end whole))

pub loop-goes_on-preserved : goal.loop-goes_on-preserved
loop-goes_on-preserved g c =
    let whole = rw c.pending.ensures.value at c.in-Whole.ensures.1 in
    let first = first_now c.loop-goes_on.input (request_view c.in-Whole.request) c.in-Whole.end whole in
    let so_far = c.loop-goes_on.invariant in
    let one = c.hold-goes_on.ensures.holds in
    record {
      held = more_then g.B.Book.fails _ _ _ _ _ _ _ _ _ _ _ _ one.0 (request_view c.in-Whole.request) so_far.held one.1 (rw c.forget.ensures first) one.2;
      alone = c.hold-goes_on.ensures.alone ∙ so_far.alone;
      one = λ alone. absurd (false≢true (sym (so_far.room c.loop-goes_on-test.true).0 ∙ so_far.alone ∙ alone));
      room = c.hold-goes_on.ensures.room;
    }
