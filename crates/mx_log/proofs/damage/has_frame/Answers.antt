use Rattle.std.proofs.Common.{Bool, true, false, refl, arith, slice_index, below_more}
use Rattle.sqlite_wal.specs.Recovery.{frame, sum_before}
use Rattle.mx_log.specs.Damage.{GoesOn, page_sizes}
use Rattle.mx_log.proofs.DamageLemmas.{denied}
use Rattle.mx_log.proofs.damage.has_frame.Goals.{then-has_frame_of-via-then-has_frame_of, then-has_frame_of-via-else-has_frame_of+then-has_frame_of-2}
use Rattle.mx_log.proofs.damage.has_frame.Goals as goal

pub returns-then-has_frame_of : goal.returns-then-has_frame_of
returns-then-has_frame_of c = (
  λ yes'. elim c.then-has_frame_of.branch [
    | then-has_frame_of-via-then-has_frame_of w ↦
        let found = c.has_frame_of.ensures.0 w.if-has_frame_of.true in
        record { place = c.loop-size.size-index; few = omega arith; big = false; number = found.0; within = found.1; goes_on = found.2 }
    | then-has_frame_of-via-else-has_frame_of+then-has_frame_of-2 w ↦
        let found = w.has_frame_of-else-has_frame_of.ensures.0 w.if-has_frame_of-2.true in
        record { place = c.loop-size.size-index; few = omega arith; big = true; number = found.0; within = found.1; goes_on = found.2 }
  ],
  λ there. refl,
)

pub loop-size-preserved : goal.loop-size-preserved
loop-size-preserved c = below_more _ _ c.loop-size.invariant λ big i within goes_on.
    let size = slice_index page_sizes c.loop-size.size-index in
    let Goes : Bool → Type 0 = λ b. GoesOn b (sum_before size c.args.log.now i) (frame size c.args.log.now i) in
    elim big as (λ b. Goes b → ⊥) [
      | false ↦ λ goes. denied _ c.if-has_frame_of.false c.has_frame_of.ensures (i, within, goes)
      | true ↦ λ goes. denied _ c.if-has_frame_of-2.false c.has_frame_of-else-has_frame_of.ensures (i, within, goes)
    ] goes_on
