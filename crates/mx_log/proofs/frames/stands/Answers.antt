use Rattle.std.proofs.Common.{arith, ◌∙◌, sym, inl, inr}
use Rattle.std.proofs.lemmas.Bool.{false≢true}
use Rattle.mx_log.proofs.FrameLemmas.{frame_test, header_fits, header_front, header_length}
use Rattle.mx_log.proofs.frames.stands.Goals as goal

pub slice_bounds-head-end : goal.slice_bounds-head-end
slice_bounds-head-end c = header_length c.args.size c.args.i c.args.log.now c.requires

pub is_frame-requires-clause-head : goal.is_frame-requires-clause-head
is_frame-requires-clause-head c = omega (arith, header_fits c.args.size c.args.i c.args.log.now c.requires)

pub is_frame-requires-else-is_frame-clause-head : goal.is_frame-requires-else-is_frame-clause-head
is_frame-requires-else-is_frame-clause-head c = omega (arith, header_fits c.args.size c.args.i c.args.log.now c.requires)

pub returns-then-is_frame : goal.returns-then-is_frame
returns-then-is_frame c =
    let test = frame_test _ _ _ _ _ _ _ (header_front c.args.log.now) c.sum_before.ensures c.frame_bytes-bytes.ensures.bytes c.is_frame.ensures in (
      λ yes'. record { within = c.requires; adds_up = inl (test.0 yes') },
      λ stands. c.if-is_frame.true,
    )

pub returns-else-is_frame : goal.returns-else-is_frame
returns-else-is_frame c =
    let first = frame_test _ _ _ _ _ _ _ (header_front c.args.log.now) c.sum_before.ensures c.frame_bytes-bytes.ensures.bytes c.is_frame.ensures in
    let second = frame_test _ _ _ _ _ _ _ (header_front c.args.log.now) c.due_before.ensures c.frame_bytes-bytes.ensures.bytes c.is_frame-else-is_frame.ensures in (
      λ yes'. record { within = c.requires; adds_up = inr (second.0 yes') },
      λ stands. elim (stands.adds_up) [
        | inl one ↦ absurd (false≢true (sym c.if-is_frame.false ∙ first.1 one))
        | inr other ↦ second.1 other
      ],
    )
