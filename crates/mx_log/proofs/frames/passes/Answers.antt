use Rattle.std.proofs.Common.{arith}
use Rattle.mx_log.proofs.FrameLemmas.{frame_test, header_fits, header_front, header_length}
use Rattle.mx_log.proofs.frames.passes.Goals as goal

pub slice_bounds-is_frame-end : goal.slice_bounds-is_frame-end
slice_bounds-is_frame-end c = header_length c.args.size c.args.i c.args.log.now c.requires

pub is_frame-requires-clause-head : goal.is_frame-requires-clause-head
is_frame-requires-clause-head c = omega (arith, header_fits c.args.size c.args.i c.args.log.now c.requires)

pub returns : goal.returns
returns c =
    let test = frame_test _ _ _ _ _ _ _ (header_front c.args.log.now) c.sum_before.ensures c.frame_bytes.ensures.bytes c.is_frame.ensures in (
      λ yes'. record { within = c.requires; passes = test.0 yes' },
      λ passes. test.1 passes.passes,
    )
