use Rattle.std.proofs.Common.{arith, refl}
use Rattle.sqlite_wal.specs.Recovery.{frames_len}
use Rattle.mx_log.proofs.FrameLemmas.{frame_range}
use Rattle.mx_log.proofs.frames.frame_bytes.Goals as goal

pub overflow_mul-start : goal.overflow_mul-start
unfolding frames_len
overflow_mul-start c = omega arith

pub overflow_add-start-2 : goal.overflow_add-start-2
unfolding frames_len
overflow_add-start-2 c = omega arith

pub overflow_add-result : goal.overflow_add-result
unfolding frames_len
overflow_add-result c = omega arith

pub overflow_add-result-2 : goal.overflow_add-result-2
unfolding frames_len
overflow_add-result-2 c = omega arith

pub slice_bounds-result-end : goal.slice_bounds-result-end
unfolding frames_len
slice_bounds-result-end c = omega arith

pub returns-clause-bytes : goal.returns-clause-bytes
returns-clause-bytes c = frame_range c.args.size c.args.i _ c.args.log.now refl
