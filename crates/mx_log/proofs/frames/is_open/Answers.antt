use Rattle.std.proofs.Common.{arith, rules}
use Rattle.sqlite_wal.specs.Recovery.{frames_len}
use Rattle.mx_log.proofs.frames.is_open.Goals as goal

pub overflow_mul-result : goal.overflow_mul-result
unfolding frames_len
overflow_mul-result c = omega arith

pub overflow_add-result-2 : goal.overflow_add-result-2
unfolding frames_len
overflow_add-result-2 c = omega arith

pub overflow_add-result-3 : goal.overflow_add-result-3
unfolding frames_len
overflow_add-result-3 c = omega arith

pub bounds-log-i : goal.bounds-log-i
unfolding frames_len
bounds-log-i c = omega arith

pub returns : goal.returns
unfolding frames_len
returns c = search rules
