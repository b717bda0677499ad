use Rattle.std.proofs.Common.{arith, ◌∙◌, ap}
use Rattle.sqlite_wal.specs.Format.{stored_sum}
use Rattle.mx_log.proofs.FrameLemmas.{in_before, sum_first, sum_next}
use Rattle.mx_log.proofs.frames.sum_before.Goals as goal

pub frame_bytes-requires : goal.frame_bytes-requires
frame_bytes-requires c = in_before c.args.size c.args.i _ c.args.log.now c.requires (omega arith)

pub returns-then-i-eq0 : goal.returns-then-i-eq0
returns-then-i-eq0 c =
    c.sum_at.ensures ∙ sum_first c.args.size c.args.log.now c.args.i c.if-i-eq0.true

pub returns-else-i-eq0 : goal.returns-else-i-eq0
returns-else-i-eq0 c =
    c.sum_at-else-i-eq0.ensures
    ∙ ap (λ bytes. stored_sum bytes 16) c.frame_bytes.ensures.bytes
    ∙ sum_next c.args.size c.args.log.now c.args.i c.if-i-eq0.false
