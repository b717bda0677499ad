use Rattle.std.proofs.Common.{arith, ◌∙◌, ◌==◌, ap₂, slice_index}
use Rattle.sqlite_wal.specs.Format.{frame_sum}
use Rattle.mx_log.proofs.FrameLemmas.{due_first, due_next, in_before}
use Rattle.mx_log.proofs.frames.due_before.Goals as goal

pub returns-then-i-eq0 : goal.returns-then-i-eq0
returns-then-i-eq0 c =
    c.sum_at.ensures ∙ due_first c.args.size c.args.log.now c.args.i c.if-i-eq0.true

pub sum_before-before-requires : goal.sum_before-before-requires
sum_before-before-requires c = in_before c.args.size c.args.i _ c.args.log.now c.requires (omega arith)

pub frame_bytes-requires : goal.frame_bytes-requires
frame_bytes-requires c = in_before c.args.size c.args.i _ c.args.log.now c.requires (omega arith)

pub returns : goal.returns
returns c =
    c.sum_of.ensures
    ∙ ap₂ (frame_sum (slice_index c.args.log.now 3 == 0x83)) c.sum_before-before.ensures c.frame_bytes.ensures.bytes
    ∙ due_next c.args.size c.args.log.now c.args.i c.if-i-eq0.false
