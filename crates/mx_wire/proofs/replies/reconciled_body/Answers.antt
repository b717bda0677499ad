use Rattle.mx_wire.proofs.ReplyLemmas.{sums_added}
use Rattle.mx_wire.proofs.replies.reconciled_body.Goals as goal

pub returns : goal.returns
returns c =
    sums_added _ _ _ _ _ _ _ _ _ _ c.args.sums.now c.in_ok-text.ensures.bytes
    c.in_ok-push_sum.ensures c.in_ok-push_sum-2.ensures c.in_ok-push_sum-3.ensures c.in_ok-push_sum-4.ensures
    c.in_ok-push_sum-5.ensures c.in_ok-push_sum-6.ensures c.in_ok-push_sum-7.ensures c.in_ok-push_sum-8.ensures c.in_ok-push_str.ensures.bytes
