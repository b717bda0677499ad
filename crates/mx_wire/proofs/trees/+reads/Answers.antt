use Rattle.std.proofs.Common.{sym, ◌∙◌, arith}
use Rattle.mx_wire.proofs.TreeLemmas.{members_go_on}
use Rattle.mx_wire.proofs.trees.+reads.Goals as goal

pub hold_data-loop-member-preserved : goal.hold_data-loop-member-preserved
hold_data-loop-member-preserved t c =
    sym (members_go_on c.deref-member-items.result.now c.loop-member.member-index c.member-item.result (omega arith) c.member-item.is (grind arith)) ∙ c.loop-member.invariant
