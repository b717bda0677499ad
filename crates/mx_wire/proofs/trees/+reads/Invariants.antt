use Rattle.std.proofs.Common.{◌≡◌, drop, is_some}
use Rattle.json.specs.Value.{items_view, members_view}
use Rattle.serde_json.specs.Data.{no_members}
use Rattle.serde_json.specs.Read.{of_items, of_members}
use Rattle.mx_wire.proofs.trees.+reads.Given as goal

abbrev pub invariant-are_data-loop-item : goal.invariant-are_data-loop-item
invariant-are_data-loop-item l = is_some (of_items (items_view (drop l.item-index l.item-items))) ≡ is_some (of_items (items_view l.item-items))

abbrev pub invariant-hold_data-loop-member : goal.invariant-hold_data-loop-member
invariant-hold_data-loop-member l = is_some (of_members (members_view (drop l.member-index l.member-items)) no_members) ≡ is_some (of_members (members_view l.member-items) no_members)
