use Rattle.std.proofs.Common.{◌≡◌, ◌≤◌, true, false, not, ◌&&◌, ◌||◌, Option, Some, option_map}
use Rattle.std.specs.FinMap as fmap
use Rattle.mx_pay.specs.Names.{name_cmp, is_name}
use Rattle.mx_book.specs.declared.values.Redemption.{Redemption}
use Rattle.mx_memory.specs.Due.{due_cmp}
use Rattle.mx_sorted.specs.Slots.{map_of}
use Rattle.mx_book.specs.Under.{pair_cmp}
use Rattle.mx_book.specs.World.{Name}
use Rattle.mx_memory.proofs.redemptions.collect.Given as goal

abbrev pub invariant-loop-key : goal.invariant-loop-key
invariant-loop-key l = record {
  sub : (n : Name) (q : Option (Name × Name)) → fmap.contains_key (map_of due_cmp l.due) (n, q) ≡ true → fmap.contains_key (map_of due_cmp l.fn.due) (n, q) ≡ true;
  other : (n : Name) (q : Option (Name × Name)) → is_name n l.member ≡ false → fmap.contains_key (map_of due_cmp l.due) (n, q) ≡ fmap.contains_key (map_of due_cmp l.fn.due) (n, q);
  made : (k : Name × Name) → fmap.get (map_of (pair_cmp name_cmp name_cmp) l.redemptions) k ≡ option_map (λ (x : Redemption). record x { collected = x.collected || (fmap.contains_key (map_of due_cmp l.fn.due) (l.member, Some k) && not (fmap.contains_key (map_of due_cmp l.due) (l.member, Some k))) }) (fmap.get (map_of (pair_cmp name_cmp name_cmp) l.fn.redemptions) k);
  due_room : l.fn.due.room ≤ l.due.room;
  room : l.fn.redemptions.room ≤ l.redemptions.room;
}

abbrev pub decreases-loop-key : goal.decreases-loop-key
decreases-loop-key l = fmap.len (map_of due_cmp l.due)
