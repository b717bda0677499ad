use Rattle.std.proofs.Common.{[], ◌∷◌, sym, subst, arith}
use Rattle.mx_sorted.specs.Blocks.{AreSpare, IsSpare}
use Rattle.mx_sorted.proofs.PartLemmas.{all_append}
use Rattle.mx_sorted.proofs.blocks.reserve.Goals as goal

pub loop-preserved : goal.loop-preserved
loop-preserved g c = record {
  spare = subst AreSpare (sym c.in_ok-push.ensures.items) (all_append IsSpare c.loop.spare.items (c.in_ok-with_capacity.field-0 ∷ []) c.loop.invariant.spare (record { none = c.in_ok-with_capacity.ensures.items; room = omega (arith, c.in_ok-with_capacity.ensures.capacity) }, tt));
  len = omega (arith, c.in_ok-push.ensures.len, c.loop.invariant.len);
}
