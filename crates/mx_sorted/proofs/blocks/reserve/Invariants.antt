use Rattle.std.proofs.Common.{◌≡◌}
use Rattle.std.specs.Vec.{vec_len}
use Rattle.mx_sorted.specs.Blocks.{AreSpare}
use Rattle.mx_sorted.proofs.blocks.reserve.Given as goal

abbrev pub invariant-loop : goal.invariant-loop
invariant-loop g l = record {
  spare : AreSpare l.spare.items;
  len : vec_len l.spare ≡ l.counter;
}
