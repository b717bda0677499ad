use Rattle.std.proofs.Common.{◌-◌, ◌<◌, ◌≤◌, length, take, drop}
use Rattle.mx_sorted.specs.Blocks.{rows_in}
use Rattle.mx_sorted.specs.Place.{IsAfter, IsBefore}
use Rattle.mx_sorted.proofs.blocks.find_block.Given as goal

abbrev pub invariant-loop-end : goal.invariant-loop-end
invariant-loop-end g l = record {
  order : l.at < l.end;
  within : l.end ≤ length l.blocks;
  after : IsAfter g.K.Ord.cmp l.key (rows_in (take l.at l.blocks));
  before : IsBefore g.K.Ord.cmp l.key (rows_in (drop l.end l.blocks));
}

abbrev pub decreases-loop-end : goal.decreases-loop-end
decreases-loop-end g l = l.end - l.at
