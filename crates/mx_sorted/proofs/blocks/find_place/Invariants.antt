use Rattle.std.proofs.Common.{◌-◌, ◌≤◌, length, take, drop}
use Rattle.mx_sorted.specs.Place.{IsAfter, IsBefore}
use Rattle.mx_sorted.proofs.blocks.find_place.Given as goal

abbrev pub invariant-loop-low : goal.invariant-loop-low
invariant-loop-low g l = record {
  order : l.low ≤ l.high;
  within : l.high ≤ length l.rows;
  after : IsAfter g.K.Ord.cmp l.key (take l.low l.rows);
  before : IsBefore g.K.Ord.cmp l.key (drop l.high l.rows);
}

abbrev pub decreases-loop-low : goal.decreases-loop-low
decreases-loop-low g l = l.high - l.low
