use Rattle.std.proofs.Common.{◌≡◌, ◌++◌, length}
use Rattle.mx_sorted.specs.Blocks.{rows_in}
use Rattle.mx_sorted.proofs.rows.RowsIterator.next.Given as goal

abbrev pub invariant-loop-block : goal.invariant-loop-block
invariant-loop-block g l = l.self.block.now ++ rows_in l.self.rest.now ≡ l.fn.self.block.now ++ rows_in l.fn.self.rest.now

abbrev pub decreases-loop-block : goal.decreases-loop-block
decreases-loop-block g l = length l.self.rest.now
