use Rattle.std.proofs.Common.{◌≡◌, ◌+◌, ◌≤◌, ◌*◌, ◌++◌, ℕ, List, length}
use Rattle.std.specs.Prelude.{sum_by}
use Rattle.mx_pay.specs.Limits.{most_amount}
use Rattle.mx_pay.specs.Names.{name_cmp}
use Rattle.mx_pay.specs.Details.{Details, details_cmp}
use Rattle.mx_sorted.specs.Slots.{map_of}
use Rattle.mx_book.specs.World.{result_cmp}
use Rattle.mx_book.specs.RowTotals.{lost_in_archive}
use Rattle.mx_sorted.specs.Blocks.{rows_in}
use Rattle.mx_memory.proofs.totals.lost_in_results.Given as goal

abbrev pub invariant-loop-row : goal.invariant-loop-row
invariant-loop-row l =
    let f : (List ℕ × Details) × Unit {0} → ℕ = λ e. lost_in_archive (map_of name_cmp l.purses) (map_of result_cmp l.archive) (map_of details_cmp l.settled) e.0 in
    record {
      sum : sum_by f (l.fn.rows.block.now ++ rows_in l.fn.rows.rest.now) ≡ l.sum + sum_by f (l.row-iterator.block.now ++ rows_in l.row-iterator.rest.now);
      few : l.sum + length (l.row-iterator.block.now ++ rows_in l.row-iterator.rest.now) * most_amount ≤ length (l.fn.rows.block.now ++ rows_in l.fn.rows.rest.now) * most_amount;
    }
