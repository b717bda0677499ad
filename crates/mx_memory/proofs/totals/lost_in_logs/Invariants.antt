use Rattle.std.proofs.Common.{◌≡◌, ◌+◌, ◌≤◌, ◌*◌, ◌^◌, ◌++◌, ℕ, List, length}
use Rattle.std.specs.Prelude.{sum_by}
use Rattle.mx_pay.specs.Names.{name_cmp}
use Rattle.mx_pay.specs.Details.{details_cmp}
use Rattle.mx_memory.specs.declared.purses.BareRow.{BareRow as Kept}
use Rattle.mx_sorted.specs.Slots.{map_of}
use Rattle.mx_book.specs.World.{result_cmp}
use Rattle.std.specs.FinMap.{get}
use Rattle.mx_book.specs.RowEdits.{log_at}
use Rattle.mx_book.specs.RowTotals.{lost_in_log}
use Rattle.mx_sorted.specs.Blocks.{rows_in}
use Rattle.mx_memory.proofs.totals.lost_in_logs.Given as goal

abbrev pub invariant-loop-row : goal.invariant-loop-row
invariant-loop-row l =
    let f : List ℕ × Kept → ℕ = λ e. lost_in_log (map_of name_cmp l.purses) (map_of result_cmp l.archive) (map_of details_cmp l.settled) e.0 (log_at (get (map_of name_cmp l.purses) e.0)) in
    record {
      sum : sum_by f (l.fn.rows.block.now ++ rows_in l.fn.rows.rest.now) ≡ l.sum + sum_by f (l.row-iterator.block.now ++ rows_in l.row-iterator.rest.now);
      few : l.sum + length (l.row-iterator.block.now ++ rows_in l.row-iterator.rest.now) * 2 ^ 48 ≤ length (l.fn.rows.block.now ++ rows_in l.fn.rows.rest.now) * 2 ^ 48;
    }
