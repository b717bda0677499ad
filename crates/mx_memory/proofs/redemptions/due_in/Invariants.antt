use Rattle.std.proofs.Common.{◌≡◌, ◌+◌, ◌≤◌, ◌*◌, ◌++◌, ℕ, Option, length}
use Rattle.std.specs.Prelude.{sum_by}
use Rattle.mx_pay.specs.Limits.{most_amount}
use Rattle.mx_pay.specs.Names.{name_cmp}
use Rattle.mx_sorted.specs.Blocks.{rows_in, first_of}
use Rattle.mx_memory.specs.Due.{amount_due}
use Rattle.mx_sorted.specs.Slots.{map_of}
use Rattle.mx_book.specs.Under.{pair_cmp}
use Rattle.mx_book.specs.World.{Name}
use Rattle.mx_memory.proofs.redemptions.due_in.Given as goal

abbrev pub invariant-loop-row : goal.invariant-loop-row
invariant-loop-row l =
    let f : (Name × Option (Name × Name)) × Unit {0} → ℕ = λ e. amount_due (map_of (pair_cmp name_cmp name_cmp) l.redemptions) e.0.1 in
    record {
      sum : sum_by f (first_of l.member (l.fn.rows.block.now ++ rows_in l.fn.rows.rest.now)) ≡ l.sum + sum_by f (first_of l.member (l.row-iterator.block.now ++ rows_in l.row-iterator.rest.now));
      few : l.sum + length (l.row-iterator.block.now ++ rows_in l.row-iterator.rest.now) * most_amount ≤ length (l.fn.rows.block.now ++ rows_in l.fn.rows.rest.now) * most_amount;
    }
