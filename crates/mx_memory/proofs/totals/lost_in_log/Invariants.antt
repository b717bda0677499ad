use Rattle.std.proofs.Common.{◌≡◌, ◌≤◌, ◌*◌, take}
use Rattle.std.specs.Prelude.{sum_by}
use Rattle.mx_pay.specs.Limits.{most_amount}
use Rattle.mx_pay.specs.Log.{logged, log_len}
use Rattle.mx_pay.specs.Names.{name_cmp}
use Rattle.mx_pay.specs.Details.{details_cmp}
use Rattle.mx_sorted.specs.Slots.{map_of}
use Rattle.mx_book.specs.World.{result_cmp}
use Rattle.mx_book.specs.RowTotals.{lost_by}
use Rattle.mx_memory.proofs.totals.lost_in_log.Given as goal

abbrev pub invariant-loop-place : goal.invariant-loop-place
invariant-loop-place l = record {
  upto : l.place-end ≡ log_len l.log;
  limit : l.place-end ≤ 16;
  sum : l.sum ≡ sum_by (lost_by (map_of name_cmp l.purses) (map_of result_cmp l.archive) (map_of details_cmp l.settled) l.purse) (take l.place (logged l.log));
  few : l.sum ≤ l.place * most_amount;
}
