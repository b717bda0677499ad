use Rattle.std.proofs.Common.{◌≡◌, ◌≤◌, ◌&&◌, take}
use Rattle.std.specs.List.{list_any}
use Rattle.std.specs.FinMap.{contains_key}
use Rattle.mx_pay.specs.Details.{Details, is_details}
use Rattle.mx_pay.specs.Log.{logged, log_len, has_logged}
use Rattle.mx_book.specs.World.{result_cmp}
use Rattle.mx_sorted.specs.Slots.{map_of}
use Rattle.mx_memory.proofs.results.laid.Given as goal

abbrev pub invariant-loop-place : goal.invariant-loop-place
invariant-loop-place l = record {
  upto : l.place-end ≡ log_len l.log;
  few : log_len l.results ≤ l.place;
  laid : (d : Details) → has_logged l.results d ≡ (list_any (is_details d) (take l.place (logged l.log)) && contains_key (map_of result_cmp l.tray) (l.purse, d));
}
