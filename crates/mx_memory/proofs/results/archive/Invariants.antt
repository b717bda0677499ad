use Rattle.std.proofs.Common.{◌≡◌, ◌+◌, ◌≤◌, ◌&&◌, ◌||◌, not, take}
use Rattle.std.specs.List.{list_any}
use Rattle.std.specs.FinMap.{contains_key}
use Rattle.mx_pay.specs.Limits.{most_entries}
use Rattle.mx_pay.specs.Details.{Details, is_details}
use Rattle.mx_pay.specs.Log.{logged, log_len}
use Rattle.mx_pay.specs.Names.{is_name}
use Rattle.mx_book.specs.World.{Name as NameOf, result_cmp}
use Rattle.mx_sorted.specs.Slots.{map_of}
use Rattle.mx_memory.proofs.results.archive.Given as goal

abbrev pub invariant-loop-place : goal.invariant-loop-place
invariant-loop-place l = record {
  upto : l.place-end ≡ log_len l.results;
  limit : l.place-end ≤ most_entries;
  tray : (k : NameOf × Details) → contains_key (map_of result_cmp l.tray) k ≡ (contains_key (map_of result_cmp l.fn.tray) k && not (is_name l.purse k.0 && list_any (is_details k.1) (take l.place (logged l.results))));
  archive : (k : NameOf × Details) → contains_key (map_of result_cmp l.archive) k ≡ (contains_key (map_of result_cmp l.fn.archive) k || (is_name l.purse k.0 && list_any (is_details k.1) (take l.place (logged l.results))));
  tray_room : l.fn.tray.room ≤ l.tray.room;
  archive_room : l.fn.archive.room ≤ l.archive.room + l.place;
}
