use Rattle.std.specs.Prelude.{IsTrue}
use Rattle.std.proofs.Common.{◌≡◌, ◌-◌, length, drop}
use Rattle.mx_memory.specs.Due.{all_fit}
use Rattle.mx_book.specs.RowEdits.{all_rewritten, all_able, archive_rows}
use Rattle.mx_memory.specs.Shelves.{rows_of, HasRoom}
use Rattle.mx_memory.proofs.shelves.tables.Shelves.edit_all.Given as goal

abbrev pub invariant-loop-edit : goal.invariant-loop-edit
invariant-loop-edit l = record {
  able : IsTrue (all_able (rows_of l.self) (drop l.edit-index l.edits));
  fit : IsTrue (all_fit (rows_of l.self) (drop l.edit-index l.edits));
  room : HasRoom (length l.edits - l.edit-index) (archive_rows (drop l.edit-index l.edits)) l.self;
  made : all_rewritten (rows_of l.self) (drop l.edit-index l.edits) ≡ all_rewritten (rows_of l.fn.self) l.edits;
}
