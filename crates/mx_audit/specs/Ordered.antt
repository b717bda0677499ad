-- The rows of each table are in order in files, where all is committed, and in memory.
use Rattle.std.proofs.Common.{◌≡◌, true, false, List, [], None, IsTrue, refl, sym, subst}
use Rattle.std.proofs.Math.Logic.{∥∥₁_elim}
use mathlib.Core.Bool.{Bool-set}
use Rattle.sqlite_value.specs.Order.{Row}
use Rattle.sqlite_trees.specs.Tree.{Trees}
use Rattle.sqlite_trees.specs.View.{View, IsOrdered, IsShaped}
use Rattle.sqlite_trees.specs.Memory.{memory_view, memory_is_ordered, memory_is_listed}
use Rattle.sqlite_trees.specs.declared.memory.MemStore.{MemStore}
use Rattle.sqlite_trees.specs.Objects.{catalog_tree, IsListed}
use Rattle.sqlite_trees.specs.Props.{AllByRecursion-prop, IsAscending-prop, Ordering-set}
use Rattle.sqlite_schema.specs.declared.schema.Schema.{Schema}
use Rattle.sqlite_catalog.specs.Listing.{IsSound}
use Rattle.sqlite_catalog.proofs.LayoutLemmas.{objects_rise}
use Rattle.sqlite_catalog.proofs.ReadLemmas.{shaped_of}
use Rattle.sqlite_rules.proofs.ListLemmas.{all_has, all_from}
use Rattle.sqlite_disk.specs.declared.Disk as disk
use Rattle.sqlite_wal.proofs.StateLemmas.{clean_of}
use Rattle.sqlite_store.specs.declared.store.FileStore.{FileStore}
use Rattle.sqlite_store.specs.FileStore as files
use Rattle.sqlite_store.specs.Listing.{all_shapes, all_reals, file_trees, IsOurs}
use Rattle.sqlite_store.specs.Listed.{catalog_rows, is_listed}
use Rattle.sqlite_store.proofs.ListingLemmas.{all_ordered}
use Rattle.sqlite.specs.Effect.{Database, IsDatabase}
use Rattle.sqlite.specs.Files.{file_state}
use Rattle.sqlite.specs.Held.{Held}
use Rattle.mx_audit.specs.Raw.{AreInOrder, AreNumbered}

-- A store that serves this schema keeps its rows so, by the laws `listed` and `ordered`.
in_order : (v : View) (schema : Schema) → IsSound schema v.trees → IsListed (v.trees catalog_tree) v.shape v.reals → IsOrdered v.shape v.trees → AreInOrder (record { schema = schema; trees = v.trees })
in_order v schema sound listed ordered =
    let shaped = shaped_of v schema listed (objects_rise v listed ordered) sound.lists in
    all_from _ schema.tables (λ t there.
    let rows = subst (λ s. IsShaped s (v.trees t.tree)) (all_has _ schema.tables t shaped.tables there).0 (ordered t.tree) in
    record { rise = rows.0; numbered = rows.1 })

AreNumbered-prop : (rows : List Row) → IsProp (AreNumbered rows)
AreNumbered-prop rows = hlevel (IsAscending-prop, AllByRecursion-prop, Ordering-set, Bool-set)

in_order-prop : (db : Database) → IsProp (AreInOrder db)
in_order-prop db = AllByRecursion-prop _ (λ t. AreNumbered-prop (db.trees t.tree)) db.schema.tables

-- the pages of a sound file
ours_in_order : {size : _} {numbered : _} {wanted : _} {pages : _} (schema : Schema) → IsOurs size numbered wanted pages → IsSound schema (file_trees size wanted pages)
    → AreInOrder (record { schema = schema; trees = file_trees size wanted pages })
ours_in_order {size} {numbered} {wanted} {pages} schema ours sound = in_order shown schema sound listed (all_ordered ours.file.db _) where
  shown : View
  shown = record {
    trees = file_trees size wanted pages;
    committed = file_trees size wanted pages;
    cursors = λ _. None;
    shape = all_shapes wanted;
    reals = all_reals wanted;
    committed_shape = all_shapes wanted;
    committed_reals = all_reals wanted;
    marks = [];
    is_numbered = numbered;
    has_sums = false;
    is_open = true;
    is_broken = false;
    is_clean = true;
  }

  listed : IsListed (shown.trees catalog_tree) (all_shapes wanted) (all_reals wanted)
  listed = rw (catalog_rows size wanted _) (is_listed wanted)

-- files, where all is committed
pub files_in_order : {D : Type 0} {g : disk.Ghosts D} (c : Held (FileStore D g)) → IsTrue (file_state c).is_open → (file_state c).now ≡ (file_state c).committed → IsDatabase (file_state c).now
    → AreInOrder (file_state c).now
files_in_order c is_open same whole = subst AreInOrder (sym same) (∥∥₁_elim (c.store.stored is_open) (in_order-prop (file_state c).committed) (λ stored.
    let kept : (file_state c).committed.trees ≡ _ = rw (clean_of (files.state c.store) is_open) refl in
    let sound : IsSound (file_state c).committed.schema (file_state c).committed.trees = subst IsDatabase same whole in
    subst (λ (trees : Trees). AreInOrder (record { schema = (file_state c).committed.schema; trees = trees })) (sym kept)
    (ours_in_order (file_state c).committed.schema stored.ours (subst (IsSound (file_state c).committed.schema) kept sound))))

-- a store in memory
pub memory_in_order : (c : Held MemStore) → IsDatabase (record { schema = c.schema; trees = (memory_view c.store).trees })
    → AreInOrder (record { schema = c.schema; trees = (memory_view c.store).trees })
memory_in_order c whole = in_order (memory_view c.store) c.schema whole (memory_is_listed c.store) (memory_is_ordered c.store)
