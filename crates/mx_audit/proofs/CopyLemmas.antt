-- What the rows of tables are that were copied one after another.
use Rattle.mx_tables.proofs.Common.{IfOk-weaker, ◌≡◌, ℕ, ◌&&◌, Bool, true, false, List, [], ◌∷◌, ◌++◌, Some, Ok, refl, ◌∙◌, inl, inr, arith, length, take, ◌+◌, ◌<◌, ◌≤◌, column, Null, Row, Database, Executes, state, going, AllByRecursion}
use Rattle.std.proofs.Common.{Err, IfOk, Result, OnOk, ◌≢◌, ◌==◌, ◌||◌, if◌then◌else◌, Less, append_assoc, drop, get_or, map, not, slice_get, sym, ap, subst, suc, zero}
use Rattle.std.specs.Prelude.{IsTrue}
use Rattle.std.specs.List.{list_all, list_any}
use Rattle.std.proofs.lemmas.Bool.{cases_Bool}
use Rattle.std.proofs.lemmas.Bool.Decides.{nat_tests}
use Rattle.sqlite_value.specs.Order.{value_cmp}
use Rattle.sqlite_trees.specs.Tree.{Trees, IsTable, put_row, rowid}
use Rattle.sqlite_trees.specs.declared.store.Store.{Ghosts}
use Rattle.sqlite_trees.proofs.ListLemmas.{all_weaker, all-append}
use Rattle.sqlite_trees.specs.View.{is_int}
use Rattle.std.proofs.lemmas.List.{append-nil, map-append, take_more}
use Rattle.sqlite_catalog.specs.Change.{KeepsRows}
use Rattle.sqlite_rules.specs.Edit.{put_all, with_rowid, numbered}
use Rattle.sqlite_rules.specs.declared.error.Rowids.TheVariants.{Chosen}
use Rattle.sqlite_schema.specs.declared.schema.Constraint.TheVariants.{NotNull, Unique}
use Rattle.sqlite_schema.specs.declared.schema.Schema.{Schema}
use Rattle.sqlite_schema.specs.declared.schema.Table.{Table}
use Rattle.sqlite_schema.specs.declared.schema.Keys.TheVariants.{Enforced}
use Rattle.sqlite_schema.specs.Rules.{are_typed, are_present, clashes, guards, passes}
use Rattle.sqlite_rules.specs.Action.{works}
use Rattle.sqlite_sql.specs.Ops.{is_null}
use Rattle.sqlite.specs.Effect.{IsDatabase}
use Rattle.sqlite.specs.Held.{Held}
use Rattle.sqlite.specs.State.{HasCleanDisk, IsLive, State, Shown}
use Rattle.sqlite.specs.Values.{bound, bound_value}
use Rattle.sqlite.specs.declared.savepoint.Savepoint.{Savepoint}
use Rattle.sqlite_value.specs.declared.value.ValueRef.{ValueRef}
use Rattle.sqlite_value.specs.Value.{owned}
use Rattle.mx_tables.specs.Made.{Blank}
use Rattle.mx_book.specs.World.{World}
use Rattle.mx_tables.specs.Holds.{SpellsIn, SpellsOneIn}
use Rattle.mx_tables.specs.Schema.{cells_in, schema_of}
use Rattle.mx_tables.specs.Migration.{IsWhole, Migrates}
use Rattle.mx_book.specs.declared.contract.StoreFault.{StoreFault}
use Rattle.mx_tables.specs.States.{Commits, IsAt, Runs, StaysAt, StaysIdle, Steps, worry}
use Rattle.mx_tables.specs.declared.making.Version.{Version}
use Rattle.mx_tables.specs.declared.making.Version.TheVariants.{One, Two}
use Rattle.mx_tables.proofs.CallLemmas.{steps_none, steps_then, steps_to}
use Rattle.mx_tables.proofs.MigrationLemmas.{kept_store}
use Rattle.mx_tables.proofs.StateLemmas.{idle_sure, rests_at, rests_then, sure, sure_before}
use Rattle.mx_tables.proofs.Statements.{puts}
use Rattle.mx_audit.specs.Audited.{tree_of}
use Rattle.mx_audit.specs.Copies.{Copies, Fills, FillsTables, HasRaised, IsAmong, IsLent, row_text, rows_text, sources_in, whole_of}
use Rattle.mx_audit.specs.Raw.{AreInOrder, AreNumbered}
use Rattle.mx_audit.specs.Scans.{ScansAt, TakesAll}
use Rattle.mx_audit.specs.declared.copying.Filler.{Filler}
use Rattle.mx_audit.specs.declared.opening.Refusal.{Refusal}
use Rattle.mx_tables.specs.declared.migration.Migrated.{Migrated}
use Rattle.mx_audit.specs.declared.typed.Source.{Source}
use Rattle.mx_audit.proofs.CopyTexts.{known, place_of, table_at, terms_of, uncounted}
use Rattle.mx_audit.proofs.RawLemmas.{are_of_types}
use Rattle.mx_audit.proofs.ScanLemmas.{shows_in_order}
use Rattle.mx_audit.proofs.TypedLemmas.{table_of}
use Rattle.mx_audit.proofs.WholeRows.{IsWholeRow, whole_row}

-- ---- what is read

-- the rows of a table in their order
pub shows_rows : (v : Version) (from : Source) → IsAmong v from → (old new : State) (rows : List Row) → old.now.schema ≡ schema_of v → IsTable (old.now.trees (tree_of from)) → Shown (rows_text from) [] old new rows
    → rows ≡ map (whole_of from) (old.now.trees (tree_of from))
shows_rows v from among old new rows has rise h =
    let k = known v from among in
    shows_in_order (schema_of v) (rows_text from) (tree_of from) _ _ k.reads k.plain_read k.unlisted old new rows has rise h

-- ---- what is written

-- no foreign key acts on new rows
quiet : (v : Version) (b : Bool) (tree : ℕ) (olds news : List Row) → (length news == 0) ≡ b → works (schema_of v) Enforced 0 tree olds news ≡ []
quiet One b tree olds news e = grind (arith, e)
quiet Two b tree olds news e = grind (arith, e)

-- these rows were put into a table of a version, and the other tables are as they were
pub record Puts (v : Version) (from : Source) (rows : List Row) (old new : State) : Type 0 where
  pub schema : new.now.schema ≡ schema_of v
  pub there : new.now.trees (tree_of from) ≡ put_all (old.now.trees (tree_of from)) rows
  pub others : AllByRecursion (λ t. t.tree ≢ tree_of from → new.now.trees t.tree ≡ old.now.trees t.tree) (schema_of v).tables

own_number : (rows : List Row) (r : Row) → is_null (rowid r) ≡ false → with_rowid Chosen rows r ≡ r
own_number rows r there = rw there refl

puts_one : (v : Version) (from : Source) → IsAmong v from → (r : Row) → IsWholeRow from r → (old new : State) (count : ℕ) → old.now.schema ≡ schema_of v
    → Executes (row_text from) (map bound_value (whole_of from r)) old new (Ok count) → Puts v from (r ∷ []) old new
puts_one v from among r whole old new count has ran =
    let k = known v from among in
    let it = puts (schema_of v) (place_of from) (table_at from) k.found (λ olds news. quiet v _ (tree_of from) olds news refl) (row_text from) (map bound_value (whole_of from r)) old new has k.plain_write count ran
    (terms_of from) (length (terms_of from)) (r ∷ []) k.writes (uncounted from) whole.same in
    record {
      schema = it.0.schema_is;
      there = it.0.rows_are ∙ ap (λ x. put_row x (old.now.trees (tree_of from))) (own_number (old.now.trees (tree_of from)) r whole.numbered);
      others = it.0.others;
    }

puts_then : (v : Version) (from : Source) (r : Row) (rows : List Row) (a b c : State) → Puts v from (r ∷ []) a b → Puts v from rows b c → Puts v from (r ∷ rows) a c
puts_then v from r rows a b c one two = record {
  schema = two.schema;
  there = two.there ∙ ap (λ tree. put_all tree rows) one.there;
  others = both (schema_of v).tables one.others two.others;
} where
  both : (ts : List Table) → AllByRecursion (λ t. t.tree ≢ tree_of from → b.now.trees t.tree ≡ a.now.trees t.tree) ts → AllByRecursion (λ t. t.tree ≢ tree_of from → c.now.trees t.tree ≡ b.now.trees t.tree) ts
      → AllByRecursion (λ t. t.tree ≢ tree_of from → c.now.trees t.tree ≡ a.now.trees t.tree) ts
  both [] one two = tt
  both (t ∷ ts) one two = (λ apart. two.0 apart ∙ one.0 apart, both ts one.1 two.1)

-- rows that are put in their order into none are these rows
put_last : (done : List Row) (r : Row) → AllByRecursion (λ x. value_cmp (rowid x) (rowid r) ≡ Less) done → put_row r done ≡ done ++ r ∷ []
put_last [] r below = refl
put_last (x ∷ done) r below = rw below.0 (ap (λ rows. x ∷ rows) (put_last done r below.1))

put_in_order : (rows done : List Row) → AllByRecursion (λ x. AllByRecursion (λ y. value_cmp (rowid x) (rowid y) ≡ Less) rows) done → IsTable rows → put_all done rows ≡ done ++ rows
put_in_order [] done below rise = sym (append-nil done)
put_in_order (r ∷ rows) done below rise =
    ap (λ all. put_all all rows) (put_last done r (all_weaker _ _ (λ x h. h.0) done below))
    ∙ put_in_order rows (done ++ r ∷ []) (all-append _ done (r ∷ []) (all_weaker _ _ (λ x h. h.1) done below) (rise.0, tt)) rise.1
    ∙ append_assoc done (r ∷ []) rows

put_anew : (rows : List Row) → IsTable rows → put_all [] rows ≡ rows
put_anew rows rise = put_in_order rows [] tt rise

-- ---- the rows of a database

all_at : {X : Type 0} (P : X → Type 0) (xs : List X) (at : ℕ) (x : X) → slice_get xs at ≡ Some x → AllByRecursion P xs → P x
all_at P [] at x is all = absurd (cc)
all_at P (y ∷ ys) zero x is all = subst P (cc) all.0
all_at P (y ∷ ys) (suc at) x is all = all_at P ys at x is all.1

pub all_got : {X : Type 0} (P : X → Type 0) (xs : List X) (at : ℕ) (x : X) → at < length xs → AllByRecursion P xs → P (get_or xs at x)
all_got P [] at x within all = absurd (omega (arith, within))
all_got P (y ∷ ys) zero x within all = all.0
all_got P (y ∷ ys) (suc at) x within all = all_got P ys at x (omega (arith, within)) all.1

wholes : (from : Source) (rows : List Row) → AllByRecursion (λ r. are_typed (table_of from).key 0 (table_of from).columns (drop 1 r) ≡ true) rows
    → AllByRecursion (λ r. are_present (table_of from).key 0 (table_of from).columns r ≡ true) rows → AllByRecursion (λ r. IsTrue (is_int (rowid r))) rows → AllByRecursion (IsWholeRow from) rows
wholes from [] typed present numbered = tt
wholes from (r ∷ rows) typed present numbered =
    (whole_row from r (record { numbered = numbered.0; typed = typed.0 }) present.0, wholes from rows typed.1 present.1 numbered.1)

-- the rows of a table have numbers, which rise, and are whole
pub record AreWhole (from : Source) (rows : List Row) : Type 0 where
  pub rise : IsTable rows
  pub whole : AllByRecursion (IsWholeRow from) rows

pub are_whole : (v : Version) (db : Database) → db.schema ≡ schema_of v → IsDatabase db → AreInOrder db → (from : Source) → IsAmong v from → AreWhole from (db.trees (tree_of from))
are_whole v db has sound ordered from among =
    let found = (known v from among).found in
    let at = λ (P : Table → Type 0) (all : AllByRecursion P db.schema.tables). all_at P (schema_of v).tables (place_of from) (table_at from) found (subst (λ (s : Schema). AllByRecursion P s.tables) has all) in
    let numbers = at (λ t. AreNumbered (db.trees t.tree)) ordered in
    record {
      rise = numbers.rise;
      whole = wholes from (db.trees (tree_of from)) (at _ (are_of_types db sound)) (at _ (sound.obeys.rules NotNull)) numbers.numbered;
    }

-- ---- tables that are filled one after another

abbrev is_left : List Source → ℕ → Bool
is_left left tree = list_any (λ f. tree_of f == tree) left

-- the tables of these are empty still, and the others have the rows of the database
abbrev AreLeft : Trees → State → List Source → List Table → Type 0
AreLeft db s left ts = AllByRecursion (λ t. s.now.trees t.tree ≡ (if is_left left t.tree then [] else db t.tree)) ts

-- no two are of one tree
abbrev AreApart : List Source → Type 0
AreApart [] = Unit {0}
AreApart (f ∷ fs) = (is_left fs (tree_of f) ≡ false) × AreApart fs

if_false : {X : Type 0} (b : Bool) (x y : X) → b ≡ false → (if b then x else y) ≡ y
if_false b x y e = rw e refl

if_first : {X : Type 0} (b c : Bool) (x y : X) → b ≡ true → (if (b || c) then x else y) ≡ x
if_first b c x y e = rw e refl

if_later : {X : Type 0} (b c : Bool) (x y : X) → b ≡ false → (if (b || c) then x else y) ≡ (if c then x else y)
if_later b c x y e = rw e refl

same_tree : (m n : ℕ) → (m == n) ≡ true → m ≡ n
same_tree m n h = grind (arith, nat_tests, h)

other_tree : (m n : ℕ) → (m == n) ≡ false → m ≡ n → ⊥
other_tree m n h e = grind (arith, nat_tests, h, e)

left_one : (db : Trees) (from : Source) (left : List Source) (a b : State) (tree : ℕ) → IsTable (db (tree_of from)) → is_left left (tree_of from) ≡ false
    → b.now.trees (tree_of from) ≡ put_all (a.now.trees (tree_of from)) (db (tree_of from)) → (tree ≢ tree_of from → b.now.trees tree ≡ a.now.trees tree)
    → a.now.trees tree ≡ (if is_left (from ∷ left) tree then [] else db tree) → b.now.trees tree ≡ (if is_left left tree then [] else db tree)
left_one db from left a b tree rise apart there other was = elim (cases_Bool (tree_of from == tree)) [
  | inl same ↦ (
      let e = same_tree (tree_of from) tree same in
      let empty : a.now.trees (tree_of from) ≡ [] = subst (λ n. a.now.trees n ≡ []) (sym e) (was ∙ if_first _ _ [] (db tree) same) in
      subst (λ n. b.now.trees n ≡ (if is_left left n then [] else db n)) e
      (there ∙ ap (λ rows. put_all rows (db (tree_of from))) empty ∙ put_anew (db (tree_of from)) rise ∙ sym (if_false _ [] (db (tree_of from)) apart)))
  | inr differs ↦ other (λ e. other_tree (tree_of from) tree differs (sym e)) ∙ was ∙ if_later _ _ [] (db tree) differs
]

left_all : (v : Version) (db : Trees) (from : Source) (left : List Source) (a b : State) → IsTable (db (tree_of from)) → is_left left (tree_of from) ≡ false → Puts v from (db (tree_of from)) a b
    → AreLeft db a (from ∷ left) (schema_of v).tables → AreLeft db b left (schema_of v).tables
left_all v db from left a b rise apart puts was = each (schema_of v).tables puts.others was where
  each : (ts : List Table) → AllByRecursion (λ t. t.tree ≢ tree_of from → b.now.trees t.tree ≡ a.now.trees t.tree) ts → AreLeft db a (from ∷ left) ts → AreLeft db b left ts
  each [] others was = tt
  each (t ∷ ts) others was = (left_one db from left a b t.tree rise apart puts.there others.0 was.0, each ts others.1 was.1)

none_put : (s : State) (tree : ℕ) (ts : List Table) → AllByRecursion (λ t. t.tree ≢ tree → s.now.trees t.tree ≡ s.now.trees t.tree) ts
none_put s tree [] = tt
none_put s tree (t ∷ ts) = (λ apart. refl, none_put s tree ts)

begun : (v : Version) (db : Trees) (s : State) → AllByRecursion (λ t. s.now.trees t.tree ≡ []) (schema_of v).tables → AreLeft db s (sources_in v) (schema_of v).tables
begun One db s empty = empty
begun Two db s empty = empty

pub among_in : (v : Version) → AllByRecursion (IsAmong v) (sources_in v)
among_in One = (tt, (tt, (tt, (tt, (tt, (tt, (tt, (tt, (tt, (tt, (tt, tt)))))))))))
among_in Two = (tt, (tt, (tt, (tt, (tt, (tt, (tt, (tt, (tt, (tt, (tt, (tt, tt))))))))))))

apart_in : (v : Version) → AreApart (sources_in v)
apart_in One = (refl, (refl, (refl, (refl, (refl, (refl, (refl, (refl, (refl, (refl, (refl, tt)))))))))))
apart_in Two = (refl, (refl, (refl, (refl, (refl, (refl, (refl, (refl, (refl, (refl, (refl, (refl, tt))))))))))))

module _ {T : Type 0} (g : Ghosts T) where
  abbrev seen : Savepoint T g → State
  seen tx = state g tx.conn.now

  takes_all : (v : Version) (from : Source) → IsAmong v from → (rows : List Row) → AllByRecursion (IsWholeRow from) rows → (a b : Savepoint T g)
      → TakesAll (Fills g from) a (map (whole_of from) rows) b → Steps g a b going (λ _. (seen a).now.schema ≡ schema_of v → Puts v from rows (seen a) (seen b))
  takes_all v from among [] whole a b h =
      subst (λ (tx : Savepoint T g). Steps g a tx going (λ _. (seen a).now.schema ≡ schema_of v → Puts v from [] (seen a) (seen tx))) (sym h)
      (steps_none g a tt (λ has. record { schema = has; there = refl; others = none_put (seen a) (tree_of from) (schema_of v).tables }))
  takes_all v from among (r ∷ rows) whole a b h =
      let mid = h.0 in
      let first : Steps g a mid going (λ _. (seen a).now.schema ≡ schema_of v → Puts v from (r ∷ []) (seen a) (seen mid)) =
      steps_to g h.1 (λ x it has. puts_one v from among r whole.0 (seen a) (seen mid) it.0 has it.2) in
      steps_to g (steps_then g first (takes_all v from among rows whole.1 mid b h.2)) (λ x both has.
      let one = both.0 has in
      puts_then v from r rows (seen a) (seen mid) (seen b) one (both.1 one.schema))

  fills_tables : (v : Version) (db : Trees) → ((from : Source) → IsAmong v from → AreWhole from (db (tree_of from))) → (left : List Source) → AllByRecursion (IsAmong v) left → AreApart left → (a b : Savepoint T g)
      → FillsTables g db left a b
      → Steps g a b going (λ _. (seen a).now.schema ≡ schema_of v → AreLeft db (seen a) left (schema_of v).tables → ((seen b).now.schema ≡ schema_of v) × KeepsRows (schema_of v).tables db (seen b).now.trees)
  fills_tables v db whole [] among apart a b h =
      subst (λ (tx : Savepoint T g). Steps g a tx going (λ _. (seen a).now.schema ≡ schema_of v → AreLeft db (seen a) [] (schema_of v).tables → ((seen tx).now.schema ≡ schema_of v) × KeepsRows (schema_of v).tables db (seen tx).now.trees)) (sym h)
      (steps_none g a tt (λ has left. (has, left)))
  fills_tables v db whole (from ∷ left) among apart a b h =
      let mid = h.0 in
      let w = whole from among.0 in
      let first = takes_all v from among.0 (db (tree_of from)) w.whole a mid (h.1 w.rise) in
      steps_to g (steps_then g first (fills_tables v db whole left among.1 apart.1 mid b h.2)) (λ x both has was.
      let puts = both.0 has in
      both.1 puts.schema (left_all v db from left (seen a) (seen mid) w.rise apart.0 puts was))

  -- all tables of new ones
  pub fills_all : (v : Version) (db : Database) → db.schema ≡ schema_of v → IsDatabase db → AreInOrder db → (a b : Savepoint T g) → FillsTables g db.trees (sources_in v) a b
      → Steps g a b going (λ _. Blank (schema_of v) (seen a) → Copies v db (seen b).now)
  fills_all v db has sound ordered a b h =
      steps_to g (fills_tables v db.trees (are_whole v db has sound ordered) (sources_in v) (among_in v) (apart_in v) a b h) (λ x did blank.
      let it = did blank.schema_is (begun v db.trees (seen a) blank.empty) in
      record { from = has; to = it.0; rows = it.1 })

  pub lent_none : {a : Savepoint T g} → IsLent g a a
  lent_none = record { same_reference = refl; place = refl }

  pub lent_then : {a b c : Savepoint T g} → IsLent g a b → IsLent g b c → IsLent g a c
  lent_then one two = record { same_reference = two.same_reference ∙ one.same_reference; place = two.place ∙ one.place }

  -- what takes the rows of a table adds them in its savepoint
  pub fills_taken : (from : Source) (rows : List Row) (a b : Filler T g) → a.source ≡ from → TakesAll (λ (old : Filler T g) row new. (new.source ≡ old.source) × Fills g old.source old.tx.now row new.tx.now) a rows b
      → TakesAll (Fills g from) a.tx.now rows b.tx.now
  fills_taken from [] a b is h = ap (λ (f : Filler T g). f.tx.now) h
  fills_taken from (row ∷ rows) a b is h =
      let mid = h.0 in
      (mid.tx.now, subst (λ s. Fills g s a.tx.now row mid.tx.now) is h.1.1, fills_taken from rows mid b (h.1.0 ∙ is) h.2)

-- ---- what a copy spells

kept_unique : (of : Schema) (old new : Trees) (ts : List Table) → KeepsRows ts old new → AllByRecursion (λ t. AllByRecursion (λ row. passes Unique of old t row ≡ true) (old t.tree)) ts
    → AllByRecursion (λ t. AllByRecursion (λ row. passes Unique of new t row ≡ true) (new t.tree)) ts
kept_unique of old new [] kept all = tt
kept_unique of old new (t ∷ ts) kept all = (
  subst (λ rows. AllByRecursion (λ row. list_all (λ i. not (guards i t && clashes i.order i.columns rows row)) of.indexes ≡ true) rows) (sym kept.0) all.0,
  kept_unique of old new ts kept.1 all.1,
)

meta_first : (v : Version) (old new : Trees) → KeepsRows (schema_of v).tables old new → new 0 ≡ old 0
meta_first One old new kept = kept.0
meta_first Two old new kept = kept.0

-- the World of the database that was copied
pub copy_spells : (v : Version) (old new : Database) (w : World) → Copies v old new → SpellsIn v old w → SpellsIn v new w
copy_spells v old new w copy s =
    let c = s.holds.has in
    record {
      rows = s.rows;
      holds = record {
        contents = s.holds.contents;
        has = record {
          schema = copy.to;
          meta = meta_first v old.trees new.trees copy.rows ∙ c.meta;
          tables = kept_store old.trees new.trees (schema_of v).tables (cells_in v s.holds.contents) copy.rows c.tables;
          tokens = c.tokens;
          unique = kept_unique (schema_of v) old.trees new.trees (schema_of v).tables copy.rows c.unique;
        };
        rows = s.holds.rows;
      };
      spells = s.spells;
    }

turned_rows : (old new : Trees) (ts : List Table) → KeepsRows ts old new → KeepsRows ts new old
turned_rows old new [] kept = tt
turned_rows old new (t ∷ ts) kept = (sym kept.0, turned_rows old new ts kept.1)

turned : (v : Version) (old new : Database) → Copies v old new → Copies v new old
turned v old new copy = record { from = copy.to; to = copy.from; rows = turned_rows old.trees new.trees (schema_of v).tables copy.rows }

same_version : (v w : Version) → schema_of v ≡ schema_of w → v ≡ w
same_version One One e = refl
same_version One Two e = absurd (let many : ◌≡◌ {A = ℕ} 11 12 = ap (λ (s : Schema). length s.tables) e in omega arith)
same_version Two One e = absurd (let many : ◌≡◌ {A = ℕ} 12 11 = ap (λ (s : Schema). length s.tables) e in omega arith)
same_version Two Two e = refl

-- and no other
pub copy_spells_one : (v version : Version) (old new : Database) (w : World) → Copies version old new → SpellsOneIn v old w → SpellsOneIn v new w
copy_spells_one v version old new w copy s =
    let same = same_version version v (sym copy.from ∙ s.spelled.holds.has.schema) in
    let it = subst (λ x. Copies x old new) same copy in
    record { spelled = copy_spells v old new w it s.spelled; only = λ u other. s.only u (copy_spells v new old u (turned v old new it) other) }

-- ---- the tables of a store

pub copies_all : {S T : Type 0} (g : Ghosts S) (h : Ghosts T) (v : Version) (a b : Held S) (from to : Savepoint T h) → IsLive (state g a)
    → (IsTrue (state g a).is_open → (state g a).now ≡ (state g a).committed → IsDatabase (state g a).now → AreInOrder (state g a).now)
    → ScansAt {T = Unit {0}} (schema_of v) g a b (Ok tt) (FillsTables h (state g a).now.trees (sources_in v) from to) → IsAt false (schema_of v) (state g a) → worry (state g b) ≡ 0
    → Steps h from to going (λ _. Blank (schema_of v) (seen h from) → Copies v (state g a).now (seen h to).now)
copies_all g h v a b from to live ordered scans ours calm =
    let kept = scans.stays ours in
    let before = sure_before (state g a) (state g b) kept.lasts calm in
    let first = sure (state g a) before in
    let database = (live first.0).0 in
    let steady = ours.steady before (ours.idle first.1 refl) in
    fills_all h v (state g a).now (ours.schema before) database (ordered first.0 (sym steady) database) from to (scans.value ours (idle_sure (state g b) calm))

-- what a copy became that was migrated
pub raised_so : {T : Type 0} (h : Ghosts T) (version : Version) (old : Database) (mid new : Held T) (result : Result Migrated Refusal) → (HasCleanDisk (state h mid) → Copies version old (state h mid).now) → worry (state h mid) ≤ worry (state h new)
    → worry (state h new) ≡ 0 → IfOk result (λ made. Migrates made (state h mid).now (state h new).now) → IfOk result (λ made. HasRaised made old (state h new).now)
raised_so h version old mid new result copied later sound it = IfOk-weaker result _ _ (λ made migrated. record {
  version = version;
  copy = (state h mid).now;
  copied = copied (sure (state h mid) (sure_before (state h mid) (state h new) later sound)).1;
  migrated = migrated;
}) it

-- a store was found to be of a version, and was copied as one
module _ {S T : Type 0} (g : Ghosts S) (h : Ghosts T) (version : Version) (old mid new : Held S) (before after : Held T) (found : StaysAt false (schema_of version) (state g old) (state g mid))
    (whole : worry (state g mid) ≡ 0 → IsWhole version (state g old).now) (went : StaysAt false (schema_of version) (state g mid) (state g new)) where
  pub rests_copied : StaysIdle (state g old) (state g new)
  rests_copied = rests_then (state g old) (state g mid) (state g new) (rests_at (state g old) (state g mid) found) (rests_at (state g mid) (state g new) went)

  module _ {E : Type 0} (commits : worry (state g new) ≡ 0 → Commits {T = Unit {0}} {E = E} (state h before) (state h after) (Ok tt) (Copies version (state g mid).now (state h after).now)) (calm : worry (state g new) ≡ 0) where
    was_calm : worry (state g mid) ≡ 0
    was_calm = sure_before (state g mid) (state g new) went.lasts calm

    pub whole_copied : IsWhole version (state g old).now
    whole_copied = whole was_calm

    pub rows_copied : HasCleanDisk (state h after) → Copies version (state g old).now (state h after).now
    rows_copied clean = subst (λ d. Copies version d (state h after).now) (found.same (idle_sure (state g mid) was_calm)) ((commits calm).all clean).0

    pub ours_copied : (v : Version) → (state g old).now.schema ≡ schema_of v → IsAt false (schema_of v) (state h after)
    ours_copied v has =
        let done = commits calm in
        let to = λ (sound : worry (state h after) ≡ 0). (rows_copied (sure (state h after) sound).1).to ∙ sym whole_copied.schema ∙ has in
        let settled = λ (sound : worry (state h after) ≡ 0). (done.all (sure (state h after) sound).1).1 in
        record {
          idle = λ clean none. done.ended clean;
          steady = λ sound outside. settled sound;
          schema = to;
          base = λ sound. ap (λ (d : Database). d.schema) (settled sound) ∙ to sound;
        }

-- ---- one row

pub fills_so : {S : Type 0} (g : Ghosts S) (r : Result (Unit {0}) StoreFault) (from is : Source) (old new : Savepoint S g) (row : Row) → is ≡ from → Runs g (row_text from) (map bound_value row) old new r (λ _. Unit {0})
    → OnOk r ((is ≡ from) × Fills g from old row new)
fills_so g (Ok x) from is old new row same h = (same, h)
fills_so g (Err e) from is old new row same h = tt

-- ---- the parameters of a row

pub bound_more : (row : Row) (at : ℕ) (v : ValueRef) (values : List ValueRef) → at < length row → owned v ≡ column row at → bound values ≡ map bound_value (take at row)
    → bound (values ++ v ∷ []) ≡ map bound_value (take (at + 1) row)
bound_more row at v values within is was =
    map-append _ values (v ∷ [])
    ∙ ap (λ (all : Row). all ++ bound_value (owned v) ∷ []) was
    ∙ ap (λ x. map bound_value (take at row) ++ bound_value x ∷ []) is
    ∙ sym (map-append bound_value (take at row) (column row at ∷ []))
    ∙ ap (map bound_value) (sym (take_more row at Null within))
