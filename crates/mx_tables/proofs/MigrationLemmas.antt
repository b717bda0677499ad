-- How tables of version 1 become those of version 2.
use Rattle.mx_tables.proofs.Common.{◌≡◌, ℕ, ◌≤◌, false, true, List, [], ◌∷◌, ◌++◌, length, filter, Ok, refl, ◌∙◌, inl, inr, pos, arith, is_eq, Null, Int, Text, Row, column, col, number, Database, Executes, IsPermutation, Rows, Holds, office_schema, state}
use Rattle.std.proofs.Common.{◌≢◌, ◌⊎◌, Err, IsTrue, Result, OnOk, OnErr, drop, map, not, sym, ap, ap₂, subst}
use Rattle.std.specs.Prelude.{◌==◌}
use Rattle.std.specs.Cmp.{first_so, second_so}
use Rattle.std.specs.List.{AllByRecursion, list_all}
use Rattle.std.proofs.lemmas.Cmp.{tied_itself}
use Rattle.std.proofs.lemmas.List.Sorted.{IsPermutation-sym}
use Rattle.sqlite_value.specs.declared.value.Value.{Value}
use Rattle.sqlite_value.specs.Order.{value_cmp}
use Rattle.sqlite_value.proofs.OrderLemmas.{value_cmp-apart, value_cmp_total}
use Rattle.sqlite_trees.specs.Tree.{Trees, has_rowid}
use Rattle.sqlite_trees.specs.View.{doubt}
use Rattle.sqlite_trees.specs.declared.store.Store.{Ghosts}
use Rattle.sqlite_schema.specs.declared.schema.Constraint.TheVariants.{Unique}
use Rattle.sqlite_schema.specs.declared.schema.Kind.TheVariants.{Integer}
use Rattle.sqlite_schema.specs.declared.schema.Schema.{Schema}
use Rattle.sqlite_schema.specs.declared.schema.Table.{Table}
use Rattle.sqlite_catalog.specs.Change.{KeepsRows}
use Rattle.sqlite_rules.specs.Cast.{cast, cast_row, as_integer}
use Rattle.sqlite_rules.specs.Calls.{ids_of}
use Rattle.sqlite_rules.specs.Edit.{put_all, without_all}
use Rattle.sqlite_rules.specs.Lists.{Has}
use Rattle.sqlite_rules.proofs.ListLemmas.{has_filtered}
use Rattle.sqlite_rules.proofs.ProbeLemmas.{has_mapped, mapped_has}
use Rattle.sqlite_rules.proofs.TableLemmas.{put_all_adds}
use Rattle.sqlite_sql.specs.Term.{Term, lit, eval_all}
use Rattle.sqlite.specs.Held.{Held}
use Rattle.sqlite.specs.State.{State, HasCleanDisk, Marks, Survives, begins_at}
use Rattle.mx_pay.proofs.TestLemmas.{is_equal}
use Rattle.mx_book.specs.World.{World}
use Rattle.mx_book.specs.declared.contract.StoreFault.{StoreFault}
use Rattle.mx_tables.specs.declared.making.Version.{Version}
use Rattle.mx_tables.specs.declared.making.Version.TheVariants.{One, Two}
use Rattle.mx_tables.specs.declared.migration.Migrated.TheVariants.{Done}
use Rattle.mx_tables.specs.Schema.{schema_11, schema_of, settled, cells_in}
use Rattle.mx_tables.specs.Holds.{AllStore, Stores, meta_rows_in, HoldsIn}
use Rattle.mx_tables.specs.Made.{AddsTable}
use Rattle.mx_tables.specs.Migration.{IsWhole, Upgrades, UpgradesOpen, SetsVersion, StopsUpgrading, Migrates}
use Rattle.mx_tables.specs.States.{worry, IsOurs, StaysAt, Commits}
use Rattle.mx_tables.proofs.Texts.{is_first, set_version, set_version_is}
use Rattle.mx_tables.proofs.Statements.{updated, picked, env, passes}
use Rattle.mx_tables.proofs.StoredLemmas.{cast_int, cast_null, permuted}
use Rattle.mx_tables.proofs.StateLemmas.{sure, sure_before, idle_sure, no_worry, not_lied, worry_later}
use Rattle.mx_tables.proofs.MadeLemmas.{meta_table, one_meta, passes_first}
use Rattle.mx_tables.proofs.WriteLemmas.{differs, no_actions, one_stores}
use Rattle.mx_tables.proofs.Places.{trees_apart}
use Rattle.mx_tables.proofs.KeptLemmas.{spelled_one}

-- ---- the version in `meta`

abbrev one : Value
one = Int (pos 1)

-- a value that is written to `id` stays where it is in the order
still : (v : Value) → value_cmp (as_integer v) one ≡ value_cmp v one
still v =
    let tied : is_eq (value_cmp (as_integer v) v) ≡ true = grind (arith, tied_itself value_cmp_total v) in
    value_cmp_total.congr (as_integer v) v one (is_equal _ tied)

still_one : (v : Value) → is_eq (value_cmp v one) ≡ true → is_eq (value_cmp (cast Integer v) one) ≡ true
still_one (Text t) h = absurd (let apart = value_cmp-apart (Text t) one (λ e. absurd (cc)) in let e = ap is_eq (sym apart) ∙ h in cc)
still_one v h = ap is_eq (still v) ∙ h

-- what is read of the rows of number 1, and the rows that are made of it
abbrev project : List Term
project = col 1 0 ∷ col 1 0 ∷ lit Null ∷ lit (Int (pos 2)) ∷ []

abbrev shown : Row → Row
shown r = eval_all project (env [] r)

abbrev formed : Row → Row
formed s = cast_row meta_table (drop 1 s)

one_of : {X : Type 0} (xs : List X) → length xs ≡ 1 → (x : X) × (xs ≡ x ∷ [])
one_of [] h = absurd (omega (arith, h))
one_of (x ∷ []) h = (x, refl)
one_of (x ∷ y ∷ xs) h = absurd (omega (arith, h))

module _ (old new : State) (has : old.now.schema ≡ office_schema) (ran : Executes set_version [] old new (Ok 1)) where
  abbrev tree : List Row
  tree = old.now.trees 0

  abbrev found : List Row → List Row
  found rows = map shown (filter (passes (is_first ∷ []) []) rows)

  pub sets_version : SetsVersion old.now new.now
  sets_version =
      let it = updated office_schema 0 meta_table refl (no_actions meta_table) set_version [] old new has set_version_is.plain 1 ran _ set_version_is.is in
      let got = picked 0 (is_first ∷ []) project [] [] (record old.now { schema = office_schema }) [] it.0 it.1 in
      let only = one_of it.0 it.3 in
      let read = only.0 in
      let there = has_mapped shown (filter (passes (is_first ∷ []) []) tree) read (permuted it.0 (found tree) (IsPermutation-sym _ _ got) read (subst (λ xs. Has xs read) (sym only.1) (inl refl))) in
      let was = has_filtered (passes (is_first ∷ []) []) tree there.0 there.1 in
      let made : Has (new.now.trees 0) (formed read) =
      subst (λ rows. Has rows (formed read)) (sym it.2.rows_are)
      (put_all_adds (map formed it.0) (without_all tree (ids_of it.0)) (formed read) it.4 (mapped_has formed it.0 read (subst (λ xs. Has xs read) (sym only.1) (inl refl)))) in
      let first : has_rowid (pos 1) (formed read) ≡ true =
      ap (λ s. has_rowid (pos 1) (formed s)) there.2 ∙ still_one (column there.0 0) (sym (passes_first there.0) ∙ was.1) in
      let version : column (formed read) 2 ≡ number 2 = ap (λ s. column (formed s) 2) there.2 ∙ cast_int (pos 2) in
      record {
        whole = record { schema = it.2.schema_is; version = (formed read, made, first, version) };
        meta = λ is. it.2.rows_are ∙ meta_row it.0 read only.1 is got;
        others = it.2.others;
        unique = it.2.fits.rules Unique (λ e. absurd (cc));
      }
    where
      tied : has_rowid (pos 1) (Int (pos 1) ∷ Null ∷ number 1 ∷ []) ≡ true
      tied = ap is_eq (tied_itself value_cmp_total one)

      passed : found (meta_rows_in One) ≡ shown (Int (pos 1) ∷ Null ∷ number 1 ∷ []) ∷ []
      passed = rw (passes_first (Int (pos 1) ∷ Null ∷ number 1 ∷ []), tied) refl

      meta_row : (rows : List Row) (read : Row) → rows ≡ read ∷ [] → tree ≡ meta_rows_in One → IsPermutation (found tree) rows → put_all (without_all tree (ids_of rows)) (map formed rows) ≡ meta_rows_in Two
      meta_row rows read only is got =
          let there : Has (shown (Int (pos 1) ∷ Null ∷ number 1 ∷ []) ∷ []) read =
          subst (λ xs. Has xs read) (ap found is ∙ passed) (permuted rows (found tree) (IsPermutation-sym _ _ got) read (subst (λ xs. Has xs read) (sym only) (inl refl))) in
          let same : read ≡ shown (Int (pos 1) ∷ Null ∷ number 1 ∷ []) = elim there [ inl e ↦ e | inr never ↦ absurd never ] in
          ap₂ (λ all rows. put_all (without_all all (ids_of rows)) (map formed rows)) is (only ∙ ap (λ r. r ∷ []) same) ∙ rw (tied, cast_int (pos 1), cast_int (pos 2), cast_null) refl

-- ---- the table of settled details

pub kept_store : (old new : Trees) (ts : List Table) (cs : List (List Row)) → KeepsRows ts old new → AllStore old ts cs → AllStore new ts cs
kept_store old new [] [] kept all = tt
kept_store old new (t ∷ ts) (c ∷ cs) kept all = (subst (λ rows. Stores rows c) (sym kept.0) all.0, kept_store old new ts cs kept.1 all.1)
kept_store old new ts cs kept all = absurd all

all_store_with : (db : Trees) (t : Table) (c : List Row) → Stores (db t.tree) c → (ts : List Table) (cs : List (List Row)) → AllStore db ts cs → AllStore db (ts ++ t ∷ []) (cs ++ c ∷ [])
all_store_with db t c it [] [] all = (it, tt)
all_store_with db t c it (u ∷ ts) (d ∷ cs) all = (all.0, all_store_with db t c it ts cs all.1)
all_store_with db t c it ts cs all = absurd all

-- ---- both

-- the rows of tables with other trees than this one stay by both steps
kept_on : (tree : ℕ) (old mid new : Trees) (ts more : List Table) → list_all (λ (u : Table). not (tree == u.tree)) ts ≡ true → KeepsRows ts old mid → AllByRecursion (λ t. t.tree ≢ tree → new t.tree ≡ mid t.tree) (ts ++ more)
    → KeepsRows ts old new
kept_on tree old mid new [] more apart one two = tt
kept_on tree old mid new (t ∷ ts) more apart one two =
    (two.0 (λ e. differs tree t.tree (first_so _ _ apart) (sym e)) ∙ one.0, kept_on tree old mid new ts more (second_so _ _ apart) one.1 two.1)

module _ (old mid new : State) (made : AddsTable schema_11 settled old mid) (sets : SetsVersion mid.now new.now) where
  -- the rows are the same, and version 2 has no settled details yet
  holds_on : (r : Rows) → HoldsIn One old.now r → Holds new.now r
  holds_on r h =
      let c = h.contents in
      let cells = (Null ∷ number 2 ∷ []) ∷ [] in
      let beside = all_store_with mid.now.trees (record settled { tree = 22 }) [] (subst (λ rows. Stores rows []) (sym made.empty) (record { rise = tt; have = tt })) schema_11.tables (cells_in One c)
      (kept_store old.now.trees mid.now.trees schema_11.tables (cells_in One c) made.others h.has.tables) in
      let meta = sets.meta (made.others.0 ∙ h.has.meta) in
      record {
        contents = record c { settled = [] };
        has = record {
          schema = sets.whole.schema;
          meta = meta;
          tables = one_stores mid.now.trees new.now.trees 0 meta_table cells (subst (λ rows. Stores rows cells) (sym meta) one_meta) office_schema.tables (cells_in One c ++ [] ∷ []) refl trees_apart sets.others beside;
          tokens = h.has.tokens;
          unique = sets.unique;
        };
        rows = h.rows;
      }

  pub upgrades : Upgrades old.now new.now
  upgrades = record {
    whole = sets.whole;
    others = kept_on 0 old.now.trees mid.now.trees new.now.trees (drop 1 schema_11.tables) (drop 11 office_schema.tables) refl made.others.1 sets.others.1;
    spells = λ w h.
        let it = h.spelled in (
          spelled_one (record { rows = it.rows; holds = holds_on it.rows it.holds; spells = it.spells }),
          ap (λ (v : World). v.settled) it.spells.spelled.world ∙ sym (ap (λ (r : Rows). r.settled) it.holds.rows),
        );
  }

-- what a stop leaves where the commit ran, also if that failed
pub stops_upgrading : (old mid new : State) (at : ℕ) → Survives mid new (λ db. IsTrue (begins_at mid at) × (db ≡ mid.now.trees)) → (HasCleanDisk new → (db : Trees) → mid.may_leave db → old.may_leave db) → (HasCleanDisk new → UpgradesOpen old mid.now) → StopsUpgrading old new
stops_upgrading old mid new at survives less went clean db left = elim (survives.crash clean db left) [
  | inl was ↦ inl (less clean db was)
  | inr made ↦ inr (
      let it = went clean in
      record {
        live = it.live;
        upgrades = λ has.
            let up = it.upgrades has in
            subst (Upgrades old.now) (ap₂ (λ (s : Schema) (t : Trees). record { schema = s; trees = t }) up.whole.schema (sym made.1)) up;
      })
]

-- the step inside a savepoint is one of the connection that the savepoint was begun in
pub upgrades_inside : (old mark mid : State) (at : ℕ) → (HasCleanDisk mark → (at ≡ length old.marks) × Marks old mark []) → doubt mark.is_clean ≤ doubt mid.is_clean → (HasCleanDisk mid → IsTrue mark.in_transaction → UpgradesOpen mark mid.now)
    → HasCleanDisk mid → UpgradesOpen old mid.now
upgrades_inside old mark mid at marked later went clean =
    let begun = (marked (omega (arith, later, clean))).1.0 in
    let it = went clean begun.mode in
    record { live = begun.was_open; upgrades = λ has. subst (λ d. Upgrades d mid.now) begun.now_is (it.upgrades (ap (λ (d : Database). d.schema) begun.now_is ∙ has)) }

-- ---- the whole call

-- the store was found to be of version 1, and then the step to version 2 was made or left
pub record After {S X : Type 0} (g : Ghosts S) (old mid new : Held S) (r : Result X StoreFault) : Type 0 where
  pub stays : StaysAt false schema_11 (state g old) (state g mid)
  pub whole : worry (state g mid) ≡ 0 → IsWhole One (state g old).now
  pub commits : Commits (state g mid) (state g new) r (UpgradesOpen (state g mid) (state g new).now)
  pub stops : StopsUpgrading (state g mid) (state g new)

pub found_one : {S X : Type 0} (g : Ghosts S) {old mid new : Held S} {r : Result X StoreFault} {v : Version} → v ≡ One → StaysAt false (schema_of v) (state g old) (state g mid) → (worry (state g mid) ≡ 0 → IsWhole v (state g old).now)
    → Commits (state g mid) (state g new) r (UpgradesOpen (state g mid) (state g new).now) → StopsUpgrading (state g mid) (state g new) → After g old mid new r
found_one g {old = old} {mid = mid} is stays whole commits stops = record {
  stays = subst (λ v. StaysAt false (schema_of v) (state g old) (state g mid)) is stays;
  whole = λ calm. subst (λ v. IsWhole v (state g old).now) is (whole calm);
  commits = commits;
  stops = stops;
}

module _ {S X : Type 0} (g : Ghosts S) {old mid new : Held S} {r : Result X StoreFault} (h : After g old mid new r) where
  later_then : worry (state g mid) ≤ worry (state g new)
  later_then = worry_later (state g mid) (state g new) h.commits.clean h.commits.opens

  calm : worry (state g new) ≡ 0 → worry (state g mid) ≡ 0
  calm = sure_before (state g mid) (state g new) later_then

  pub was_before : worry (state g old) ≤ worry (state g new)
  was_before = omega (arith, h.stays.lasts, later_then)

  -- the step as one of the database that was found
  upgraded_from : (db : Database) → worry (state g mid) ≡ 0 → UpgradesOpen (state g mid) db → Migrates Done (state g old).now db
  upgraded_from db before it = (h.whole before, subst (λ d. Upgrades d db) (h.stays.same (idle_sure (state g mid) before)) (it.upgrades (h.stays.ours.schema before)))

  pub stops_led : worry (state g new) ≤ 1 → (db : Trees) → (state g new).may_leave db
      → (state g old).may_leave db ⊎ ((worry (state g old) ≡ 0) × Migrates Done (state g old).now (record { schema = office_schema; trees = db }))
  stops_led low db left =
      elim (h.stops (not_lied (state g new) low) db left) [
        | inl was ↦ inl (h.stays.stops (omega (arith, low, later_then)) db was)
        | inr made ↦ inr (
            let before = no_worry (state g mid) made.live (let e = h.commits.clean in let f = not_lied (state g new) low in omega arith) in
            (sure_before (state g old) (state g mid) h.stays.lasts before, upgraded_from _ before made))
      ]

module _ {S X : Type 0} (g : Ghosts S) {old mid new : Held S} where
  pub led : {r : Result X StoreFault} → After g old mid new r → worry (state g new) ≡ 0 → OnOk r (Migrates Done (state g old).now (state g new).now)
  led {r = Ok x} h end = upgraded_from g h _ (calm g h end) (h.commits.all (sure (state g new) end).1).0
  led {r = Err e} h end = tt

  pub left_raised : {r : Result X StoreFault} → After g old mid new r → worry (state g new) ≡ 0 → OnErr r ((state g new).now ≡ (state g old).now)
  left_raised {r = Ok x} h end = tt
  left_raised {r = Err e} h end =
      let before = calm g h end in
      let steady = h.stays.ours.steady before (h.stays.ours.idle (sure (state g mid) before).1 refl) in
      (h.commits.none (sure (state g new) end).1 (sure (state g new) end).0).0 ∙ steady ∙ h.stays.same (idle_sure (state g mid) before)

  pub ours_raised : {r : Result X StoreFault} → After g old mid new r → OnOk r (IsOurs false (state g new))
  ours_raised {r = Ok x} h =
      let all = λ (end : worry (state g new) ≡ 0). h.commits.all (sure (state g new) end).1 in
      let has = λ (end : worry (state g new) ≡ 0). (upgraded_from g h _ (calm g h end) (all end).0).1.whole.schema in
      record {
        idle = λ clean none. h.commits.ended clean;
        steady = λ end outside. (all end).1;
        schema = has;
        base = λ end. ap (λ (d : Database). d.schema) (all end).1 ∙ has end;
      }
  ours_raised {r = Err e} h = tt
