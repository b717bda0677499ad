-- How the tables are made, what new ones hold, and that their version is found.
use Rattle.mx_tables.proofs.Common.{◌≡◌, ℕ, false, List, [], ◌∷◌, codes, None, Ok, refl, ◌∙◌, inl, inr, pos, arith, filter, length, AllByRecursion, Database, Executes, office_schema, number, Null, Int, Holds, Rows, IsPermutation, is_eq, Binary, Row, column, col}
use Rattle.std.proofs.Common.{Err, Result, OnOk, sym, ap, subst, subst₂, ◌≢◌, map}
use Rattle.sqlite_schema.specs.declared.schema.Schema.{Schema}
use Rattle.sqlite_schema.specs.declared.schema.Table.{Table}
use Rattle.sqlite_schema.specs.declared.command.Command.TheVariants.{CreateTable}
use Rattle.sqlite_catalog.specs.Change.{created, next_tree, KeepsRows}
use Rattle.sqlite_trees.specs.Tree.{Trees, has_rowid}
use Rattle.sqlite_resolve.specs.declared.compiled.Compiled.{Compiled}
use Rattle.sqlite_resolve.specs.declared.error.CompileError.{CompileError}
use Rattle.sqlite.specs.declared.error.Error.{Error}
use Rattle.sqlite.specs.Does.{Tally, lacks_sequence}
use Rattle.sqlite.specs.Listing.{understood}
use Rattle.sqlite.specs.State.{State, Writes, ExecutesInside, Shown}
use Rattle.sqlite.proofs.Callers.{command_of, statement_of, runs_as, reads_as}
use Rattle.sqlite_rules.proofs.ProbeLemmas.{has_mapped, mapped_has}
use Rattle.mx_tables.specs.Schema.{meta, opening_contents, schema_of}
use Rattle.mx_cells.specs.Cells.{token_cells}
use Rattle.mx_tables.specs.Made.{Creates, IsCreate, AddsTable, Blank, Fresh, new_cells, HasVersion, version_shown, Makes, made, also}
use Rattle.std.proofs.ByRecursion.{All-push}
use Rattle.sqlite_trees.proofs.ListLemmas.{all_both}
use Rattle.mx_tables.proofs.Statements.{went, same_value, inserted, puts, picked, env, passes}
use Rattle.mx_book.specs.World.{Token, opening}
use Rattle.mx_book.specs.declared.values.Caller.TheVariants.{Operator}
use Rattle.mx_pay.specs.Tokens.{IsToken}
use Rattle.sqlite_schema.specs.declared.schema.Constraint.TheVariants.{Unique}
use Rattle.mx_book.specs.Spells.{opening_rows}
use Rattle.mx_book.proofs.Opening.{opening_spelled}
use Rattle.mx_tables.specs.Holds.{HasContents, Spells, Stores, AllStore, meta_rows}
use Rattle.mx_tables.specs.declared.making.Version.{Version}
use Rattle.mx_tables.proofs.Texts.{insert_meta, insert_meta_is, insert_token, insert_token_is, is_first, select_version, asks_version}
use Rattle.mx_tables.proofs.StoredLemmas.{stores_put, cast_int, cast_null, if_truth, and_true, permuted}
use Rattle.mx_tables.proofs.KeptLemmas.{token_place}
use Rattle.mx_tables.proofs.Places.{trees_apart, stores_at}
use Rattle.mx_tables.proofs.WriteLemmas.{no_actions, one_stores}
use Rattle.std.proofs.lemmas.List.Sorted.{IsPermutation-sym}
use Rattle.sqlite_value.specs.declared.value.Value.{Value}
use Rattle.sqlite_value.specs.Order.{value_cmp}
use Rattle.sqlite_value.proofs.OrderLemmas.{value_cmp-Null}
use Rattle.sqlite_rules.specs.Lists.{Has}
use Rattle.sqlite_rules.proofs.ListLemmas.{has_filtered, has_kept}
use Rattle.sqlite_sql.specs.declared.ops.BinaryOp.TheVariants.{Compare}
use Rattle.sqlite_sql.specs.declared.ops.CompareOp.TheVariants.{Eq}
use Rattle.sqlite_sql.specs.Ops.{binary, is_true}
use Rattle.sqlite_sql.specs.Term.{eval_all}

is_create : (sql : List ℕ) (r : Result Compiled CompileError) → Creates sql r → (command_of r ≡ CreateTable) × (statement_of sql r ≡ sql)
is_create sql (Ok c) h = (h.0, h.1)
is_create sql (Err e) h = absurd h

pub makes_next : {before after : Schema} {sql : List ℕ} {more : List (List ℕ)} → Makes before (sql ∷ more) after → (table : Table) × IsCreate before sql table × Makes (created before table) more after
makes_next (also table is rest) = (table, is, rest)

pub makes_none : {before after : Schema} → Makes before [] after → before ≡ after
makes_none made = refl

pub adds : (held : ℕ) (schema : Schema) (sql : List ℕ) (table : Table) (old new : State) (r : Result ℕ Error) → IsCreate schema sql table → old.now.schema ≡ schema → ExecutesInside held sql [] old new r → OnOk r (AddsTable schema table old new)
adds held schema sql table old new (Err e) is has h = tt
adds held schema sql table old new (Ok count) is has h =
    let known = is_create sql (understood schema sql) is.creates in
    let w = subst (λ t. Writes old new None CreateTable t [] count) known.1 (runs_as sql [] old new schema has CreateTable known.0 is.plain count h.0) in
    let all = went w.changed in
    let first = went all.1 in
    let made = first.1 in
    let same : made.table ≡ table = same_value (sym made.defined ∙ is.defined) in
    let after : first.0.schema ≡ created schema table = made.is ∙ subst₂ (λ s t. created old.now.schema made.table ≡ created s t) has same refl in
    let plain : lacks_sequence first.0.schema ≡ false = ap lacks_sequence after ∙ is.uncounted in
    let now : new.now ≡ first.0 = ap (λ (p : Tally × Database). p.1) (same_value all.2) ∙ same_value (rw plain at first.2) in
    let trees : new.now.trees ≡ first.0.trees = ap (λ (d : Database). d.trees) now in
    record {
      schema_is = ap (λ (d : Database). d.schema) now ∙ after;
      empty = ap (λ (t : Trees). t (next_tree schema)) trees ∙ subst (λ s. first.0.trees (next_tree s) ≡ []) has made.empty;
      others = subst₂ (λ s t. KeepsRows s.tables old.now.trees t) has (sym trees) made.others;
      inside = h.1.mode;
    }

-- beside tables with no row
pub adds_blank : (schema : Schema) (table : Table) (old new : State) → Blank schema old → AddsTable schema table old new → Blank (created schema table) new
adds_blank schema table old new blank it =
    let still : AllByRecursion (λ t. new.now.trees t.tree ≡ []) schema.tables =
    all_both (λ t. new.now.trees t.tree ≡ old.now.trees t.tree) (λ t. old.now.trees t.tree ≡ []) _ (λ t kept was. kept ∙ was) schema.tables it.others blank.empty in
    record { schema_is = it.schema_is; empty = All-push _ schema.tables _ still it.empty; inside = it.inside }

-- ---- the first rows

abbrev pub meta_table : Table
meta_table = record meta { tree = 0 }

all_nothing : (db : Trees) (ts : List Table) → AllByRecursion (λ (t : Table). db t.tree ≡ []) ts → AllStore db ts (map (λ _. []) ts)
all_nothing db [] none = tt
all_nothing db (t ∷ ts) none = (subst (λ rows. Stores rows []) (sym none.0) (record { rise = tt; have = tt }), all_nothing db ts none.1)

pub one_meta : Stores meta_rows ((Null ∷ number 2 ∷ []) ∷ [])
one_meta = record { rise = (tt, tt); have = ((pos 1, refl), tt) }

pub freshens : (old new : State) (count : ℕ) → Blank office_schema old → Executes insert_meta [] old new (Ok count) → Fresh new
freshens old new count blank h =
    let wrote = (puts office_schema 0 meta_table refl (no_actions meta_table) insert_meta [] old new blank.schema_is insert_meta_is.plain count h _ _ meta_rows insert_meta_is.is refl (rw (cast_int (pos 1), cast_int (pos 2), cast_null) refl)).0 in
    let meta : new.now.trees 0 ≡ meta_rows = wrote.rows_are ∙ rw (blank.empty.0) refl in
    record {
      schema = wrote.schema_is;
      meta = meta;
      tables = one_stores old.now.trees new.now.trees 0 meta_table _ (subst (λ rows. Stores rows ((Null ∷ number 2 ∷ []) ∷ [])) (sym meta) one_meta) office_schema.tables (map (λ _. []) office_schema.tables)
          refl trees_apart wrote.others (all_nothing old.now.trees office_schema.tables blank.empty);
    }

pub opens_with : (t : Token) (old new : State) (count : ℕ) → IsToken t → Fresh old → Executes insert_token (token_cells (t, Operator)) old new (Ok count) → Holds new.now (opening_rows t)
opens_with t old new count one fresh h =
    let row = token_cells (t, Operator) in
    let wrote = (inserted office_schema 2 token_place.table refl (no_actions token_place.table) insert_token row old new fresh.schema insert_token_is.plain count h _ _ row insert_token_is.is refl (rw cast_null refl)).0 in
    let was = stores_at old.now.trees office_schema.tables new_cells 2 token_place.table [] fresh.tables refl refl in
    let stores = subst (λ rows. Stores rows (row ∷ [])) (sym wrote.rows_are) (stores_put (old.now.trees 3) [] row was) in
    let has : HasContents new.now (opening_contents t) = record {
      schema = wrote.schema_is;
      meta = wrote.others.0 (omega arith) ∙ fresh.meta;
      tables = one_stores old.now.trees new.now.trees 2 token_place.table (row ∷ []) stores office_schema.tables new_cells refl trees_apart wrote.others fresh.tables;
      tokens = (one, tt);
      unique = wrote.fits.rules Unique (λ e. absurd (cc));
    } in
    record { contents = opening_contents t; has = has; rows = refl }

-- the opening rows spell the opening World
pub opens_office : (t : Token) (db : Database) → Holds db (opening_rows t) → Spells db (opening t)
opens_office t db h =
    let mine : h.contents.operator ≡ t = ap (λ (r : Rows). r.operator) h.rows in
    record { rows = opening_rows t; holds = h; spells = opening_spelled t (subst IsToken mine h.has.tokens.0) }

-- ---- the version

abbrev pub first_rows : List Row → List Row
first_rows = filter (has_rowid (pos 1))

pub same_as_first : (v : Value) → is_true (binary (Compare Eq Binary) v (Int (pos 1))) ≡ is_eq (value_cmp v (Int (pos 1)))
unfolding binary
same_as_first Null = sym (ap is_eq (value_cmp-Null (Int (pos 1))))
same_as_first v = if_truth _

pub passes_first : (r : Row) → passes (is_first ∷ []) [] r ≡ has_rowid (pos 1) r
passes_first r = and_true _ ∙ same_as_first (column r 0)

passing : (rows : List Row) → map (λ r. eval_all (col 1 2 ∷ []) (env [] r)) (filter (passes (is_first ∷ []) []) rows) ≡ map version_shown (first_rows rows)
passing [] = refl
passing (r ∷ rows) = grind (arith, passes_first r, passing rows)

pub finds_version : (v : Version) (old new : State) (rows : List Row) → Shown select_version [] old new rows → old.now.schema ≡ schema_of v → IsPermutation (map version_shown (first_rows (old.now.trees 0))) rows
finds_version v old new rows h has =
    let text = asks_version v in
    let read = reads_as select_version [] old new (schema_of v) has _ text.is text.plain text.unlisted rows h in
    subst (λ all. IsPermutation all rows) (passing (old.now.trees 0)) (picked 0 (is_first ∷ []) (col 1 2 ∷ []) [] (codes "version" ∷ []) old.now [] rows read)

none_there : {X : Type 0} (xs : List X) (x : X) → length xs ≡ 0 → ¬ Has xs x
none_there [] x e there = there
none_there (y ∷ xs) x e there = omega (arith, e)

module _ (n : ℕ) (db : Database) (rows : List Row) (h : IsPermutation (map version_shown (first_rows (db.trees 0))) rows) where
  -- the first row of `meta` is shown
  is_shown : (v : HasVersion n db) → Has rows (version_shown v.0)
  is_shown v = permuted _ rows h (version_shown v.0) (mapped_has version_shown (first_rows (db.trees 0)) v.0 (has_kept (has_rowid (pos 1)) (db.trees 0) v.0 v.1 v.2))

  pub version_there : (x : Row) → rows ≡ x ∷ [] → column x 0 ≡ number n → HasVersion n db
  version_there x one is =
      let it = has_mapped version_shown (first_rows (db.trees 0)) x (permuted rows _ (IsPermutation-sym _ _ h) x (subst (λ xs. Has xs x) (sym one) (inl refl))) in
      let there = has_filtered (has_rowid (pos 1)) (db.trees 0) it.0 it.1 in
      (it.0, there.0, there.1, sym (ap (λ r. column r 0) it.2) ∙ is)

  pub version_missing : length rows ≡ 0 → ¬ HasVersion n db
  version_missing none v = none_there rows (version_shown v.0) none (is_shown v)

  pub version_other : (x : Row) (k : ℕ) → rows ≡ x ∷ [] → column x 0 ≡ number k → k ≢ n → ¬ HasVersion n db
  version_other x k one is other v =
      let there : Has (x ∷ []) (version_shown v.0) = subst (λ xs. Has xs (version_shown v.0)) one (is_shown v) in
      elim there [
        | inl same ↦ other (let e : number k ≡ number n = sym is ∙ sym (ap (λ r. column r 0) same) ∙ v.3 in cc)
        | inr never ↦ absurd never
      ]
