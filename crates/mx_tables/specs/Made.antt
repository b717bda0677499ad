-- How the tables are made.
use Rattle.mx_tables.specs.Schema.{office_schema, schema_of}
use Rattle.mx_cells.specs.Cells.{number}
use Rattle.mx_tables.specs.declared.making.Version.{Version}
use Rattle.mx_tables.specs.Holds.{meta_rows, AllStore}
use Rattle.sqlite_value.specs.Order.{Row, column}
use Rattle.sqlite_value.specs.declared.value.Value.TheVariants.{Null}
use Rattle.sqlite_trees.specs.Tree.{has_rowid}
use Rattle.sqlite_rules.specs.Lists.{Has}
use Rattle.sqlite.specs.Effect.{Database}
use Rattle.std.specs.Prelude.{◌≡◌, ◌≢◌, ◌⊎◌, codes, None, map, drop, pos, true, false, ◌∷◌, Ok, List, [], ℕ, IsTrue, Result, Err, slice_range}
use Rattle.std.specs.List.{AllByRecursion}
use Rattle.sqlite_schema.specs.declared.schema.Schema.{Schema}
use Rattle.sqlite_schema.specs.declared.schema.Table.{Table}
use Rattle.sqlite_schema.specs.Names.{table_named}
use Rattle.sqlite_schema.specs.declared.command.Command.TheVariants.{CreateTable}
use Rattle.sqlite_catalog.specs.Change.{created, next_tree, KeepsRows}
use Rattle.sqlite.specs.Does.{lacks_sequence}
use Rattle.sqlite.specs.Given.{IsPlain}
use Rattle.sqlite.specs.Listing.{understood}
use Rattle.sqlite_trees.specs.declared.store.Store.{Ghosts}
use Rattle.sqlite.specs.declared.savepoint.Savepoint.{Savepoint}
use Rattle.sqlite.specs.Held.{state}
use Rattle.sqlite.specs.State.{State}
use Rattle.mx_tables.specs.States.{Steps}
use Rattle.sqlite_resolve.specs.Compile.{table_defined_by}
use Rattle.sqlite_resolve.specs.declared.compiled.Compiled.{Compiled}
use Rattle.sqlite_resolve.specs.declared.error.CompileError.{CompileError}

-- the text is that of one CREATE TABLE, and of nothing else
abbrev pub Creates : List ℕ → Result Compiled CompileError → Type 0
Creates sql (Ok c) = (c.command ≡ CreateTable) × (slice_range sql c.start c.end ≡ sql)
Creates sql (Err e) = ⊥

pub record IsCreate (schema : Schema) (sql : List ℕ) (table : Table) : Type 0 where
  pub creates : Creates sql (understood schema sql)
  pub plain : IsPlain (understood schema sql)
  pub defined : table_defined_by sql ≡ Ok table
  pub uncounted : lacks_sequence (created schema table) ≡ false

-- the texts make the tables that lead from one schema to another
pub data Makes : Schema → List (List ℕ) → Schema → Type 0 where
  made : {schema : Schema} → Makes schema [] schema
  also : {before after : Schema} {sql : List ℕ} {more : List (List ℕ)} (table : Table) → IsCreate before sql table → Makes (created before table) more after → Makes before (sql ∷ more) after

-- a table was made beside those that are there, whose rows stay, and has no rows
pub record AddsTable (schema : Schema) (table : Table) (old new : State) : Type 0 where
  pub schema_is : new.now.schema ≡ created schema table
  pub empty : new.now.trees (next_tree schema) ≡ []
  pub others : KeepsRows schema.tables old.now.trees new.now.trees
  pub inside : IsTrue new.in_transaction

-- a transaction is open, and sees the schema with no rows
pub record Blank (schema : Schema) (s : State) : Type 0 where
  pub schema_is : s.now.schema ≡ schema
  pub empty : AllByRecursion (λ t. s.now.trees t.tree ≡ []) schema.tables
  pub inside : IsTrue s.in_transaction

-- the cells of new tables, which have no row but that of `meta`
abbrev pub new_cells : List (List Row)
new_cells = ((Null ∷ number 2 ∷ []) ∷ []) ∷ map (λ _. []) (drop 1 office_schema.tables)

-- a transaction is open, and sees the tables with no row but that of `meta`
pub record Fresh (s : State) : Type 0 where
  pub schema : s.now.schema ≡ office_schema
  pub meta : s.now.trees 0 ≡ meta_rows
  pub tables : AllStore s.now.trees office_schema.tables new_cells

-- `meta` has a row of number 1 with this version
abbrev pub HasVersion : ℕ → Database → Type 0
HasVersion n db = (r : Row) × Has (db.trees 0) r × (has_rowid (pos 1) r ≡ true) × (column r 2 ≡ number n)

-- and no row of number 1 with another
abbrev pub HasOnly : ℕ → Database → Type 0
HasOnly n db = HasVersion n db × ((k : ℕ) → k ≢ n → ¬ HasVersion k db)

-- a database has no table `meta`, or its tables are those of a version, and `meta` hasn't the number that is asked for then
abbrev pub IsUnknown : (Version → ℕ) → Database → Type 0
IsUnknown number db = (table_named db.schema (codes "meta") ≡ None) ⊎ ((version : Version) × (db.schema ≡ schema_of version) × (¬ HasVersion (number version) db))

abbrev pub version_shown : Row → Row
version_shown r = column r 2 ∷ []

-- a step that makes the tables of this schema where those of that one are
abbrev pub Builds : {S T E : Type 0} → (g : Ghosts S) → Savepoint S g → Savepoint S g → Result T E → Schema → Schema → Type 0
Builds g old new result before after = Steps g old new result (λ _. Blank before (state g old.conn.now) → Blank after (state g new.conn.now))
