-- What the step from version 1 to version 2 does to a database.
use Rattle.std.specs.Prelude.{◌≡◌, ◌≢◌, ◌⊎◌, IsTrue, drop}
use Rattle.std.specs.List.{AllByRecursion}
use Rattle.std.specs.FinMap as fmap
use Rattle.sqlite_trees.specs.Tree.{Trees}
use Rattle.sqlite_schema.specs.declared.schema.Constraint.TheVariants.{Unique}
use Rattle.sqlite_schema.specs.Rules.{Keeps}
use Rattle.sqlite_catalog.specs.Change.{KeepsRows}
use Rattle.sqlite.specs.Effect.{Database}
use Rattle.sqlite.specs.State.{State, HasCleanDisk}
use Rattle.mx_book.specs.World.{World}
use Rattle.mx_tables.specs.declared.making.Version.{Version}
use Rattle.mx_tables.specs.declared.making.Version.TheVariants.{One, Two}
use Rattle.mx_tables.specs.declared.migration.Migrated.{Migrated}
use Rattle.mx_tables.specs.declared.migration.Migrated.TheVariants.{Done, Already}
use Rattle.mx_tables.specs.Schema.{office_schema, schema_of, number_of}
use Rattle.mx_tables.specs.Holds.{meta_rows_in, SpellsOneIn, SpellsOne}
use Rattle.mx_tables.specs.Made.{HasVersion}

-- the database is of this version: it has the schema, and its number in `meta`
pub record IsWhole (v : Version) (db : Database) : Type 0 where
  pub schema : db.schema ≡ schema_of v
  pub version : HasVersion (number_of v) db

-- The database is of version 2, and spells the World that it spelled as version 1, which has no settled details. The rows of all
-- tables but `meta` are as they were.
pub record Upgrades (old new : Database) : Type 0 where
  pub whole : IsWhole Two new
  pub others : KeepsRows (drop 1 (schema_of One).tables) old.trees new.trees
  pub spells : (w : World) → SpellsOneIn One old w → SpellsOne new w × (w.settled ≡ fmap.empty)

-- what each answer says of the database before and after
abbrev pub Migrates : Migrated → Database → Database → Type 0
Migrates Done old new = IsWhole One old × Upgrades old new
Migrates Already old new = IsWhole Two old × (new ≡ old)

-- `meta` has version 2, and the other tables are as they were
pub record SetsVersion (old new : Database) : Type 0 where
  pub whole : IsWhole Two new
  pub meta : old.trees 0 ≡ meta_rows_in One → new.trees 0 ≡ meta_rows_in Two
  pub others : AllByRecursion (λ t. t.tree ≢ 0 → new.trees t.tree ≡ old.trees t.tree) office_schema.tables
  pub unique : Keeps Unique office_schema new.trees

-- the connection was open, and its tables of version 1 are of version 2
pub record UpgradesOpen (old : State) (new : Database) : Type 0 where
  pub live : IsTrue old.is_open
  pub upgrades : old.now.schema ≡ schema_of One → Upgrades old.now new

-- A stop leaves what it could leave before, or what the whole step makes.
abbrev pub StopsUpgrading : State → State → Type 0
StopsUpgrading old new = HasCleanDisk new → (db : Trees) → new.may_leave db → old.may_leave db ⊎ UpgradesOpen old (record { schema = office_schema; trees = db })
