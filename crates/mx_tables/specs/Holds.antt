-- When a database holds typed rows, and when these spell a World.
use Rattle.std.specs.Prelude.{◌≡◌, ℤ, pos, List, [], ◌∷◌}
use Rattle.sqlite_value.specs.declared.value.Value.TheVariants.{Null, Int}
use Rattle.sqlite_value.specs.Order.{Row}
use Rattle.sqlite_trees.specs.Tree.{Trees, IsTable}
use Rattle.sqlite_schema.specs.declared.schema.Table.{Table}
use Rattle.sqlite_schema.specs.declared.schema.Constraint.TheVariants.{Unique}
use Rattle.sqlite_schema.specs.Rules.{Keeps}
use Rattle.sqlite.specs.Effect.{Database}
use Rattle.mx_book.specs.World.{World}
use Rattle.mx_book.specs.Rows.{Rows}
use Rattle.mx_book.specs.Spells as book
use Rattle.mx_tables.specs.declared.making.Version.{Version}
use Rattle.mx_tables.specs.declared.making.Version.TheVariants.{Two}
use Rattle.mx_tables.specs.Schema.{schema_of, number_of, Contents, cells_in, rows_in, AreTokens}
use Rattle.mx_cells.specs.Cells.{number}

-- the rows have these cells, each after a row number
abbrev pub HaveCells : List Row → List Row → Type 0
HaveCells [] [] = Unit {0}
HaveCells [] (c ∷ cs) = ⊥
HaveCells (r ∷ rs) [] = ⊥
HaveCells (r ∷ rs) (c ∷ cs) = ((id : ℤ) × (r ≡ Int id ∷ c)) × HaveCells rs cs

-- a tree stores these cells, by row numbers that rise
pub record Stores (tree : List Row) (cells : List Row) : Type 0 where
  pub rise : IsTable tree
  pub have : HaveCells tree cells

-- each of these tables stores its own of these cells
abbrev pub AllStore : Trees → List Table → List (List Row) → Type 0
AllStore db [] [] = Unit {0}
AllStore db [] (c ∷ cs) = ⊥
AllStore db (t ∷ ts) [] = ⊥
AllStore db (t ∷ ts) (c ∷ cs) = Stores (db t.tree) c × AllStore db ts cs

-- the one row of `meta`: number 1, and the number of the version
abbrev pub meta_rows_in : Version → List Row
meta_rows_in v = (Int (pos 1) ∷ Null ∷ number (number_of v) ∷ []) ∷ []

-- the database has the schema of this version and its rows of these contents, and no two rows of a table have the same key
pub record HasContentsIn (v : Version) (db : Database) (c : Contents) : Type 0 where
  pub schema : db.schema ≡ schema_of v
  pub meta : db.trees 0 ≡ meta_rows_in v
  pub tables : AllStore db.trees (schema_of v).tables (cells_in v c)
  pub tokens : AreTokens c
  pub unique : Keeps Unique (schema_of v) db.trees

-- the database holds these rows of a book as this version
pub record HoldsIn (v : Version) (db : Database) (r : Rows) : Type 0 where
  pub contents : Contents
  pub has : HasContentsIn v db contents
  pub rows : rows_in v contents ≡ r

-- the database holds rows as this version that spell this World
pub record SpellsIn (v : Version) (db : Database) (w : World) : Type 0 where
  pub rows : Rows
  pub holds : HoldsIn v db rows
  pub spells : book.Spells rows w

-- it does, and spells no other World
pub record SpellsOneIn (v : Version) (db : Database) (w : World) : Type 0 where
  pub spelled : SpellsIn v db w
  pub only : (u : World) → SpellsIn v db u → u ≡ w

-- ---- the same of the version that the office has

abbrev pub meta_rows : List Row
meta_rows = meta_rows_in Two

abbrev pub HasContents : Database → Contents → Type 0
HasContents = HasContentsIn Two

abbrev pub Holds : Database → Rows → Type 0
Holds = HoldsIn Two

abbrev pub Spells : Database → World → Type 0
Spells = SpellsIn Two

abbrev pub SpellsOne : Database → World → Type 0
SpellsOne = SpellsOneIn Two
