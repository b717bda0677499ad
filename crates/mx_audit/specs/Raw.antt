-- What a store keeps true of the rows of its tables, whatever they hold.
use Rattle.std.specs.Prelude.{List, IsTrue}
use Rattle.std.specs.List.{AllByRecursion}
use Rattle.sqlite_value.specs.Order.{Row}
use Rattle.sqlite_trees.specs.Tree.{rowid, IsTable}
use Rattle.sqlite_trees.specs.View.{is_int}
use Rattle.sqlite.specs.Effect.{Database}

-- rows have numbers, which rise
pub record AreNumbered (rows : List Row) : Type 0 where
  pub rise : IsTable rows
  pub numbered : AllByRecursion (λ r. IsTrue (is_int (rowid r))) rows

-- and so have those of each table
abbrev pub AreInOrder : Database → Type 0
AreInOrder db = AllByRecursion (λ t. AreNumbered (db.trees t.tree)) db.schema.tables
