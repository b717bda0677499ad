-- What a database tells of the rows of its tables, whatever they hold: they have the types of their columns.
use Rattle.std.proofs.Common.{◌≡◌, true, drop}
use Rattle.std.specs.List.{AllByRecursion}
use Rattle.std.specs.Cmp.{first_so}
use Rattle.sqlite_schema.specs.declared.schema.Constraint.TheVariants.{Datatype}
use Rattle.sqlite_schema.specs.Rules.{are_typed, has_computed}
use Rattle.sqlite_trees.proofs.ListLemmas.{all_weaker}
use Rattle.sqlite.specs.Effect.{Database, IsDatabase}

-- each row has the types of its table
pub are_of_types : (db : Database) → IsDatabase db → AllByRecursion (λ t. AllByRecursion (λ r. are_typed t.key 0 t.columns (drop 1 r) ≡ true) (db.trees t.tree)) db.schema.tables
are_of_types db sound = all_weaker _ _ (λ t rows. all_weaker _ _ (λ r so. first_so _ (has_computed t r) so) (db.trees t.tree) rows) db.schema.tables (sound.obeys.rules Datatype)
