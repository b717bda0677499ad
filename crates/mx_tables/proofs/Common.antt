-- The names that most proofs of this crate cite, passed on from one place.
pub use Rattle.mx_book.specs.RowEdits.{rewritten}
pub use Rattle.mx_book.specs.Rows.{Rows}
pub use Rattle.mx_book.specs.World.{Name}
pub use Rattle.mx_book.specs.declared.values.PurseRow.{PurseRow}
pub use Rattle.mx_pay.specs.Names.{is_name, name_cmp}
pub use Rattle.mx_tables.specs.Holds.{Holds}
pub use Rattle.mx_tables.specs.Schema.{office_schema}
pub use Rattle.mx_cells.specs.Cells.{number}
pub use Rattle.mx_tables.specs.States.{Brings, going}
pub use Rattle.sqlite.specs.Effect.{Database}
pub use Rattle.sqlite.specs.Held.{state}
pub use Rattle.sqlite.specs.State.{Executes}
pub use Rattle.sqlite_sql.specs.Term.{Term, col}
pub use Rattle.sqlite_value.specs.Order.{Row, column}
pub use Rattle.sqlite_value.specs.declared.keys.Collation.TheVariants.{Binary}
pub use Rattle.sqlite_value.specs.declared.value.Value.TheVariants.{Int, Null, Text}
pub use Rattle.std.proofs.Common.{Bool, List, None, Ok, Option, Some, [], arith, codes, false, filter, fold, inl, inr, is_eq, length, pos, refl, rules, take, true, ℕ, ℤ, ◌&&◌, ◌++◌, ◌+◌, ◌<◌, ◌∙◌, ◌∷◌, ◌≡◌, ◌≤◌}
pub use Rattle.std.proofs.lemmas.List.{length-map}
pub use Rattle.std.proofs.lemmas.Result.{IfOk-weaker}
pub use Rattle.std.specs.List.{AllByRecursion}
pub use Rattle.std.specs.List.Sorted.{IsPermutation}
pub use Rattle.std.specs.Ordering.{eq_by_cmp, nat_cmp}
pub use Rattle.std.specs.Prelude.{option_map}
pub use Rattle.std.specs.declared.cmp.Ordering.{Ordering}
