use Rattle.std.proofs.Common.{◌≡◌, ◌++◌, ℕ, List, map}
use Rattle.mx_book.specs.declared.values.MemberRow.{MemberRow as Kept}
use Rattle.mx_book.specs.declared.values.MemberTotals.{MemberTotals}
use Rattle.mx_sorted.specs.Blocks.{rows_in}
use Rattle.mx_book.specs.RowTotals.{row_sums_of, row_members_totals_of}
use Rattle.mx_memory.specs.Shelves.{rows_of}
use Rattle.mx_memory.proofs.shelves.tables.Shelves.members_totals.Given as goal

abbrev pub invariant-loop-row : goal.invariant-loop-row
invariant-loop-row l =
    let f : List ℕ × Kept → List ℕ × MemberTotals = λ e. (e.0, row_sums_of (rows_of l.self) e.0 e.1) in
    l.totals.items ++ map f (l.row-iterator.block.now ++ rows_in l.row-iterator.rest.now) ≡ row_members_totals_of (rows_of l.self)
