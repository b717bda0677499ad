use Rattle.mx_tables.proofs.Common.{◌≡◌, ◌≤◌, take, name_cmp, Name, going}
use Rattle.std.specs.Prelude.{◌*◌, sum_by}
use Rattle.mx_pay.specs.Limits.{most_number}
use Rattle.mx_sorted.specs.Slots.{map_of}
use Rattle.mx_book.specs.declared.values.Scope.TheVariants.{Member}
use Rattle.mx_tables.specs.Counted.{counted_row, sum_at}
use Rattle.mx_tables.specs.States.{Reads}
use Rattle.mx_tables.proofs.member_sums.add_amounts.Given as goal

-- the rows of the book are as they were, and the sum of each member is that of the rows so far, each of which adds at most 10^15
abbrev pub invariant-loop-row : goal.invariant-loop-row
invariant-loop-row g l =
    (Reads g.S.Store l.initial.conn l.conn going (λ r _. (m : Name) → sum_at (map_of name_cmp l.sums) m ≡ sum_by (counted_row r.purses r.holders (Member m)) (take l.row-index l.row-items)))
    × ((m : Name) → sum_at (map_of name_cmp l.sums) m ≤ l.row-index * most_number)
