use Rattle.mx_tables.proofs.Common.{◌≡◌, ◌≤◌, take, going}
use Rattle.std.specs.Prelude.{◌*◌, sum_by}
use Rattle.mx_pay.specs.Limits.{most_number}
use Rattle.mx_tables.specs.Answers.{ArePurses}
use Rattle.mx_tables.specs.Counted.{row_adds}
use Rattle.mx_tables.specs.Results.{AreEntries}
use Rattle.mx_tables.specs.States.{Reads}
use Rattle.mx_tables.proofs.sums.sum_of.Given as goal

-- the rows of the book are as they were, and the sum is that of the rows so far, each of which adds at most 10^15
abbrev pub invariant-loop-row : goal.invariant-loop-row
invariant-loop-row g l =
    (Reads g.S.Store l.initial.conn l.conn going (λ r _. ArePurses r → AreEntries r → l.sum ≡ sum_by (row_adds r l.adds) (take l.row-index l.row-items)))
    × (l.sum ≤ l.row-index * most_number)
