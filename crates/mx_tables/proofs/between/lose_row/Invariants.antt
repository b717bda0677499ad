use Rattle.mx_tables.proofs.Common.{◌≡◌, ◌≤◌, take, going, state}
use Rattle.std.specs.Prelude.{◌*◌, sum_by}
use Rattle.mx_pay.specs.Limits.{most_amount}
use Rattle.mx_pay.specs.Log.{logged, log_len}
use Rattle.mx_book.specs.RowTotals.{lost_by}
use Rattle.mx_tables.specs.Answers.{ArePurses}
use Rattle.mx_tables.specs.Results.{AreEntries}
use Rattle.mx_tables.specs.States.{IsAwake, Reads}
use Rattle.mx_tables.proofs.between.lose_row.Given as goal

-- the rows of the book are as they were, and the sum is that of the entries so far, each of at most 10^12
abbrev pub invariant-loop-place : goal.invariant-loop-place
invariant-loop-place g l =
    (l.place-end ≡ log_len l.log)
    × (IsAwake (state g.S.Store l.initial.conn) → Reads g.S.Store l.initial.conn l.conn going (λ r _. ArePurses r → AreEntries r → l.sum ≡ sum_by (lost_by r.purses r.archive r.settled l.purse) (take l.place (logged l.log))))
    × (l.sum ≤ l.place * most_amount)
