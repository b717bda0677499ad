use Rattle.sqlite.specs.Held.{state}
use Rattle.mx_tables.specs.States.{IsAwake, Reads, going}
use Rattle.mx_audit.proofs.missing.tell_purses.Given as goal

-- the rows of the book are as they were
abbrev pub invariant-loop-row : goal.invariant-loop-row
invariant-loop-row g l = IsAwake (state g.S.Store l.initial.conn) → Reads g.S.Store l.initial.conn l.conn going (λ _ _. Unit {0})
