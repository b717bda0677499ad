use Rattle.std.proofs.Common.{take}
use Rattle.sqlite.specs.Held.{state}
use Rattle.mx_book.specs.RowReads.{row_is_archived}
use Rattle.mx_tables.specs.Results.{AreDetails}
use Rattle.mx_tables.specs.States.{IsAwake, Reads, going}
use Rattle.mx_audit.proofs.LookLemmas.{IsFound}
use Rattle.mx_audit.proofs.look.look_up_cleared.Given as goal

-- the rows of the book are as they were, and nothing was found exactly where each result so far is archived
abbrev pub invariant-loop-purse : goal.invariant-loop-purse
invariant-loop-purse g l =
    IsAwake (state g.S.Store l.initial.conn)
    → Reads g.S.Store l.initial.conn l.conn going (λ r _. AreDetails r.archive → IsFound (λ e. row_is_archived r e.0 e.1) (take l.purse-index l.cleared) l.found)
