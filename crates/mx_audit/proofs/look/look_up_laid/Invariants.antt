use Rattle.std.proofs.Common.{take}
use Rattle.sqlite.specs.Held.{state}
use Rattle.mx_tables.specs.Answers.{ArePurses}
use Rattle.mx_tables.specs.Results.{AreDetails}
use Rattle.mx_tables.specs.States.{IsAwake, Reads, going}
use Rattle.mx_audit.specs.Audited.{is_laid_well}
use Rattle.mx_audit.proofs.LookLemmas.{IsFound}
use Rattle.mx_audit.proofs.look.look_up_laid.Given as goal

-- the rows of the book are as they were, and nothing was found exactly where each result so far lies well
abbrev pub invariant-loop-purse : goal.invariant-loop-purse
invariant-loop-purse g l =
    IsAwake (state g.S.Store l.initial.conn)
    → Reads g.S.Store l.initial.conn l.conn going (λ r _. ArePurses r → AreDetails r.archive → IsFound (is_laid_well r) (take l.purse-index l.laid) l.found)
