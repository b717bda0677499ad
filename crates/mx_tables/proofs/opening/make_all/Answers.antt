use Rattle.mx_tables.proofs.Common.{Ok}
use Rattle.mx_tables.proofs.CallLemmas.{steps_as, steps_fault, steps_then}
use Rattle.mx_tables.proofs.opening.make_all.Goals as goal

pub returns-in-Err-clause-steps : goal.returns-in-Err-clause-steps
returns-in-Err-clause-steps g c = steps_fault g.S.Store c.in-Err.ensures

pub returns-then-not-blank-clause-steps : goal.returns-then-not-blank-clause-steps
returns-then-not-blank-clause-steps g c = steps_fault g.S.Store c.in_default.ensures

pub returns-in-Ok-clause-steps : goal.returns-in-Ok-clause-steps
returns-in-Ok-clause-steps g c = steps_as g.S.Store (Ok tt) (steps_then g.S.Store c.in_default.ensures c.in-Ok.ensures) (λ both. (c.if-not-blank.false, λ blank. both.1 (both.0 blank)))

pub returns-in-Err-fill-clause-steps : goal.returns-in-Err-fill-clause-steps
returns-in-Err-fill-clause-steps g c = steps_fault g.S.Store (steps_then g.S.Store c.in_default.ensures c.in-Err-fill.ensures)
