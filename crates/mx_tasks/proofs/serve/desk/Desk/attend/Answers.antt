use Rattle.std.proofs.Common.{refl, ◌∙◌}
use Rattle.mx_desk.proofs.ClientLemmas.{each_none}
use Rattle.mx_tasks.proofs.GatherLemmas.{each_ended}
use Rattle.mx_tasks.proofs.serve.desk.Desk.attend.Goals as goal

pub returns-in-Nothing-clause-holds : goal.returns-in-Nothing-clause-holds
returns-in-Nothing-clause-holds g c = rw (c.reads.invariant.office, c.reads.invariant.callers) (each_none g.B.Book.fails _ _)

pub returns-in-Failed-clause-holds : goal.returns-in-Failed-clause-holds
returns-in-Failed-clause-holds g c = rw (c.reads.invariant.office, c.reads.invariant.callers) (each_none g.B.Book.fails _ _)

pub returns-clause-holds : goal.returns-clause-holds
returns-clause-holds g c = rw (c.reads.invariant.office, c.reads.invariant.callers) (each_none g.B.Book.fails _ _)

-- nothing comes any more, and what came is no whole request
pub returns-in-Waits-clause-holds : goal.returns-in-Waits-clause-holds
returns-in-Waits-clause-holds g c =
    let same = c.in-Waits.ensures.unmoved refl in
    let waits = rw c.as_slice-came.ensures.value at c.in-Waits.ensures.looks.waits in
    rw (same.0, same.1, c.reads.invariant.office, c.reads.invariant.callers) (each_ended g.B.Book.fails _ _ c.at_end.result (c.at_end.ensures.unframed waits))

pub returns-in-Waits-clause-unmoved : goal.returns-in-Waits-clause-unmoved
returns-in-Waits-clause-unmoved g c = λ none.
    let same = c.in-Waits.ensures.unmoved refl in
    (same.0 ∙ c.reads.invariant.office, same.1 ∙ c.reads.invariant.callers)
