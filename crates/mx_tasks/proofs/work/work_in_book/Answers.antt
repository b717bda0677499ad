use Rattle.mx_tasks.proofs.work.work_in_book.Goals as goal

pub returns-clause-works : goal.returns-clause-works
returns-clause-works g c = λ still low.
    let done = c.do_work-answer.ensures.works (rw c.new-office.ensures still) (rw c.into_book.ensures at low) in
    rw c.into_book.ensures (rw c.new-office.ensures at done)
