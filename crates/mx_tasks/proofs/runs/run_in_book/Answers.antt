use Rattle.mx_tasks.proofs.runs.run_in_book.Goals as goal

pub returns-clause-runs : goal.returns-clause-runs
returns-clause-runs g c = λ w low was.
    rw c.into_book.ensures (rw c.new-office.ensures at (c.run_office-answer.ensures.runs w (rw c.into_book.ensures at low) (rw c.new-office.ensures was)))
