use Rattle.mx_book.proofs.ViewLemmas.{rests_here}
use Rattle.mx_tasks.proofs.work.do_work.Goals as goal

pub returns-in-Serve-clause-works : goal.returns-in-Serve-clause-works
returns-in-Serve-clause-works g c = λ still low. rw c.in-Serve.is (c.serve.ensures.serves _ low (rests_here still))

pub returns-in-Import-clause-works : goal.returns-in-Import-clause-works
returns-in-Import-clause-works g c = λ still low. rw c.in-Import.is (λ sure. c.import.ensures.imports still sure)

pub returns-in-Report-clause-works : goal.returns-in-Report-clause-works
returns-in-Report-clause-works g c = λ still low. rw c.in-Report.is (c.report.ensures.fault, λ sure. (c.report.ensures.keeps.same sure, c.report.ensures.reports sure))
