use Rattle.mx_book.proofs.StandLemmas.{sure_before}
use Rattle.mx_report.proofs.reconciliation.reconcile.Goals as goal

pub returns-clause-value : goal.returns-clause-value
returns-clause-value g c = λ sure.
    let before = sure_before c.totals.ensures.keeps.later sure in
    (c.in_ok-members.ensures.value before, rw (c.members_totals.ensures.keeps.same before) at (c.in_ok-scheme.ensures.value sure))
