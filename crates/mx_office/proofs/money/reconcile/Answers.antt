use Rattle.std.proofs.Common.{rules, refl}
use Rattle.mx_office.proofs.CallLemmas.{so_far, tells_so, tells_fault, err_never}
use Rattle.mx_office.proofs.DecideLemmas.{told_decides}
use Rattle.mx_office.proofs.money.reconcile.Goals as goal

pub returns-in_err-totals : goal.returns-in_err-totals
returns-in_err-totals g c =
    record { tells = tells_fault c.in_err-totals.ensures c.from_residual.ensures.1; edits = err_never _ _ _ c.from_residual.ensures.1 }

pub returns : goal.returns
returns g c =
    let totals = so_far c.in_ok-totals.ensures in
    record { tells = tells_so (g.met.B.Book.lawful _) totals (λ w world known. told_decides w _ _ _ world refl (search rules) c.tell.ensures.edits); edits = c.tell.ensures.edits }
