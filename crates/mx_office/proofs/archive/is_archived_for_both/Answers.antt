use Rattle.std.proofs.Common.{rules}
use Rattle.mx_office.proofs.CallLemmas.{so_far, tells_so, tells_then, tells_fault}
use Rattle.mx_office.proofs.archive.is_archived_for_both.Goals as goal

pub returns-in_err-archived : goal.returns-in_err-archived
returns-in_err-archived g c =
    tells_fault c.in_err-archived.ensures c.from_residual.ensures.1

pub returns-then-not-branch : goal.returns-then-not-branch
returns-then-not-branch g c =
    let archived = so_far c.in_ok-archived.ensures in
    tells_so (g.met.B.Book.lawful _) archived (λ w world known. search rules)

pub returns : goal.returns
returns g c =
    let archived = so_far c.in_ok-archived.ensures in
    tells_then (g.met.B.Book.lawful _) archived c.archived-2.ensures (λ w world known x is. search rules)
