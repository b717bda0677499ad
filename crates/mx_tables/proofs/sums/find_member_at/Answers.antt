use Rattle.mx_tables.proofs.Common.{◌∙◌, refl}
use Rattle.std.proofs.Common.{sym}
use Rattle.mx_tables.proofs.CallLemmas.{asks_fault, asks_more, asks_ok, asks_then, reads_to}
use Rattle.mx_tables.proofs.PurseLemmas.{member_found, row_absent}
use Rattle.mx_tables.proofs.sums.find_member_at.Goals as goal

pub returns-in-None : goal.returns-in-None
returns-in-None g c = asks_ok g.S.Store (reads_to g.S.Store c.in_ok-find_owner.ensures.reads (λ rows holds is. rw (row_absent _ _ (sym c.in-None.is ∙ is)) refl))

pub returns-in-Some : goal.returns-in-Some
returns-in-Some g c = asks_more g.S.Store (asks_then g.S.Store c.in_ok-find_owner.ensures.reads c.find_holder.ensures) (λ rows holds v both.
    both.1 ∙ sym (member_found rows.holders _ c.in-Some.holder (sym c.in-Some.is ∙ both.0)))

pub returns-in_err-find_owner : goal.returns-in_err-find_owner
returns-in_err-find_owner g c = asks_fault g.S.Store c.in_err-find_owner.ensures c.from_residual.ensures.1
