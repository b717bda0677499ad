use Rattle.mx_tables.proofs.Common.{◌∙◌}
use Rattle.std.proofs.Common.{ap, subst, sym}
use Rattle.mx_book.specs.declared.edits.Edit.TheVariants.{AddRedemption}
use Rattle.mx_book.specs.RowEdits.{rewritten}
use Rattle.mx_memory.specs.Due.{owed}
use Rattle.mx_tables.specs.Cached.{IsDue, due_of}
use Rattle.mx_tables.proofs.CacheLemmas.{due_redeemed}
use Rattle.mx_tables.proofs.ThroughLemmas.{edits_follow, edits_found}
use Rattle.mx_tables.proofs.collecting.redeem.Goals as goal

pub returns-in_default : goal.returns-in_default
returns-in_default g c = edits_follow g.S.Store c.in_ok-insert_redemption.ensures (λ r fit it. (c.take_due.ensures r it).0 _)

pub returns-in-Ok : goal.returns-in-Ok
returns-in-Ok g c =
    let key = c.args.key in
    edits_found g.S.Store c.in_ok-insert_redemption.ensures c.in_ok-member.ensures (λ r fit seen it.
    let both = c.take_due.ensures r it in
    let is : IsDue r (due_of c.in-Some.due) = rw c.in-Some.is at both.1 in
    c.fill_due.ensures _
    (subst (IsDue (rewritten r (AddRedemption key.0 key.1 c.args.amount))) (sym (c.in-Ok.ensures ∙ ap (λ o. owed (due_of c.in-Some.due) o key) seen)) (due_redeemed r (due_of c.in-Some.due) key.0 key.1 c.args.amount fit is))
    (both.0 _))

pub returns-in-Err : goal.returns-in-Err
returns-in-Err g c = edits_found g.S.Store c.in_ok-insert_redemption.ensures c.in_ok-member.ensures (λ r fit seen it. (c.take_due.ensures r it).0 _)
