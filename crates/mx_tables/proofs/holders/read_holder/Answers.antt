use Rattle.mx_tables.proofs.Common.{◌≡◌, ◌∙◌, Some}
use Rattle.std.proofs.Common.{sym}
use Rattle.std.specs.FinMap as fmap
use Rattle.mx_book.proofs.HeldLemmas.{held_count}
use Rattle.mx_book.proofs.SpellLemmas.{holder_at}
use Rattle.mx_tables.specs.Cached.{index_of}
use Rattle.mx_tables.proofs.ThroughLemmas.{through_fault, through_filled, through_read, through_stopped, through_then, through_to}
use Rattle.mx_tables.proofs.holders.read_holder.Goals as goal

pub returns-in_err-member : goal.returns-in_err-member
returns-in_err-member g c = through_stopped g.S.Store c.in_err-member.ensures c.from_residual.ensures.1

pub returns-in_default : goal.returns-in_default
returns-in_default g c = through_to g.S.Store (through_read g.S.Store c.in_ok-member.ensures (λ rows w s v is. is)) (λ rows w s is. rw (sym is ∙ c.in_default.is) at (holder_at rows w c.args.name.now s))

pub returns-in_err-owners : goal.returns-in_err-owners
returns-in_err-owners g c = through_fault g.S.Store (through_then g.S.Store (through_read g.S.Store c.in_ok-member.ensures (λ rows w s v is. is)) c.in_err-owners.ensures) c.from_residual-in_err-owners.ensures.1

pub returns : goal.returns
returns g c = through_filled g.S.Store (through_then g.S.Store (through_read g.S.Store c.in_ok-member.ensures (λ rows w s v is. is)) c.in_ok-owners.ensures) (λ rows w s both it. c.fill_owners.ensures rows both.1 it)
    (λ rows w s both.
    let at : fmap.get rows.holders c.args.name.now ≡ Some c.in-Some.member = sym both.0 ∙ c.in-Some.is in
    let count = c.count_held-purses.ensures ∙ held_count rows.purses (index_of c.in_ok-owners.owners) both.1 c.args.name.now in
    rw (at, ← count) at (holder_at rows w c.args.name.now s))
