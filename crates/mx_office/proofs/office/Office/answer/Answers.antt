use Rattle.std.proofs.Common.{◌≤◌, arith, inl, inr, ◌∙◌}
use Rattle.std.proofs.lemmas.Result.{err_from_is_err_and}
use Rattle.mx_book.proofs.StandLemmas.{low_sure}
use Rattle.mx_book.specs.World.{World}
use Rattle.mx_book.specs.Views.{View, IsLawful}
use Rattle.mx_book.proofs.ViewLemmas.{attempts_settled, drafts_made, drafts_undone, later_settled, moves_nothing}
use Rattle.mx_office.proofs.LawLemmas.{accounts_after}
use Rattle.mx_office.specs.Step.{step}
use Rattle.mx_office.proofs.office.Office.answer.Goals as goal

low_harm : {v : View} → IsLawful v → v.doubt ≤ 1 → v.harm ≤ 1
low_harm law low = let deep = law.deep in omega (arith, deep, low)

-- ---- it is answered

pub returns-clause-attempts : goal.returns-clause-attempts
returns-clause-attempts g c = λ at.
    let done = attempts_settled (g.met.B.Book.lawful _) (g.met.B.Book.lawful _) at _ (λ w. (step w c.args.caller c.args.command.now).world) (drafts_made _ c.in_ok-reply.ensures.changes) c.in_ok-settled.ensures.settles in
    record { made = done.made; undone = tt; sure = done.sure }

pub returns-clause-later : goal.returns-clause-later
returns-clause-later g c = λ at. (returns-clause-attempts g c at).made.later

pub returns-clause-ok : goal.returns-clause-ok
returns-clause-ok g c = λ sure.
    let it = c.in_ok-settled.ensures.settles.ok (low_harm (g.met.B.Book.lawful _) (low_sure sure)) in
    it.2 ∙ c.in_ok-reply.ensures.changes.ok it.0

pub returns-clause-reply : goal.returns-clause-reply
returns-clause-reply g c = λ low. c.in_ok-reply.ensures.reply (c.in_ok-settled.ensures.settles.ok (low_harm (g.met.B.Book.lawful _) low)).0

pub returns-clause-accounts : goal.returns-clause-accounts
returns-clause-accounts g c = λ sure h. accounts_after _ _ h _ _ (returns-clause-ok g c sure)

pub returns-clause-told : goal.returns-clause-told
returns-clause-told g c = λ sure. c.in_ok-reply.ensures.told (c.in_ok-settled.ensures.settles.ok (low_harm (g.met.B.Book.lawful _) (low_sure sure))).0

pub returns-clause-refused : goal.returns-clause-refused
returns-clause-refused g c = λ sure refusal is.
    let it = c.in_ok-settled.ensures.settles.ok (low_harm (g.met.B.Book.lawful _) (low_sure sure)) in
    it.2 ∙ c.in_ok-reply.ensures.refused it.0 refusal is

-- ---- it isn't

pub returns-in_err-reply-clause-attempts : goal.returns-in_err-reply-clause-attempts
returns-in_err-reply-clause-attempts g c = λ at.
    let change : World → World = λ w. (step w c.args.caller c.args.command.now).world in
    let p = err_from_is_err_and c.from_residual.result c.from_residual.ensures.1 in
    let moves = moves_nothing (g.met.B.Book.lawful _) (g.met.B.Book.lawful _) at _ change (drafts_undone _ c.in_err-reply.ensures.changes) c.settle-settled.ensures.settles in
    rw p.1 (record { made = tt; undone = moves; sure = λ low. tt })

pub returns-in_err-reply-clause-later : goal.returns-in_err-reply-clause-later
returns-in_err-reply-clause-later g c = λ at.
    later_settled (g.met.B.Book.lawful _) (g.met.B.Book.lawful _) at _ c.in_err-reply.ensures.changes.bides c.settle-settled.ensures.settles

pub returns-in_err-reply-clause-err : goal.returns-in_err-reply-clause-err
returns-in_err-reply-clause-err g c = λ at sure.
    let change : World → World = λ w. w in
    let moves = moves_nothing (g.met.B.Book.lawful _) (g.met.B.Book.lawful _) at _ change (drafts_undone _ c.in_err-reply.ensures.changes) c.settle-settled.ensures.settles in
    let p = err_from_is_err_and c.from_residual.result c.from_residual.ensures.1 in
    rw p.1 (moves.world sure)

pub returns-in_err-reply-clause-memory : goal.returns-in_err-reply-clause-memory
returns-in_err-reply-clause-memory g c = λ sure.
    let p = err_from_is_err_and c.from_residual.result c.from_residual.ensures.1 in
    rw (p.1, p.2) (elim (g.met.B.Book.doubted c.answer_in_round-answered.new.self.book) [
      | inl none ↦ c.in_err-reply.ensures.memory none
      | inr any ↦ inr (any _)
    ])

pub returns-in_err-settled-clause-attempts : goal.returns-in_err-settled-clause-attempts
returns-in_err-settled-clause-attempts g c = λ at.
    let change : World → World = λ w. (step w c.args.caller c.args.command.now).world in
    let p = err_from_is_err_and c.from_residual-in_err-settled.result c.from_residual-in_err-settled.ensures.1 in
    let done = attempts_settled (g.met.B.Book.lawful _) (g.met.B.Book.lawful _) at _ change (drafts_made _ c.in_ok-reply.ensures.changes) c.in_err-settled.ensures.settles in
    rw p.1 (record { made = tt; undone = done.undone; sure = λ low. tt })

pub returns-in_err-settled-clause-later : goal.returns-in_err-settled-clause-later
returns-in_err-settled-clause-later g c = λ at.
    later_settled (g.met.B.Book.lawful _) (g.met.B.Book.lawful _) at _ c.in_ok-reply.ensures.changes.bides c.in_err-settled.ensures.settles

pub returns-in_err-settled-clause-err : goal.returns-in_err-settled-clause-err
returns-in_err-settled-clause-err g c = λ at sure.
    let p = err_from_is_err_and c.from_residual-in_err-settled.result c.from_residual-in_err-settled.ensures.1 in
    let done = attempts_settled (g.met.B.Book.lawful _) (g.met.B.Book.lawful _) at _ (λ w. (step w c.args.caller c.args.command.now).world) (drafts_made _ c.in_ok-reply.ensures.changes) c.in_err-settled.ensures.settles in
    rw p.1 (done.undone.world sure)
