use Rattle.std.proofs.Common.{◌≡◌, ◌≤◌, ◌∙◌, ap, arith, subst, sym}
use Rattle.sqlite.specs.Held.{state as state_of}
use Rattle.mx_book.specs.World.{World}
use Rattle.mx_desk.specs.Rounds.{Moves}
use Rattle.mx_standing.specs.Shown.{shown}
use Rattle.mx_standing.proofs.ShownLemmas.{spelled_shown}
use Rattle.mx_tables.specs.Rounds.{IsSettled, doubt_of}
use Rattle.mx_tables.specs.States.{worry}
use Rattle.mx_tables.specs.Steady.{rest_of}
use Rattle.mx_tasks.specs.Works.{Works}
use Rattle.mx_tasks.proofs.WorkLemmas.{works_so}
use Rattle.mx_files.specs.Durable.{Endures, Represents}
use Rattle.mx_files.proofs.TableLemmas.{endures_moved, sure_at_first, tables, worry_grows}
use Rattle.mx_files.proofs.stores.work_in_store.Goals as goal

pub returns-in-Ok-clause-later : goal.returns-in-Ok-clause-later
returns-in-Ok-clause-later g c =
    let still = c.in-Ok.ensures.settled in
    worry_grows g.S.Store c.args.store c.into_store.result c.in-Ok.book.book c.work_in_book-answer.result.1.book still (c.work_in_book-answer.ensures.still still) (c.work_in_book-answer.ensures.later still) c.in-Ok.ensures.rests.later
    (c.into_store.ensures.same ∙ ap (λ t. t.0) c.into_inner.ensures)

pub returns-in-Ok-clause-works : goal.returns-in-Ok-clause-works
returns-in-Ok-clause-works g c = λ low_end.
    let book = c.in-Ok.book in
    let left = c.work_in_book-answer.result.1 in
    let same : c.into_store.result ≡ left.book.0 = c.into_store.ensures.same ∙ ap (λ t. t.0) c.into_inner.ensures in
    let low : worry (state_of g.S.Store left.book.0) ≤ 1 = subst (λ h. worry (state_of g.S.Store h) ≤ 1) same low_end in
    let still = c.in-Ok.ensures.settled in
    let ends = c.work_in_book-answer.ensures.still still in
    let last = (rest_of g.S.Store left.book ends).0 in
    let sure = sure_at_first g.S.Store book.book left.book still ends (c.work_in_book-answer.ensures.later still) c.in-Ok.ensures.live low in
    let old = shown (tables g.S.Store) book.book book.one book.kept in
    let new = shown (tables g.S.Store) left.book left.one left.kept in
    let spelled = spelled_shown (tables g.S.Store) book.book book.one book.kept ((rest_of g.S.Store book.book still).0 ∙ sure) in
    let small : doubt_of g.S.Store left.book ≤ 1 = omega (arith, last, low) in
    let so = works_so (λ _. Unit {0}) (doubt_of g.S.Store left.book ≡ 0) (worry (state_of g.S.Store left.book.0) ≡ 0) (λ v. new.world ≡ v) (Represents (state_of g.S.Store left.book.0).now)
    (Moves old new old.world) (Endures (state_of g.S.Store left.book.0) old.world) (λ none. last ∙ none)
    (λ none v is. subst (λ (u : World). Represents (state_of g.S.Store left.book.0).now u) is (spelled_shown (tables g.S.Store) left.book left.one left.kept (last ∙ none)))
    (λ rs now moved. endures_moved g.S.Store book.book left.book book.one book.kept left.one left.kept left.left (g.met.S.Store.settled book.book.0.store) still sure ends old.world now rs spelled moved)
    old.world c.args.work.now c.work_in_book-answer.result.0 (c.work_in_book-answer.ensures.works still small) in (
      old.world,
      subst (λ db. Represents db old.world) (c.in-Ok.ensures.rests.same sure) spelled,
      subst (λ h. Works (λ _. Unit {0}) (worry (state_of g.S.Store h) ≡ 0) (Represents (state_of g.S.Store h).now) (Endures (state_of g.S.Store h) old.world) old.world c.args.work.now c.work_in_book-answer.result.0) (sym same) so,
    )

pub returns-in-Ok-clause-lasts : goal.returns-in-Ok-clause-lasts
returns-in-Ok-clause-lasts g c = c.into_store.ensures.lasts (subst (λ t. IsSettled g.S.Store t) (sym c.into_inner.ensures) (c.work_in_book-answer.ensures.still c.in-Ok.ensures.settled))

pub returns-in-Ok-clause-ours : goal.returns-in-Ok-clause-ours
returns-in-Ok-clause-ours g c = c.into_store.ensures.ours (subst (λ t. IsSettled g.S.Store t) (sym c.into_inner.ensures) (c.work_in_book-answer.ensures.still c.in-Ok.ensures.settled))
