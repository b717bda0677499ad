use Rattle.std.proofs.Common.{◌≡◌, ◌≤◌, ◌∙◌, ap, arith, subst, sym}
use Rattle.sqlite.specs.Held.{state as state_of}
use Rattle.mx_book.proofs.ViewLemmas.{rests_here}
use Rattle.mx_standing.specs.Shown.{shown}
use Rattle.mx_standing.proofs.ShownLemmas.{spelled_shown}
use Rattle.mx_tables.specs.Rounds.{IsSettled, doubt_of}
use Rattle.mx_tables.specs.States.{worry}
use Rattle.mx_tables.specs.Steady.{rest_of}
use Rattle.mx_files.specs.Durable.{Endures, Represents}
use Rattle.mx_files.proofs.TableLemmas.{endures_moved, sure_at_first, tables, worry_grows}
use Rattle.mx_files.proofs.stores.run_in_store.Goals as goal

pub returns-in-Ok-clause-later : goal.returns-in-Ok-clause-later
returns-in-Ok-clause-later g c =
    let still = c.in-Ok.ensures.settled in
    worry_grows g.S.Store c.args.store c.into_store.result c.in-Ok.book.book c.run_in_book-answer.result.1.book still (c.run_in_book-answer.ensures.still still) (c.run_in_book-answer.ensures.later still) c.in-Ok.ensures.rests.later
    (c.into_store.ensures.same ∙ ap (λ t. t.0) c.into_inner.ensures)

pub returns-in-Ok-clause-runs : goal.returns-in-Ok-clause-runs
returns-in-Ok-clause-runs g c = λ low_end.
    let book = c.in-Ok.book in
    let left = c.run_in_book-answer.result.1 in
    let same : c.into_store.result ≡ left.book.0 = c.into_store.ensures.same ∙ ap (λ t. t.0) c.into_inner.ensures in
    let low : worry (state_of g.S.Store left.book.0) ≤ 1 = subst (λ h. worry (state_of g.S.Store h) ≤ 1) same low_end in
    let still = c.in-Ok.ensures.settled in
    let ends = c.run_in_book-answer.ensures.still still in
    let last = (rest_of g.S.Store left.book ends).0 in
    let sure = sure_at_first g.S.Store book.book left.book still ends (c.run_in_book-answer.ensures.later still) c.in-Ok.ensures.live low in
    let old = shown (tables g.S.Store) book.book book.one book.kept in
    let spelled = spelled_shown (tables g.S.Store) book.book book.one book.kept ((rest_of g.S.Store book.book still).0 ∙ sure) in
    let small : doubt_of g.S.Store left.book ≤ 1 = omega (arith, last, low) in
    let led = c.run_in_book-answer.ensures.runs old.world small (rests_here still) in (
      old.world,
      subst (λ db. Represents db old.world) (c.in-Ok.ensures.rests.same sure) spelled,
      record { end = led.end; rounds = led.rounds; holds = led.holds; moves = subst (λ h. Endures (state_of g.S.Store h) old.world led.rounds led.end) (sym same) (endures_moved g.S.Store book.book left.book book.one book.kept left.one left.kept left.left (g.met.S.Store.settled book.book.0.store) still sure ends old.world led.end led.rounds spelled led.moves) },
    )

pub returns-in-Ok-clause-lasts : goal.returns-in-Ok-clause-lasts
returns-in-Ok-clause-lasts g c = c.into_store.ensures.lasts (subst (λ t. IsSettled g.S.Store t) (sym c.into_inner.ensures) (c.run_in_book-answer.ensures.still c.in-Ok.ensures.settled))

pub returns-in-Ok-clause-ours : goal.returns-in-Ok-clause-ours
returns-in-Ok-clause-ours g c = c.into_store.ensures.ours (subst (λ t. IsSettled g.S.Store t) (sym c.into_inner.ensures) (c.run_in_book-answer.ensures.still c.in-Ok.ensures.settled))
