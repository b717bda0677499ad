use Rattle.std.proofs.Common.{◌≡◌, ◌∙◌, ap, arith, inr, subst, sym}
use Rattle.sqlite.specs.Held.{state}
use Rattle.mx_standing.specs.Shown.{shown}
use Rattle.mx_standing.proofs.ShownLemmas.{spelled_shown}
use Rattle.mx_tables.specs.Rounds.{IsSettled}
use Rattle.mx_tables.specs.States.{worry}
use Rattle.mx_tables.specs.Steady.{rest_of}
use Rattle.mx_files.specs.Durable.{Represents}
use Rattle.mx_files.proofs.TableLemmas.{tables}
use Rattle.mx_files.proofs.check.check_in_store.Goals as goal

pub returns-in-Ok-clause-stays : goal.returns-in-Ok-clause-stays
returns-in-Ok-clause-stays g c = inr (λ sound.
    let book = c.in-Ok.book in
    let left = c.sums_done-answer.new.book in
    let keeps = c.sums_done-answer.ensures.keeps in
    let same : c.into_store.result ≡ left.book.0 = c.into_store.ensures.same ∙ ap (λ t. t.0) c.into_inner.ensures in
    let still = c.in-Ok.ensures.settled in
    let ends = keeps.rests still in
    let end : worry (state g.S.Store left.book.0) ≡ 0 = subst (λ h. worry (state g.S.Store h) ≡ 0) same sound in
    let last = (rest_of g.S.Store left.book ends).0 in
    let first = (rest_of g.S.Store book.book still).0 in
    let later = keeps.later in
    let start : worry (state g.S.Store book.book.0) ≡ 0 = omega (arith, first, last, later, end) in
    let old = shown (tables g.S.Store) book.book book.one book.kept in
    let spelled = spelled_shown (tables g.S.Store) book.book book.one book.kept (first ∙ start) in
    let after = spelled_shown (tables g.S.Store) left.book left.one left.kept (last ∙ end) in (
      old.world,
      subst (λ db. Represents db old.world) (c.in-Ok.ensures.rests.same start) spelled,
      c.into_store.ensures.ours (subst (λ t. IsSettled g.S.Store t) (sym c.into_inner.ensures) ends),
      subst (λ h. Represents (state g.S.Store h).now old.world) (sym same) (subst (λ v. Represents (state g.S.Store left.book.0).now v) (keeps.same (last ∙ end)) after),
    ))
