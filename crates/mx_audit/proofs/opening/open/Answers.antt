-- The store that the tables give back is as it was, and so it is audited.
use Rattle.std.proofs.Common.{◌≡◌, sym, subst}
use Rattle.sqlite.specs.Effect.{Database}
use Rattle.sqlite.specs.Held.{state}
use Rattle.mx_book.proofs.StandLemmas.{sure_before as none_before}
use Rattle.mx_tables.specs.Holds.{Spells, SpellsOne}
use Rattle.mx_tables.specs.Made.{HasVersion}
use Rattle.mx_tables.specs.States.{worry}
use Rattle.mx_tables.specs.Steady.{deep_at}
use Rattle.mx_tables.proofs.StateLemmas.{idle_sure, sure_before}
use Rattle.mx_audit.proofs.OpeningLemmas.{rested}
use Rattle.mx_audit.proofs.opening.open.Goals as goal

pub over-requires-clause-spelled : goal.over-requires-clause-spelled
over-requires-clause-spelled g c calm =
    let first = state g.S.Store c.into_store-opened.result in
    let last = state g.S.Store c.expect_sound.new.store in
    let ours = c.into_store-opened.ensures.ours c.in-Ok.ensures.settled in
    let stays = c.expect_sound.ensures.stays ours in
    let before : worry first ≡ 0 = sure_before first last stays.lasts calm in
    let opened : worry (state g.S.Store c.in-Ok.book.0) ≡ 0 = rw c.into_store-opened.ensures.same at before in
    let same : first.now ≡ (state g.S.Store c.args.store).now = rw c.into_store-opened.ensures.same (c.in-Ok.ensures.rests.same opened) in
    let found = c.in-Ok-expect_sound.ensures.sound ours calm (subst (HasVersion 2) (sym same) (c.in-Ok.ensures.known opened)) in
    (found.0, subst (λ (db : Database). SpellsOne db found.0) (sym (stays.same (idle_sure last calm))) found.1)

pub of-requires-clause-spelled : goal.of-requires-clause-spelled
of-requires-clause-spelled g c doubt =
    let first = state g.S.Store c.into_store-opened.result in
    let last = state g.S.Store c.expect_sound.new.store in
    let book = state g.S.Store c.over.result.0 in
    let end : worry book ≡ 0 = none_before (deep_at c.over.result.1 book.is_open book.in_transaction book.is_clean) doubt in
    let calm : worry last ≡ 0 = rw c.over.ensures.same at end in
    let ours = c.into_store-opened.ensures.ours c.in-Ok.ensures.settled in
    let stays = c.expect_sound.ensures.stays ours in
    let before : worry first ≡ 0 = sure_before first last stays.lasts calm in
    let opened : worry (state g.S.Store c.in-Ok.book.0) ≡ 0 = rw c.into_store-opened.ensures.same at before in
    let same : first.now ≡ (state g.S.Store c.args.store).now = rw c.into_store-opened.ensures.same (c.in-Ok.ensures.rests.same opened) in
    let found = c.in-Ok-expect_sound.ensures.sound ours calm (subst (HasVersion 2) (sym same) (c.in-Ok.ensures.known opened)) in
    let spelled = subst (λ (db : Database). SpellsOne db found.0) (sym (stays.same (idle_sure last calm))) found.1 in
    ∣ (found.0, subst (λ h. SpellsOne (state g.S.Store h).now found.0) (sym c.over.ensures.same) spelled) ∣₁

pub returns-in-Ok-expect_sound-clause-sound : goal.returns-in-Ok-expect_sound-clause-sound
returns-in-Ok-expect_sound-clause-sound g c end_shown =
    let first = state g.S.Store c.into_store-opened.result in
    let last = state g.S.Store c.expect_sound.new.store in
    let end : worry (state g.S.Store c.over.result.0) ≡ 0 = rw c.of.ensures at end_shown in
    let calm : worry last ≡ 0 = rw c.over.ensures.same at end in
    let ours = c.into_store-opened.ensures.ours c.in-Ok.ensures.settled in
    let before : worry first ≡ 0 = sure_before first last (c.expect_sound.ensures.stays ours).lasts calm in
    let opened : worry (state g.S.Store c.in-Ok.book.0) ≡ 0 = rw c.into_store-opened.ensures.same at before in
    let same : first.now ≡ (state g.S.Store c.args.store).now = rw c.into_store-opened.ensures.same (c.in-Ok.ensures.rests.same opened) in
    let found = c.in-Ok-expect_sound.ensures.sound ours calm (subst (HasVersion 2) (sym same) (c.in-Ok.ensures.known opened)) in
    (found.0, subst (λ (db : Database). SpellsOne db found.0) same found.1)

pub returns-in-Ok-expect_sound-clause-rests : goal.returns-in-Ok-expect_sound-clause-rests
returns-in-Ok-expect_sound-clause-rests g c =
    rw (c.of.ensures, c.over.ensures.same)
    (rested g.S.Store c.args.store c.in-Ok.book.0 c.into_store-opened.result c.expect_sound.new.store c.into_store-opened.ensures.same c.in-Ok.ensures.rests
    (c.expect_sound.ensures.stays (c.into_store-opened.ensures.ours c.in-Ok.ensures.settled)))

pub returns-in-Err-clause-refused : goal.returns-in-Err-clause-refused
returns-in-Err-clause-refused g c = record {
  rests = c.in-Err.ensures.rests;
  unknown = λ is. c.in-Err.ensures.unknown (c.as_refusal.ensures.known is);
  unsound = λ checked is. absurd (c.as_refusal.ensures.sound checked is);
}

pub returns-in-Err-expect_sound-clause-refused : goal.returns-in-Err-expect_sound-clause-refused
returns-in-Err-expect_sound-clause-refused g c = record {
  rests = rested g.S.Store c.args.store c.in-Ok.book.0 c.into_store-opened.result c.expect_sound.new.store c.into_store-opened.ensures.same c.in-Ok.ensures.rests
      (c.expect_sound.ensures.stays (c.into_store-opened.ensures.ours c.in-Ok.ensures.settled));
  unknown = λ is. absurd (c.in-Err-expect_sound.ensures.known is);
  unsound = λ checked is calm w spelled.
      let first = state g.S.Store c.into_store-opened.result in
      let last = state g.S.Store c.expect_sound.new.store in
      let ours = c.into_store-opened.ensures.ours c.in-Ok.ensures.settled in
      let before : worry first ≡ 0 = sure_before first last (c.expect_sound.ensures.stays ours).lasts calm in
      let opened : worry (state g.S.Store c.in-Ok.book.0) ≡ 0 = rw c.into_store-opened.ensures.same at before in
      let same : first.now ≡ (state g.S.Store c.args.store).now = rw c.into_store-opened.ensures.same (c.in-Ok.ensures.rests.same opened) in
      c.in-Err-expect_sound.ensures.unsound ours calm checked is w (subst (λ (db : Database). Spells db w) (sym same) spelled);
}
