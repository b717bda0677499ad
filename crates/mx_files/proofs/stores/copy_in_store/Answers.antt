use Rattle.std.proofs.Common.{◌≡◌, ◌∙◌, ap, false, subst, sym}
use Rattle.sqlite.specs.Held.{state as state_of}
use Rattle.mx_tables.specs.Holds.{SpellsOne}
use Rattle.mx_tables.specs.States.{IsOurs, StaysIdle, worry}
use Rattle.mx_tables.specs.declared.making.Version.TheVariants.{Two}
use Rattle.mx_tables.proofs.StateLemmas.{rests_then, sure, sure_before}
use Rattle.mx_files.proofs.stores.copy_in_store.Goals as goal

pub returns-in-Ok-copy-clause-rests : goal.returns-in-Ok-copy-clause-rests
returns-in-Ok-copy-clause-rests g c =
    let same : c.into_store-opened.result ≡ c.in-Ok.book.book.0 = c.into_store-opened.ensures.same ∙ ap (λ t. t.0) c.into_inner.ensures in
    rests_then (state_of g.S.Store c.args.store) (state_of g.S.Store c.into_store-opened.result) (state_of g.S.Store c.copy.new.conn)
    (subst (λ h. StaysIdle (state_of g.S.Store c.args.store) (state_of g.S.Store h)) (sym same) c.in-Ok.ensures.rests) c.copy.ensures.rests

pub returns-in-Ok-clause-rests : goal.returns-in-Ok-clause-rests
returns-in-Ok-clause-rests g c =
    let same : c.into_store-opened.result ≡ c.in-Ok.book.book.0 = c.into_store-opened.ensures.same ∙ ap (λ t. t.0) c.into_inner.ensures in
    rests_then (state_of g.S.Store c.args.store) (state_of g.S.Store c.into_store-opened.result) (state_of g.S.Store c.copy.new.conn)
    (subst (λ h. StaysIdle (state_of g.S.Store c.args.store) (state_of g.S.Store h)) (sym same) c.in-Ok.ensures.rests) c.copy.ensures.rests

pub returns-in-Ok-copy-clause-copies : goal.returns-in-Ok-copy-clause-copies
returns-in-Ok-copy-clause-copies g c =
    let same : c.into_store-opened.result ≡ c.in-Ok.book.book.0 = c.into_store-opened.ensures.same ∙ ap (λ t. t.0) c.into_inner.ensures in
    let before = subst (λ h. StaysIdle (state_of g.S.Store c.args.store) (state_of g.S.Store h)) (sym same) c.in-Ok.ensures.rests in
    let ours = subst (λ h. IsOurs false (state_of g.S.Store h)) (sym same) c.in-Ok.ensures.ours in (
      c.in-Ok-copy.ensures.stays Two ours,
      λ sound.
          let calm = sure_before (state_of g.S.Store c.into_store-opened.result) (state_of g.S.Store c.copy.new.conn) c.copy.ensures.rests.later sound in
          let found = c.in-Ok.ensures.sound (subst (λ h. worry (state_of g.S.Store h) ≡ 0) same calm) in
          let spelled = subst (λ db. SpellsOne db found.0) (sym (before.same calm)) found.1 in (
            found.0,
            ∣ found.1 ∣₁,
            record {
              ours = c.in-Ok-copy.ensures.ours sound Two (ours.schema calm);
              stands = λ to_sound. ∣ c.in-Ok-copy.ensures.spells sound (sure (state_of g.T.Store c.copy.new.to) to_sound).1 Two found.0 spelled ∣₁;
            },
          ),
    )
