use Rattle.std.proofs.Common.{◌≡◌, ◌≤◌, arith, ap, sym, subst, ◌∙◌}
use Rattle.sqlite_trees.specs.Tree.{Trees}
use Rattle.sqlite.specs.Effect.{Database}
use Rattle.sqlite.specs.State.{HasCleanDisk}
use Rattle.sqlite.specs.Held.{state}
use Rattle.mx_tables.specs.Rounds.{IsSettled}
use Rattle.mx_tables.specs.States.{Leaves, worry}
use Rattle.mx_tables.proofs.StateLemmas.{sure, sure_before}
use Rattle.mx_files.proofs.FileLemmas.{low_if_clean}
use Rattle.mx_lives.proofs.lives.stopped.Goals as goal

pub returns-in-Ok-open-clause-calm : goal.returns-in-Ok-open-clause-calm
returns-in-Ok-open-clause-calm g c = λ h.
    let found = state g.S.Store c.in-Ok-over.found in
    let clean : HasCleanDisk found = (sure found (sure_before found (state g.S.Store c.in-Ok-open.again.book.0) c.in-Ok-open.ensures.rests.later h)).1 in
    let was : HasCleanDisk (state g.S.Store c.into_store.result) = omega (arith, clean, c.in-Ok-over.ensures.clean, c.in-Ok.ensures.clean, c.into_store-store.ensures.quiet.clean) in
    let low : worry (state g.S.Store c.into_store.result) ≤ 1 = low_if_clean (state g.S.Store c.into_store.result) was in
    subst (λ h. worry (state g.S.Store h) ≤ 1) (c.into_store.ensures.same ∙ ap (λ t. t.0) c.into_inner.ensures) low

pub returns-in-Ok-open-clause-left : goal.returns-in-Ok-open-clause-left
returns-in-Ok-open-clause-left g c = λ settled h.
    let again = state g.S.Store c.in-Ok-open.again.book.0 in
    let found = state g.S.Store c.in-Ok-over.found in
    let clean : HasCleanDisk found = (sure found (sure_before found again c.in-Ok-open.ensures.rests.later h)).1 in
    let stopped : (g.S.Store.view c.crash_and_reopen.new.self).trees ≡ (g.S.Store.view c.crash_and_reopen.new.self).committed = c.in-Ok.ensures.fresh.clean in
    let left = c.into_store-store.ensures.quiet.outcomes _ (c.in-Ok.ensures.found (let e = clean in omega (arith, e, c.in-Ok-over.ensures.clean))) in
    let trees : (g.S.Store.view c.crash_and_reopen.new.self).committed ≡ again.now.trees = sym stopped ∙ sym (c.in-Ok-over.ensures.trees clean) ∙ sym (ap (λ (d : Database). d.trees) (c.in-Ok-open.ensures.rests.same h)) in
    let it : Leaves (state g.S.Store c.into_store.result) again.now = record {
      base = (c.into_store.ensures.ours (subst (λ t. IsSettled g.S.Store t) (sym c.into_inner.ensures) settled)).base;
      schema = c.in-Ok-open.ensures.ours.schema h;
      trees = subst (λ (t : Trees). g.S.Store.recovers c.into_store.result.store t) trees left;
    } in
    subst (λ h. Leaves (state g.S.Store h) again.now) (c.into_store.ensures.same ∙ ap (λ t. t.0) c.into_inner.ensures) it
