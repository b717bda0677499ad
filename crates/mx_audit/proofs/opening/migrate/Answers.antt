use Rattle.std.proofs.Common.{sym, subst}
use Rattle.std.proofs.lemmas.Result.{err_from_is_err_and}
use Rattle.sqlite.specs.Effect.{Database}
use Rattle.sqlite.specs.Held.{state}
use Rattle.mx_tables.specs.Holds.{Spells, SpellsOne}
use Rattle.mx_tables.proofs.StateLemmas.{idle_sure, sure_before}
use Rattle.mx_audit.proofs.OpeningLemmas.{version_after}
use Rattle.mx_audit.proofs.opening.migrate.Goals as goal

pub returns-in_err-expect_sound-clause-unsound : goal.returns-in_err-expect_sound-clause-unsound
returns-in_err-expect_sound-clause-unsound g c calm =
    let p = err_from_is_err_and c.from_residual.result c.from_residual.ensures.1 in
    let stays = c.expect_sound.ensures.stays c.in-Ok.ensures.ours in
    let same = stays.same (idle_sure (state g.S.Store c.expect_sound.new.store) calm) in
    rw (p.1, p.2) (λ checked is w spelled. c.in_err-expect_sound.ensures.unsound c.in-Ok.ensures.ours calm checked is w (subst (λ (db : Database). Spells db w) same spelled))

pub returns-clause-sound : goal.returns-clause-sound
returns-clause-sound g c calm =
    let first = state g.S.Store c.migrate.new.store in
    let last = state g.S.Store c.expect_sound.new.store in
    let ours = c.in-Ok.ensures.ours in
    let stays = c.expect_sound.ensures.stays ours in
    let before = sure_before first last stays.lasts calm in
    let version = version_after c.in-Ok.migrated _ first.now (c.in-Ok.ensures.migrates before) in
    let found = c.in_ok-expect_sound.ensures.sound ours calm version in
    (found.0, subst (λ (db : Database). SpellsOne db found.0) (sym (stays.same (idle_sure last calm))) found.1)
