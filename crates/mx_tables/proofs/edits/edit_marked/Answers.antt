use Rattle.mx_tables.proofs.Common.{◌≡◌, ◌∙◌, Database, inl, inr, office_schema, rules, state}
use Rattle.std.proofs.Common.{◌⊎◌, Err, IsTrue, ap, refl, subst}
use Rattle.sqlite.specs.Steps.{Discards, FailsAtMark}
use Rattle.sqlite.specs.State.{ReleasesAt, Survives, begins_at}
use Rattle.mx_tables.specs.Cached.{EditsThrough}
use Rattle.mx_tables.proofs.StateLemmas.{leaves_less}
use Rattle.mx_tables.proofs.ThroughLemmas.{through_same}
use Rattle.mx_tables.proofs.RoundLemmas.{before, change_made, change_undone, changes_err, changes_ok, never_at}
use Rattle.mx_tables.proofs.edits.edit_marked.Goals as goal

pub returns-in_err-edit_each : goal.returns-in_err-edit_each
returns-in_err-edit_each g c =
    let same : c.drop-mark.new.self.0 ≡ c.conn-in_err-edit_each-1.given.0 = search rules in
    let step = c.in_err-edit_each.ensures in
    let mid = state g.S.Store c.edit_each.new.tx.conn.now in
    let new = state g.S.Store c.drop-mark.new.self.0 in
    changes_err g.S.Store (state g.S.Store c.args.conn.now) _ _ _ c.from_residual.result same c.from_residual.ensures.0 (λ f.
    change_undone (state g.S.Store c.args.conn.now) (state g.S.Store c.in-Ok.mark.conn.now) mid new c.in-Ok.mark.at _ f c.in-Ok.ensures.survives c.in-Ok.ensures.ok step.within
    c.drop-mark.ensures.survives.clean (λ clean inside. leaves_less mid new c.drop-mark.ensures.survives clean)
    (λ clean. subst (λ n. Discards mid new n ⊎ ((e : _) × FailsAtMark mid new n e)) step.place (c.drop-mark.ensures.undone clean)) _)

pub returns-in-Ok-commit : goal.returns-in-Ok-commit
returns-in-Ok-commit g c =
    let same : c.commit.new.self.0 ≡ c.conn-2-1.given.0 = search rules in
    let step = c.in_ok-edit_each.ensures in
    let mid = state g.S.Store c.edit_each.new.tx.conn.now in
    let new = state g.S.Store c.commit.new.self.0 in
    let second = subst (λ n. Survives mid new (λ db. IsTrue (begins_at mid n) × (db ≡ mid.now.trees))) step.place c.in-Ok-commit.ensures.survives in
    changes_ok g.S.Store (state g.S.Store c.args.conn.now) _ _ (λ h. (state g.S.Store c.args.conn.now).now.schema ≡ office_schema → EditsThrough c.args.edits.now (state g.S.Store c.args.conn.now) (state g.S.Store h) c.args.cache.now c.edit_each.new.cache) same
    (change_made (state g.S.Store c.args.conn.now) (state g.S.Store c.in-Ok.mark.conn.now) mid new c.in-Ok.mark.at c.in-Ok.ensures.survives c.in-Ok.ensures.ok step.within second
    (λ clean. subst (λ n. ReleasesAt mid new n) step.place (c.in-Ok-commit.ensures.ok clean)) _
    (λ clean begun_is new_is inside has.
    let went = step.ok (before mid new second.clean clean) inside (ap (λ (d : Database). d.schema) begun_is ∙ has) in
    through_same _ _ _ _ begun_is new_is went))

pub returns-in-Err-commit : goal.returns-in-Err-commit
returns-in-Err-commit g c =
    let same : c.commit.new.self.0 ≡ c.conn-2-1.given.0 = search rules in
    let step = c.in_ok-edit_each.ensures in
    let old = state g.S.Store c.args.conn.now in
    let mark = state g.S.Store c.in-Ok.mark.conn.now in
    let mid = state g.S.Store c.edit_each.new.tx.conn.now in
    let new = state g.S.Store c.commit.new.self.0 in
    let second = subst (λ n. Survives mid new (λ db. IsTrue (begins_at mid n) × (db ≡ mid.now.trees))) step.place c.in-Err-commit.ensures.survives in
    changes_err g.S.Store old _ _ _ (Err c.fault_of-in-Err-commit.result) same refl (λ f.
    change_undone old mark mid new c.in-Ok.mark.at _ f c.in-Ok.ensures.survives c.in-Ok.ensures.ok step.within second.clean
    (λ clean inside db left. elim (second.crash clean db left) [
      | inl was ↦ was
      | inr commits ↦ absurd (let x = commits.0 in let y = never_at old mark mid c.in-Ok.mark.at c.in-Ok.ensures.survives c.in-Ok.ensures.ok step.within (before mid new second.clean clean) inside in cc)
    ])
    (λ clean. inr (c.in-Err-commit.error, subst (λ n. FailsAtMark mid new n c.in-Err-commit.error) step.place (c.in-Err-commit.ensures.err clean))) _)
