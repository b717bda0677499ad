use Rattle.mx_tables.proofs.Common.{◌≡◌, refl, inr, ◌∙◌, Database, Holds, Ok, rules, state}
use Rattle.std.proofs.Common.{◌⊎◌, Err, ap, subst, sym}
use Rattle.sqlite.specs.Steps.{Discards, FailsAtMark}
use Rattle.sqlite.specs.State.{ReleasesAt}
use Rattle.mx_book.specs.Spells.{opening_rows}
use Rattle.mx_tables.specs.Schema.{no_schema}
use Rattle.mx_tables.proofs.OpeningLemmas.{commits_as, committed_all, given_up, never_begun}
use Rattle.mx_tables.proofs.opening.make_office.Goals as goal

pub returns-in-Err-clause-commits : goal.returns-in-Err-clause-commits
returns-in-Err-clause-commits g c = never_begun (state g.S.Store c.args.conn.now) (state g.S.Store c.savepoint.follows.lender-at-none) c.savepoint.result _ _ _ c.in-Err.is c.savepoint.follows.holds-at-none

pub returns-in_err-make_all-clause-commits : goal.returns-in_err-make_all-clause-commits
returns-in_err-make_all-clause-commits g c =
    let same : c.drop-tx.new.self.0 ≡ c.conn-in_err-make_all-1.given.0 = search rules in
    let step = c.in_err-make_all.ensures.steps in
    let mid = state g.S.Store c.make_all.new.tx.conn.now in
    let new = state g.S.Store c.drop-tx.new.self.0 in
    commits_as g.S.Store (state g.S.Store c.args.conn.now) _ _ c.from_residual.result (λ h. Holds (state g.S.Store h).now (opening_rows c.args.operator.now)) same
    (given_up (state g.S.Store c.args.conn.now) (state g.S.Store c.in-Ok.tx.conn.now) mid new c.in-Ok.tx.at c.requires.idle c.in-Ok.ensures.survives c.in-Ok.ensures.ok c.drop-tx.ensures.survives.clean _ step.within
    (λ clean. subst (λ n. Discards mid new n ⊎ ((e : _) × FailsAtMark mid new n e)) step.place (c.drop-tx.ensures.undone clean)) _ c.from_residual.ensures.0 _)

pub returns-in-Ok-commit-clause-commits : goal.returns-in-Ok-commit-clause-commits
returns-in-Ok-commit-clause-commits g c =
    let same : c.commit.new.self.0 ≡ c.conn-2-1.given.0 = search rules in
    let step = c.in_ok-make_all.ensures.steps in
    let old = state g.S.Store c.args.conn.now in
    let mid = state g.S.Store c.make_all.new.tx.conn.now in
    let new = state g.S.Store c.commit.new.self.0 in
    commits_as g.S.Store old _ _ (Ok tt) (λ h. Holds (state g.S.Store h).now (opening_rows c.args.operator.now)) same
    (committed_all old (state g.S.Store c.in-Ok.tx.conn.now) mid new c.in-Ok.tx.at c.requires.idle c.in-Ok.ensures.survives c.in-Ok.ensures.ok c.in-Ok-commit.ensures.survives.clean step.within
    (λ clean. subst (λ n. ReleasesAt mid new n) step.place (c.in-Ok-commit.ensures.ok clean)) _
    (λ clean early was is inside.
    let it = step.ok early inside in
    let none = c.is_blank-blank.ensures.blank it.0 in
    let empty : c.args.conn.now.schema ≡ no_schema = search rules in
    let has = ap (λ (d : Database). d.schema) was ∙ empty in
    subst (λ d. Holds d (opening_rows c.args.operator.now)) (sym is) (it.1 (record { schema_is = has; empty = tt; inside = inside }))))

pub returns-in-Err-commit-clause-commits : goal.returns-in-Err-commit-clause-commits
returns-in-Err-commit-clause-commits g c =
    let same : c.commit.new.self.0 ≡ c.conn-2-1.given.0 = search rules in
    let step = c.in_ok-make_all.ensures.steps in
    let mid = state g.S.Store c.make_all.new.tx.conn.now in
    let new = state g.S.Store c.commit.new.self.0 in
    commits_as g.S.Store (state g.S.Store c.args.conn.now) _ _ (Err c.refused_create-in-Err-commit.result) (λ h. Holds (state g.S.Store h).now (opening_rows c.args.operator.now)) same
    (given_up (state g.S.Store c.args.conn.now) (state g.S.Store c.in-Ok.tx.conn.now) mid new c.in-Ok.tx.at c.requires.idle c.in-Ok.ensures.survives c.in-Ok.ensures.ok c.in-Err-commit.ensures.survives.clean (Ok tt) step.within
    (λ clean. inr (c.in-Err-commit.error, subst (λ n. FailsAtMark mid new n c.in-Err-commit.error) step.place (c.in-Err-commit.ensures.err clean))) _ refl _)
