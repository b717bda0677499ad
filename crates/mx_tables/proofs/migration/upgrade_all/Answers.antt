use Rattle.mx_tables.proofs.Common.{◌≡◌, refl, Ok, inl, inr, rules, state}
use Rattle.std.proofs.Common.{◌⊎◌, Err, IsTrue, subst, sym}
use Rattle.sqlite.specs.Steps.{Discards, FailsAtMark}
use Rattle.sqlite.specs.State.{HasCleanDisk, ReleasesAt}
use Rattle.mx_tables.specs.Migration.{StopsUpgrading, UpgradesOpen}
use Rattle.mx_tables.proofs.StateLemmas.{leaves_less}
use Rattle.mx_tables.proofs.RoundLemmas.{before}
use Rattle.mx_tables.proofs.OpeningLemmas.{commits_as, committed, committed_all, given_up, leaves_old, never_begun}
use Rattle.mx_tables.proofs.MigrationLemmas.{stops_upgrading, upgrades_inside}
use Rattle.mx_tables.proofs.migration.upgrade_all.Goals as goal

pub returns-in-Err-clause-commits : goal.returns-in-Err-clause-commits
returns-in-Err-clause-commits g c = never_begun (state g.S.Store c.args.conn.now) (state g.S.Store c.savepoint.follows.lender-at-none) c.savepoint.result _ _ _ c.in-Err.is c.savepoint.follows.holds-at-none

pub returns-in_err-upgrade-clause-commits : goal.returns-in_err-upgrade-clause-commits
returns-in_err-upgrade-clause-commits g c =
    let same : c.drop-tx.new.self.0 ≡ c.conn-in_err-upgrade-1.given.0 = search rules in
    let step = c.in_err-upgrade.ensures in
    let old = state g.S.Store c.args.conn.now in
    let mid = state g.S.Store c.upgrade.new.tx.conn.now in
    let new = state g.S.Store c.drop-tx.new.self.0 in
    commits_as g.S.Store old _ _ c.from_residual.result (λ h. UpgradesOpen old (state g.S.Store h).now) same
    (given_up old (state g.S.Store c.in-Ok.tx.conn.now) mid new c.in-Ok.tx.at c.requires c.in-Ok.ensures.survives c.in-Ok.ensures.ok c.drop-tx.ensures.survives.clean _ step.within
    (λ clean. subst (λ n. Discards mid new n ⊎ ((e : _) × FailsAtMark mid new n e)) step.place (c.drop-tx.ensures.undone clean)) _ c.from_residual.ensures.0 _)

pub returns-in_err-upgrade-clause-stops : goal.returns-in_err-upgrade-clause-stops
returns-in_err-upgrade-clause-stops g c =
    let same : c.drop-tx.new.self.0 ≡ c.conn-in_err-upgrade-1.given.0 = search rules in
    let step = c.in_err-upgrade.ensures in
    let old = state g.S.Store c.args.conn.now in
    let mid = state g.S.Store c.upgrade.new.tx.conn.now in
    let new = state g.S.Store c.drop-tx.new.self.0 in
    subst (λ h. StopsUpgrading old (state g.S.Store h)) same (λ clean db left. inl (
    leaves_old old (state g.S.Store c.in-Ok.tx.conn.now) mid new c.in-Ok.tx.at c.requires c.in-Ok.ensures.survives c.in-Ok.ensures.ok c.drop-tx.ensures.survives.clean _ step.within clean db
    (leaves_less mid new c.drop-tx.ensures.survives clean db left)))

pub returns-in-Ok-commit-clause-commits : goal.returns-in-Ok-commit-clause-commits
returns-in-Ok-commit-clause-commits g c =
    let same : c.commit.new.self.0 ≡ c.conn-2-1.given.0 = search rules in
    let step = c.in_ok-upgrade.ensures in
    let old = state g.S.Store c.args.conn.now in
    let mark = state g.S.Store c.in-Ok.tx.conn.now in
    let mid = state g.S.Store c.upgrade.new.tx.conn.now in
    let new = state g.S.Store c.commit.new.self.0 in
    commits_as g.S.Store old _ _ (Ok tt) (λ h. UpgradesOpen old (state g.S.Store h).now) same
    (committed_all old mark mid new c.in-Ok.tx.at c.requires c.in-Ok.ensures.survives c.in-Ok.ensures.ok c.in-Ok-commit.ensures.survives.clean step.within
    (λ clean. subst (λ n. ReleasesAt mid new n) step.place (c.in-Ok-commit.ensures.ok clean)) _
    (λ clean early was is inside. subst (UpgradesOpen old) (sym is) (upgrades_inside old mark mid c.in-Ok.tx.at c.in-Ok.ensures.ok step.within.clean step.ok early)))

pub returns-in-Ok-commit-clause-live : goal.returns-in-Ok-commit-clause-live
returns-in-Ok-commit-clause-live g c =
    let same : c.commit.new.self.0 ≡ c.conn-2-1.given.0 = search rules in
    let step = c.in_ok-upgrade.ensures in
    let mid = state g.S.Store c.upgrade.new.tx.conn.now in
    let new = state g.S.Store c.commit.new.self.0 in
    subst (λ h. HasCleanDisk (state g.S.Store h) → IsTrue (state g.S.Store h).is_open) same (λ clean.
    (committed (state g.S.Store c.args.conn.now) (state g.S.Store c.in-Ok.tx.conn.now) mid new c.in-Ok.tx.at c.requires c.in-Ok.ensures.survives c.in-Ok.ensures.ok c.in-Ok-commit.ensures.survives.clean step.within
    (λ clean. subst (λ n. ReleasesAt mid new n) step.place (c.in-Ok-commit.ensures.ok clean)) clean).is_open)

pub returns-in-Ok-commit-clause-stops : goal.returns-in-Ok-commit-clause-stops
returns-in-Ok-commit-clause-stops g c =
    let same : c.commit.new.self.0 ≡ c.conn-2-1.given.0 = search rules in
    let step = c.in_ok-upgrade.ensures in
    let old = state g.S.Store c.args.conn.now in
    let mark = state g.S.Store c.in-Ok.tx.conn.now in
    let mid = state g.S.Store c.upgrade.new.tx.conn.now in
    let new = state g.S.Store c.commit.new.self.0 in
    let last = c.in-Ok-commit.ensures.survives in
    subst (λ h. StopsUpgrading old (state g.S.Store h)) same
    (stops_upgrading old mid new _ last (leaves_old old mark mid new c.in-Ok.tx.at c.requires c.in-Ok.ensures.survives c.in-Ok.ensures.ok last.clean _ step.within)
    (λ clean. upgrades_inside old mark mid c.in-Ok.tx.at c.in-Ok.ensures.ok step.within.clean step.ok (before mid new last.clean clean)))

pub returns-in-Err-commit-clause-commits : goal.returns-in-Err-commit-clause-commits
returns-in-Err-commit-clause-commits g c =
    let same : c.commit.new.self.0 ≡ c.conn-2-1.given.0 = search rules in
    let step = c.in_ok-upgrade.ensures in
    let old = state g.S.Store c.args.conn.now in
    let mid = state g.S.Store c.upgrade.new.tx.conn.now in
    let new = state g.S.Store c.commit.new.self.0 in
    commits_as g.S.Store old _ _ (Err c.fault_of-in-Err-commit.result) (λ h. UpgradesOpen old (state g.S.Store h).now) same
    (given_up old (state g.S.Store c.in-Ok.tx.conn.now) mid new c.in-Ok.tx.at c.requires c.in-Ok.ensures.survives c.in-Ok.ensures.ok c.in-Err-commit.ensures.survives.clean (Ok tt) step.within
    (λ clean. inr (c.in-Err-commit.error, subst (λ n. FailsAtMark mid new n c.in-Err-commit.error) step.place (c.in-Err-commit.ensures.err clean))) _ refl _)

pub returns-in-Err-commit-clause-stops : goal.returns-in-Err-commit-clause-stops
returns-in-Err-commit-clause-stops g c =
    let same : c.commit.new.self.0 ≡ c.conn-2-1.given.0 = search rules in
    let step = c.in_ok-upgrade.ensures in
    let old = state g.S.Store c.args.conn.now in
    let mark = state g.S.Store c.in-Ok.tx.conn.now in
    let mid = state g.S.Store c.upgrade.new.tx.conn.now in
    let new = state g.S.Store c.commit.new.self.0 in
    let last = c.in-Err-commit.ensures.survives in
    subst (λ h. StopsUpgrading old (state g.S.Store h)) same
    (stops_upgrading old mid new _ last (leaves_old old mark mid new c.in-Ok.tx.at c.requires c.in-Ok.ensures.survives c.in-Ok.ensures.ok last.clean _ step.within)
    (λ clean. upgrades_inside old mark mid c.in-Ok.tx.at c.in-Ok.ensures.ok step.within.clean step.ok (before mid new last.clean clean)))
