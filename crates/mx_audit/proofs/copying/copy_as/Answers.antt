use Rattle.mx_tables.proofs.Common.{◌≡◌, ◌∙◌, Database, Ok, rules, state}
use Rattle.std.proofs.Common.{ap, subst, sym}
use Rattle.sqlite.specs.State.{ReleasesAt}
use Rattle.mx_tables.proofs.CallLemmas.{steps_then}
use Rattle.mx_tables.proofs.OpeningLemmas.{commits_as, committed_all}
use Rattle.mx_tables.proofs.StateLemmas.{stays_same}
use Rattle.mx_audit.specs.Copies.{Copies}
use Rattle.mx_audit.proofs.CopyLemmas.{copies_all}
use Rattle.mx_audit.proofs.copying.copy_as.Goals as goal

pub returns-in-Err-clause-stays : goal.returns-in-Err-clause-stays
returns-in-Err-clause-stays g c ours = stays_same (state g.S.Store c.args.conn.now) ours

pub returns-in-Err-make_tables-clause-stays : goal.returns-in-Err-make_tables-clause-stays
returns-in-Err-make_tables-clause-stays g c ours = stays_same (state g.S.Store c.args.conn.now) ours

pub returns-in_err-fill_all-clause-stays : goal.returns-in_err-fill_all-clause-stays
returns-in_err-fill_all-clause-stays g c ours = c.in_err-fill_all.ensures.fills.stays ours

pub returns-in-Ok-commit-clause-stays : goal.returns-in-Ok-commit-clause-stays
returns-in-Ok-commit-clause-stays g c ours = c.in_ok-fill_all.ensures.fills.stays ours

pub returns-in-Err-commit-clause-stays : goal.returns-in-Err-commit-clause-stays
returns-in-Err-commit-clause-stays g c ours = c.in_ok-fill_all.ensures.fills.stays ours

pub returns-in-Ok-commit-clause-live : goal.returns-in-Ok-commit-clause-live
returns-in-Ok-commit-clause-live g c = c.in_ok-fill_all.ensures.fills.live

pub returns-in-Ok-commit-clause-copies : goal.returns-in-Ok-commit-clause-copies
returns-in-Ok-commit-clause-copies g c ours calm blank =
    let same : c.commit.new.self.0 ≡ c.to-2-1.given.0 = search rules in
    let from = (state g.S.Store c.args.conn.now).now in
    let old = state g.T.Store c.args.to.now in
    let mid = state g.T.Store c.fill_all.new.tx.conn.now in
    let new = state g.T.Store c.commit.new.self.0 in
    let filled = copies_all g.S.Store g.T.Store c.args.version c.args.conn.now c.fill_all.new.conn _ c.fill_all.new.tx c.schema-schema.ensures.live (g.met.S.Ordered.in_order c.args.conn.now) c.in_ok-fill_all.ensures.fills ours calm in
    let step = steps_then g.T.Store c.in_default.ensures filled in
    commits_as g.T.Store old _ _ (Ok tt) (λ h. Copies c.args.version from (state g.T.Store h).now) same
    (committed_all old (state g.T.Store c.in-Ok.tx.conn.now) mid new c.in-Ok.tx.at c.requires c.in-Ok.ensures.survives c.in-Ok.ensures.ok c.in-Ok-commit.ensures.survives.clean step.within
    (λ clean. subst (λ n. ReleasesAt mid new n) step.place (c.in-Ok-commit.ensures.ok clean)) _
    (λ clean early was is inside.
    let it = step.ok early inside in
    let has = ap (λ (d : Database). d.schema) was ∙ blank in
    subst (λ d. Copies c.args.version from d) (sym is) (it.1 (it.0 (record { schema_is = has; empty = tt; inside = inside })))))
