use Rattle.mx_tables.proofs.Common.{◌∙◌, Database, state}
use Rattle.std.proofs.Common.{ap, subst}
use Rattle.mx_tables.specs.Migration.{Upgrades}
use Rattle.mx_tables.proofs.CallLemmas.{steps_then, steps_to}
use Rattle.mx_tables.proofs.MigrationLemmas.{upgrades}
use Rattle.mx_tables.proofs.migration.upgrade.Goals as goal

pub returns : goal.returns
returns g c =
    steps_to g.S.Store (steps_then g.S.Store c.in_ok-find_open.ensures (steps_then g.S.Store c.in_default.ensures c.set_version.ensures)) (λ x all.
    let same = all.0.0 in
    record {
      live = same.was_open;
      upgrades = λ has.
          let made = all.1.0 (ap (λ (d : Database). d.schema) same.now_is ∙ has) in
          subst (λ d. Upgrades d (state g.S.Store c.set_version.new.tx.conn.now).now) same.now_is
          (upgrades (state g.S.Store c.find_open.new.tx.conn.now) (state g.S.Store c.make_settled.new.tx.conn.now) (state g.S.Store c.set_version.new.tx.conn.now) made (all.1.1 made.schema_is));
    })
