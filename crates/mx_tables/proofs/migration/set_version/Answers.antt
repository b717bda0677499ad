use Rattle.mx_tables.proofs.CallLemmas.{runs_one}
use Rattle.mx_tables.proofs.MigrationLemmas.{sets_version}
use Rattle.mx_tables.proofs.migration.set_version.Goals as goal

pub returns : goal.returns
returns g c = runs_one g.S.Store _ _ c.run_one.ensures (λ has ran. sets_version _ _ has ran)
