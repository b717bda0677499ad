use Rattle.mx_tables.specs.Schema.{schema_11, settled}
use Rattle.mx_tables.proofs.CallLemmas.{steps_to}
use Rattle.mx_tables.proofs.KeptLemmas.{makes_settled}
use Rattle.mx_tables.proofs.making.make_settled.Goals as goal

pub returns : goal.returns
returns g c = steps_to g.S.Store c.make.ensures (λ x make has. make schema_11 settled makes_settled has)
