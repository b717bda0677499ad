use Rattle.mx_tables.specs.Schema.{no_schema, schema_of}
use Rattle.mx_tables.proofs.CallLemmas.{steps_to}
use Rattle.mx_tables.proofs.KeptLemmas.{makes_version}
use Rattle.mx_tables.specs.declared.making.Version.TheVariants.{One, Two}
use Rattle.mx_tables.proofs.making.make_tables.Goals as goal

pub returns-in-One : goal.returns-in-One
returns-in-One g c = rw c.in-One.is (steps_to g.S.Store c.make_each.ensures (λ x make. make no_schema (schema_of One) (makes_version One)))

pub returns-in-Two : goal.returns-in-Two
returns-in-Two g c = rw c.in-Two.is (steps_to g.S.Store c.make_each-in-Two.ensures (λ x make. make no_schema (schema_of Two) (makes_version Two)))
