use Rattle.mx_tables.specs.declared.making.Version.TheVariants.{One, Two}
use Rattle.mx_audit.proofs.CopyLemmas.{among_in}
use Rattle.mx_audit.proofs.copying.fill_all.Goals as goal

pub returns-in-One-clause-fills : goal.returns-in-One-clause-fills
returns-in-One-clause-fills g c = rw c.in-One.is (c.fill_tables.ensures.fills One (among_in One))

pub returns-in-Two-clause-fills : goal.returns-in-Two-clause-fills
returns-in-Two-clause-fills g c = rw c.in-Two.is (c.fill_tables-in-Two.ensures.fills Two (among_in Two))
