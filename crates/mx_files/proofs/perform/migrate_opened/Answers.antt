use Rattle.std.proofs.Common.{subst, sym}
use Rattle.mx_files.specs.Performed.{MigratesBooks}
use Rattle.mx_files.proofs.FileLemmas.{migrated_books, raised_books, raised_shut, told_shut}
use Rattle.mx_files.proofs.perform.migrate_opened.Goals as goal

pub returns-in-Some-clause-migrates : goal.returns-in-Some-clause-migrates
returns-in-Some-clause-migrates g c = λ bytes over honest.
    let raised = c.raise_file.result in
    let shut = raised_shut c.args.store raised.left raised.copy raised.answer c.raise_file.ensures.raises in
    (raised.answer, told_shut raised.left raised.answer shut, raised_books c.args.store bytes raised.left raised.copy raised.answer over honest (c.raise_file.ensures.keeps honest) c.raise_file.ensures.raises)

pub returns-in-Some-clause-shut : goal.returns-in-Some-clause-shut
returns-in-Some-clause-shut g c = raised_shut c.args.store c.raise_file.result.left c.raise_file.result.copy c.raise_file.result.answer c.raise_file.ensures.raises

pub returns-in_default-clause-migrates : goal.returns-in_default-clause-migrates
returns-in_default-clause-migrates g c = λ bytes over honest.
    let left = c.migrate_in_files.result.left in
    let it = c.migrate_in_files.ensures.migrates honest in
    (it.1, it.2, subst (λ copy. MigratesBooks bytes it.1 left copy) (sym c.migrate_in_files.ensures.alone) (migrated_books c.args.store bytes left it.1 it.0 over it.3 it.4))
