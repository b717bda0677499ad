use Rattle.std.proofs.Common.{inr, rules}
use Rattle.mx_tasks.proofs.import.import_file.Goals as goal

pub returns-clause-imports : goal.returns-clause-imports
returns-clause-imports g c = λ still sure. inr (c.as_slice.result.now, search rules, search rules, c.import_bytes-answer.ensures.imports still sure)
