use Rattle.std.proofs.Common.{rules, append_assoc}
use Rattle.mx_tasks.proofs.import.summary.numbered_line.Goals as goal

pub returns : goal.returns
returns c = search (rules, append_assoc)
