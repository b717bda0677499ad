use Rattle.std.proofs.Common.{rules, append_assoc}
use Rattle.mx_tasks.proofs.import.summary.counts_text.Goals as goal

pub returns : goal.returns
returns c = search (rules, append_assoc)
