use Rattle.std.proofs.Common.{arith}
use Rattle.mx_tasks.proofs.RollLemmas.{read_more, read_whole}
use Rattle.mx_tasks.proofs.import.bytes_of.Goals as goal

pub returns-clause-whole : goal.returns-clause-whole
returns-clause-whole g c = read_whole 1048576 _ _ c.in_ok-bytes.ensures (omega arith)

pub returns-then-len-gt-MOST_OF_A_ROLL-clause-too_large : goal.returns-then-len-gt-MOST_OF_A_ROLL-clause-too_large
returns-then-len-gt-MOST_OF_A_ROLL-clause-too_large g c = read_more _ 1048576 _ _ c.in_ok-bytes.ensures (omega arith)
