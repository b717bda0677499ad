use Rattle.mx_report.proofs.RoundLemmas.{rows_made, rows_undone}
use Rattle.mx_report.proofs.rolls.end_at.Goals as goal

pub returns-in-Ok-clause-settles : goal.returns-in-Ok-clause-settles
returns-in-Ok-clause-settles g c = rows_made c.in-Ok.ensures.settles c.in-Ok.ensures.all

pub returns-in-NotRoll-clause-settles : goal.returns-in-NotRoll-clause-settles
returns-in-NotRoll-clause-settles g c = rows_undone c.in-Err.ensures.settles c.in-Err.ensures.before

pub returns-in_default-clause-settles : goal.returns-in_default-clause-settles
returns-in_default-clause-settles g c = rows_undone c.in-Err.ensures.settles c.in-Err.ensures.before
