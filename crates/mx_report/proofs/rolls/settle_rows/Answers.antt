use Rattle.mx_report.proofs.RoundLemmas.{settles_made, settles_undone}
use Rattle.mx_report.proofs.rolls.settle_rows.Goals as goal

pub returns-in-Ok-clause-settles : goal.returns-in-Ok-clause-settles
returns-in-Ok-clause-settles g c = settles_made _ c.in-Ok.ensures.settles

pub returns-in-Err-clause-settles : goal.returns-in-Err-clause-settles
returns-in-Err-clause-settles g c = settles_undone _ c.in-Err.ensures.settles
