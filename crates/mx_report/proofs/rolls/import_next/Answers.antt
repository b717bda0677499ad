use Rattle.mx_office.proofs.CallLemmas.{bides_none}
use Rattle.mx_report.proofs.rolls.import_next.Goals as goal

pub returns-in-Ok-clause-bides : goal.returns-in-Ok-clause-bides
returns-in-Ok-clause-bides g c = c.import_record.ensures.bides

pub returns-in-Ok-import_record-clause-bides : goal.returns-in-Ok-import_record-clause-bides
returns-in-Ok-import_record-clause-bides g c = c.import_record.ensures.bides

pub returns-clause-bides : goal.returns-clause-bides
returns-clause-bides g c = bides_none _
