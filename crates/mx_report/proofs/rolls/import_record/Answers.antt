use Rattle.mx_office.proofs.CallLemmas.{bides_none}
use Rattle.mx_report.proofs.rolls.import_record.Goals as goal

pub returns-in_err-reserve-clause-bides : goal.returns-in_err-reserve-clause-bides
returns-in_err-reserve-clause-bides g c = bides_none _
