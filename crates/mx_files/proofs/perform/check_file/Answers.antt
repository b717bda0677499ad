use Rattle.sqlite_wal.specs.Files.{image_at}
use Rattle.mx_files.proofs.FileLemmas.{checks_ended}
use Rattle.mx_files.proofs.perform.check_file.Goals as goal

pub returns-clause-checks : goal.returns-clause-checks
returns-clause-checks g c = λ honest. checks_ended (image_at g.S.Start) c.in_ok-answer.field-0.left c.in_ok-answer.field-0.answer c.say_done.result _ _ c.say_done.ensures.ends (c.in_ok-answer.ensures.checks honest)
