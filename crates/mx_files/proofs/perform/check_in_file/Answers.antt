use Rattle.sqlite_wal.specs.Files.{image_at}
use Rattle.mx_files.proofs.CopiedLemmas.{if_answered, is_answered}
use Rattle.mx_files.proofs.FileLemmas.{checks_over, checks_weaker, wrong_sums}
use Rattle.mx_files.proofs.perform.check_in_file.Goals as goal

pub returns-in-Ok-clause-checks : goal.returns-in-Ok-clause-checks
returns-in-Ok-clause-checks g c = λ honest.
    let checked = c.check_in_files-answer.result in
    checks_weaker (image_at g.S.Start) checked.left (wrong_sums _ checked.answer c.with_sums.result c.with_sums.ensures.ok c.with_sums.ensures.adds)
    (checks_over _ c.in-Ok.store (image_at g.S.Start) checked.left c.in-Ok.ensures.over (c.check_in_files-answer.ensures.checks honest))

pub returns-in-Ok-clause-shut : goal.returns-in-Ok-clause-shut
returns-in-Ok-clause-shut g c = if_answered c.with_sums.result _ (λ done is none. c.check_in_files-answer.ensures.shut (c.with_sums.ensures.ok (is_answered _ done is)))
