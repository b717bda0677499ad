use Rattle.std.proofs.Common.{ap, inl, inr}
use Rattle.sqlite_wal.specs.Files.{image_at}
use Rattle.mx_files.specs.Performed.{streams}
use Rattle.mx_files.proofs.FileLemmas.{ok_work, refused_over, same_world, work_refused}
use Rattle.mx_files.proofs.perform.work_in_file.Goals as goal

pub returns-clause-works : goal.returns-clause-works
returns-clause-works g c = λ input.
    let store = c.in_ok-store.store in
    let over = c.in_ok-store.ensures.over in
    elim c.work_in_files-answer.ensures.works [
      | inl it ↦
          let ends = work_refused _ _ _ _ c.say_done.ensures.ends it.0 in
          inl (ap (streams input) ends.0, λ honest. refused_over store (image_at g.S.Start) c.work_in_files-answer.result c.say_done.result over ends.1 (it.1 honest))
      | inr it ↦ inr (λ honest.
          let (clean, v, answer, stands, answered, works) = it honest in
          (v, λ u books. same_world store (image_at g.S.Start) v u clean over books stands, record { answer = answer; works = works; ends = rw answered at (c.say_done.ensures.ends) }))
    ]

pub returns-clause-shut : goal.returns-clause-shut
returns-clause-shut g c = λ ok. c.work_in_files-answer.ensures.shut (ok_work c.work_in_files-answer.result.answer c.say_done.result _ _ c.say_done.ensures.ends ok)
