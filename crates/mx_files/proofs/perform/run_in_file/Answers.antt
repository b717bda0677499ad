use Rattle.std.proofs.Common.{ap, ap₂, inl, inr, ◌∙◌}
use Rattle.sqlite_wal.specs.Files.{image_at}
use Rattle.mx_files.specs.Performed.{streams}
use Rattle.mx_files.proofs.FileLemmas.{ok_run, refused_over, run_refused, same_world}
use Rattle.mx_files.proofs.perform.run_in_file.Goals as goal

pub returns-clause-runs : goal.returns-clause-runs
returns-clause-runs g c =
    let store = c.in_ok-store.store in
    let over = c.in_ok-store.ensures.over in
    elim c.run_in_files-answer.ensures.runs [
      | inl it ↦
          let ends = run_refused _ _ _ _ c.pass_on.ensures.ends it.1 in
          inl (
            ap₂ streams (ap (λ r. g.R.Read.remaining r.device) it.0.0) (ends.0 ∙ ap (λ w. g.W.Write.contents w.device) it.0.1),
            λ honest. refused_over store (image_at g.S.Start) c.run_in_files-answer.result c.pass_on.result over ends.1 (it.2 honest),
          )
      | inr it ↦ inr (λ honest.
          let (clean, v, run, stands, answered, fault, led) = it honest in (
            v,
            λ u books. same_world store (image_at g.S.Start) v u clean over books stands,
            record { end = led.end; rounds = led.rounds; holds = record { written = _; run = run; runs = led.holds; ends = rw answered at (c.pass_on.ensures.ends) }; moves = led.moves },
          ))
    ]

pub returns-clause-shut : goal.returns-clause-shut
returns-clause-shut g c = λ ok. c.run_in_files-answer.ensures.shut (ok_run c.run_in_files-answer.result.answer c.pass_on.result _ _ c.pass_on.ensures.ends ok)
