use Rattle.std.proofs.Common.{inl, inr}
use Rattle.sqlite_store.specs.Laws.{settled_at}
use Rattle.sqlite.specs.Files.{file_state}
use Rattle.mx_files.proofs.FileLemmas.{clean_before, refused_held, wrong_closed}
use Rattle.mx_files.proofs.closing.check_in_files.Goals as goal

pub returns-clause-checks : goal.returns-clause-checks
returns-clause-checks g c = λ honest.
    let closes = c.close.ensures.closes in (
      clean_before (file_state c.args.store) (file_state c.check_in_store-answer.result.1) c.check_in_store-answer.ensures.later (closes.honest honest),
      elim c.check_in_store-answer.ensures.stays [
        | inl it ↦ inl (
          rw c.close.ensures.answer (wrong_closed c.close.result.left c.check_in_store-answer.result.0 it.0),
          refused_held c.args.store c.check_in_store-answer.result.1 c.close.result.left (settled_at c.args.store.store g.met.D.Disk.seen_may_stay) it.1 closes honest,
        )
        | inr it ↦ inr (λ shut.
            let kept = it (closes.sound honest shut) in
            (kept.0, kept.1, closes.world honest kept.0 kept.2 (λ _. kept.3)))
      ],
    )
