use Rattle.std.proofs.Common.{inl, inr, ap, ◌∙◌}
use Rattle.std.proofs.lemmas.Bool.{false≢true}
use Rattle.std.proofs.lemmas.Result.{err_from_is_err_and}
use Rattle.mx_tasks.proofs.work.import.Goals as goal

pub returns-clause-imports : goal.returns-clause-imports
returns-clause-imports g c = λ still sure.
    elim (c.in_ok-lines.ensures.imports still sure) [
      | inl none ↦ absurd (false≢true none.1)
      | inr some ↦
          let done = some.3 in
          inr (some.0, some.1, some.2, (done.0, done.1, (c.said.ensures.0 ∙ ap (λ v. v.items) c.into_bytes.ensures.value ∙ done.2, c.said.ensures.1)))
    ]

-- the fault of the import, passed on
pub returns-in_err-lines-clause-imports : goal.returns-in_err-lines-clause-imports
returns-in_err-lines-clause-imports g c = λ still sure.
    let p = err_from_is_err_and c.from_residual.result c.from_residual.ensures.1 in
    rw (p.1, p.2) (c.in_err-lines.ensures.imports still sure)
