use Rattle.std.proofs.Common.{◌∙◌, sym}
use Rattle.std.proofs.lemmas.Bool.{false≢true}
use Rattle.std.proofs.lemmas.Slice.Eq.{bytes_eq-Decides}
use Rattle.sqlite_wal.specs.Format.{part}
use Rattle.mx_log.proofs.frames.is_frame.Goals as goal

pub returns-then-eq : goal.returns-then-eq
unfolding part
returns-then-eq c =
    let salt = (bytes_eq-Decides _ _).0 (sym c.eq.ensures ∙ c.if-eq.true) in (
      λ yes'. let both = c.goes_on.ensures.0 yes' in record { salt = salt; page = both.0; sum = both.1 },
      λ passes. c.goes_on.ensures.1 (passes.page, passes.sum),
    )

pub returns-else-eq : goal.returns-else-eq
unfolding part
returns-else-eq c = (
  λ yes'. absurd (false≢true (sym c.if-eq.false ∙ yes')),
  λ passes. absurd (false≢true (sym c.if-eq.false ∙ c.eq.ensures ∙ (bytes_eq-Decides _ _).1 passes.salt)),
)
