use Rattle.std.proofs.Common.{subst}
use Rattle.std.specs.Cmp.{first_so}
use Rattle.mx_files.specs.InFiles.{HasSumsIfNew, IsOpenedOver}
use Rattle.mx_files.proofs.database.open_at.Goals as goal

pub returns-in-Ok-clause-over : goal.returns-in-Ok-clause-over
returns-in-Ok-clause-over g c = subst (λ i. IsOpenedOver i c.in-Ok.store) c.in_ok-files.ensures.bytes c.in-Ok.ensures.over

pub returns-in-Ok-clause-sums : goal.returns-in-Ok-clause-sums
returns-in-Ok-clause-sums g c = λ asked. subst (λ i. HasSumsIfNew i c.in-Ok.store) c.in_ok-files.ensures.bytes (c.in-Ok.ensures.sums asked)

pub returns-in-Ok-clause-sound : goal.returns-in-Ok-clause-sound
returns-in-Ok-clause-sound g c = λ clean. c.in_ok-files.ensures.sound (first_so _ _ (c.in-Ok.ensures.honest clean))
