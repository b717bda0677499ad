use Rattle.std.proofs.Common.{refl}
use Rattle.std.proofs.lemmas.List.Elements.{All-nil, All-push}
use Rattle.mx_tasks.specs.Halls.{IsFree}
use Rattle.mx_tasks.proofs.serve.reception.Reception.new.Goals as goal

pub places-init : goal.places-init
places-init g c = rw c.in_ok-places.ensures.items (All-nil IsFree)

pub places-preserved : goal.places-preserved
places-preserved g c = rw c.in_ok-push.ensures.items (All-push IsFree c.places.places.items _ c.places.invariant refl)
