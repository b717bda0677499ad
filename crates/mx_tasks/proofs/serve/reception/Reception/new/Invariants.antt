use Rattle.std.specs.Prelude.{All}
use Rattle.mx_tasks.specs.Halls.{IsFree}
use Rattle.mx_tasks.proofs.serve.reception.Reception.new.Given as goal

abbrev pub invariant-places : goal.invariant-places
invariant-places g l = All IsFree l.places.items
