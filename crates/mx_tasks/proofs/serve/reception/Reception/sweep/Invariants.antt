use Rattle.std.proofs.Common.{◌≡◌, length}
use Rattle.std.specs.List.{AllWithin}
use Rattle.std.specs.Prelude.{IfSome, false}
use Rattle.mx_tasks.specs.Halls.{Always, Tends, hall}
use Rattle.mx_tasks.specs.Seats.{is_over}
use Rattle.mx_tasks.proofs.serve.reception.Reception.sweep.Given as goal

abbrev pub invariant-places : goal.invariant-places
invariant-places g l = record {
  tends : Tends g.S.Connection.received g.S.Connection.written Always 0 0 (hall g.L.Listener.clients l.fn.self) (hall g.L.Listener.clients l.self);
  in_time : AllWithin (λ place. IfSome place (λ seat. is_over l.now seat ≡ false)) l.self.places.items 0 l.place;
  long : length l.self.places.items ≡ length l.fn.self.places.items;
  quiet : l.self.alarm ≡ l.fn.self.alarm;
}
