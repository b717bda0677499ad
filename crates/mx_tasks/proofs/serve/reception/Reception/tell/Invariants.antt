use Rattle.std.proofs.Common.{◌≡◌, List}
use Rattle.std.specs.Prelude.{All}
use Rattle.std.specs.Vec.Iter.{into_iter_items}
use Rattle.mx_desk.specs.Clients.{Exchange, exchanges}
use Rattle.mx_tasks.specs.Halls.{Have, Tends, hall}
use Rattle.mx_tasks.specs.Seats.{AreFresh, came_of, held_of}
use Rattle.mx_tasks.proofs.SeatLemmas.{IsToTell}
use Rattle.mx_tasks.proofs.serve.reception.Reception.tell.Given as goal

abbrev pub invariant-round : goal.invariant-round
invariant-round g l =
    let r = g.S.Connection.received in
    let w = g.S.Connection.written in
    let IsSo = λ (xs : List Exchange). AreFresh r w l.fn.round.items × Have (exchanges l.kept (came_of l.fn.round.items) (held_of l.fn.round.items)) xs in
    record {
      tends : Tends r w IsSo 0 0 (hall g.L.Listener.clients l.fn.self) (hall g.L.Listener.clients l.self);
      rest : (xs : List Exchange) → IsSo xs → All (IsToTell r w l.kept xs) (into_iter_items l.asked-iterator);
      quiet : l.self.alarm ≡ l.fn.self.alarm;
    }
