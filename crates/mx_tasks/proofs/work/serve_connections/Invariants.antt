use Rattle.std.proofs.Common.{◌≡◌, ◌≤◌}
use Rattle.mx_book.specs.Views.{IsHonest}
use Rattle.mx_book.specs.World.{World}
use Rattle.mx_desk.specs.Knows.{Knows, RestsKnown}
use Rattle.mx_desk.specs.Rounds.{Leads, Moves}
use Rattle.mx_tasks.specs.Connections.{ServesRound}
use Rattle.mx_tasks.specs.Halls.{hall}
use Rattle.mx_tasks.specs.Voices.{RingsOnce}
use Rattle.mx_tasks.proofs.work.serve_connections.Given as goal

abbrev pub invariant-rounds : goal.invariant-rounds
invariant-rounds g l =
    let old = g.B.Book.view l.fn.office.book in
    let now = g.B.Book.view l.office.book in
    record {
      still : old.IsSettled → now.IsSettled;
      later : old.IsSettled → old.doubt ≤ now.doubt;
      serves : (w : World) → IsHonest now → RestsKnown old l.fn.desk.workspace.callers w
          → Leads (ServesRound g.B.Book.fails g.S.Connection.received g.S.Connection.written w (hall g.L.Listener.clients l.fn.reception) (hall g.L.Listener.clients l.reception)) (λ rs v. Moves old now w rs v × Knows v l.desk.workspace.callers);
      count : l.reception.count ≡ l.fn.reception.count;
      rings : RingsOnce g.V.Voice.said l.fn.reception.alarm l.reception.alarm;
    }
