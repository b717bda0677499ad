use Rattle.std.proofs.Common.{List, arith, refl, subst, ◌∙◌}
use Rattle.std.proofs.lemmas.List.Elements.{All-head, All-tail}
use Rattle.std.specs.Prelude.{All}
use Rattle.mx_desk.specs.Clients.{Exchange, exchanges}
use Rattle.mx_tasks.specs.Halls.{Have, hall}
use Rattle.mx_tasks.specs.Seats.{AreFresh, came_of, held_of}
use Rattle.mx_tasks.proofs.HallLemmas.{tends_as, tends_none, tends_then}
use Rattle.mx_tasks.proofs.SeatLemmas.{IsToTell, all_to_tell, to_tell}
use Rattle.mx_tasks.proofs.serve.reception.Reception.tell.Goals as goal

pub round-init : goal.round-init
round-init g c =
    let r = g.S.Connection.received in
    let w = g.S.Connection.written in
    record {
      tends = tends_as r w _ (λ xs was so. tt) (tends_none r w (hall g.L.Listener.clients c.args.self.now));
      rest = λ xs so. rw c.into_iter-asked-iterator.ensures.into_iter_gives.0 (all_to_tell r w c.args.kept xs c.args.round.items so.0 so.1);
      quiet = refl;
    }

pub round-preserved : goal.round-preserved
round-preserved g c =
    let r = g.S.Connection.received in
    let w = g.S.Connection.written in
    let had = c.round.invariant in
    let a = c.in-Some.asked in
    let IsSo = λ (xs : List Exchange). AreFresh r w c.args.round.items × Have (exchanges c.args.kept (came_of c.args.round.items) (held_of c.args.round.items)) xs in
    let rest = λ (xs : List Exchange). λ (so : IsSo xs). subst (All (IsToTell r w c.args.kept xs)) c.in-Some.ensures.steps.0 (had.rest xs so) in
    record {
      tends = tends_then r w IsSo 0 0 had.tends c.tell_one.ensures.tends (λ xs was so. (so, to_tell r w c.args.kept xs a c.new.result c.new.ensures.stream c.new.ensures.answer c.new.ensures.untold.0 (All-head (IsToTell r w c.args.kept xs) a _ (rest xs so)))) (omega arith);
      rest = λ xs so. All-tail (IsToTell r w c.args.kept xs) a _ (rest xs so);
      quiet = c.tell_one.ensures.quiet ∙ had.quiet;
    }
