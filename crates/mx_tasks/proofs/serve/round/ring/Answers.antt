use Rattle.std.proofs.Common.{[], ◌∷◌, arith, inl, inr, refl}
use Rattle.mx_desk.proofs.ClientLemmas.{each_none, nobody_exchanged, settled_round}
use Rattle.mx_desk.proofs.MoveLemmas.{moves_not}
use Rattle.mx_desk.specs.Rounds.{marked_of}
use Rattle.mx_desk.specs.Serve.{world_after}
use Rattle.mx_tasks.proofs.serve.round.ring.Goals as goal

pub returns-then-not-has_failed-clause-serves : goal.returns-then-not-has_failed-clause-serves
returns-then-not-has_failed-clause-serves g c = λ w low kept. record { end = w; rounds = []; holds = (refl, refl); moves = (moves_not kept.0, kept.1) }

pub returns-then-eq-clause-serves : goal.returns-then-eq-clause-serves
returns-then-eq-clause-serves g c = λ w low kept.
    let b = g.B.Book in
    let done = c.settle.ensures in
    let r = settled_round b.fails (g.met.B.Book.lawful _) (g.met.B.Book.lawful _) _ _ _ w [] [] kept (each_none b.fails _ _) (omega arith) c.settle.result done.settles done.fault done.same done.anew low in
    record { end = world_after w (marked_of r.round); rounds = r.round ∷ []; holds = nobody_exchanged r.exchanged; moves = (r.moves, r.knows_now) }

pub returns-clause-serves : goal.returns-clause-serves
returns-clause-serves g c = λ w low kept.
    let b = g.B.Book in
    let done = c.settle.ensures in
    let r = settled_round b.fails (g.met.B.Book.lawful _) (g.met.B.Book.lawful _) _ _ _ w [] [] kept (each_none b.fails _ _) (omega arith) c.settle.result done.settles done.fault done.same done.anew low in
    record { end = world_after w (marked_of r.round); rounds = r.round ∷ []; holds = nobody_exchanged r.exchanged; moves = (r.moves, r.knows_now) }

pub returns-then-eq-clause-rings : goal.returns-then-eq-clause-rings
returns-then-eq-clause-rings g c = inr (c.args.alarm.now, inl refl, refl, c.say_shut.ensures.said)
