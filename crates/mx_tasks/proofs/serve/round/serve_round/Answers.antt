use Rattle.std.proofs.Common.{◌≡◌, [], arith, length, sym, ◌∙◌}
use Rattle.std.proofs.lemmas.Bool.{eqb-true}
use Rattle.mx_desk.proofs.MoveLemmas.{moves_not}
use Rattle.mx_tasks.proofs.GatherLemmas.{held_none}
use Rattle.mx_tasks.proofs.ServeLemmas.{later_still, nobody_served, rings_as, round_served}
use Rattle.mx_tasks.proofs.serve.round.serve_round.Goals as goal

-- nobody asked
pub returns-then-is_empty-clause-serves : goal.returns-then-is_empty-clause-serves
returns-then-is_empty-clause-serves g c = λ w low kept.
    let none : length c.gather-fault.new.round.items ≡ 0 = (let len = c.is_empty.ensures in let empty = eqb-true _ 0 (sym len ∙ c.if-is_empty.true) in omega (arith, empty)) in
    let same = c.gather-fault.ensures.unmoved none in
    record {
      end = w;
      rounds = [];
      holds = nobody_served g.B.Book.fails g.S.Connection.received g.S.Connection.written (held_none g.B.Book.fails g.S.Connection.received g.S.Connection.written c.gather-fault.ensures.gathers none);
      moves = rw (same.0, same.1) (moves_not kept.0, kept.1);
    }

pub returns-then-is_empty-clause-later : goal.returns-then-is_empty-clause-later
returns-then-is_empty-clause-later g c = λ still. let same = c.gather-fault.ensures.unmoved ((let len = c.is_empty.ensures in let empty = eqb-true _ 0 (sym len ∙ c.if-is_empty.true) in omega (arith, empty))) in rw same.0 (omega arith)

pub returns-then-is_empty-clause-still : goal.returns-then-is_empty-clause-still
returns-then-is_empty-clause-still g c = λ still. let same = c.gather-fault.ensures.unmoved ((let len = c.is_empty.ensures in let empty = eqb-true _ 0 (sym len ∙ c.if-is_empty.true) in omega (arith, empty))) in rw same.0 still

pub returns-clause-serves : goal.returns-clause-serves
returns-clause-serves g c = λ w low kept.
    let b = g.B.Book in
    let done = c.settle-settled.ensures in
    round_served b.fails g.S.Connection.received g.S.Connection.written (g.met.B.Book.lawful _) (g.met.B.Book.lawful _) (g.met.B.Book.lawful _) _ _ w c.is_ok.result kept c.gather-fault.ensures.gathers c.gather-fault.ensures.few
    c.settle-settled.result c.is_ok.ensures.value done.settles done.fault done.same done.anew c.tell.ensures.tends c.ring.ensures.lasts c.ring.ensures.serves low

pub returns-clause-later : goal.returns-clause-later
returns-clause-later g c = λ still. later_still g.B.Book.fails g.S.Connection.received g.S.Connection.written (g.met.B.Book.lawful _) (g.met.B.Book.lawful _) c.gather-fault.ensures.gathers c.settle-settled.ensures.settles c.ring.ensures.lasts still

pub returns-clause-rings : goal.returns-clause-rings
returns-clause-rings g c =
    rings_as g.V.Voice.said _ _ _ _ _ (c.tell.ensures.quiet ∙ c.gather-fault.ensures.quiet) (λ so. so) c.ring.ensures.rings

pub returns-then-is_empty-clause-count : goal.returns-then-is_empty-clause-count
returns-then-is_empty-clause-count g c = c.gather-fault.ensures.gathers.tends.count

pub returns-clause-count : goal.returns-clause-count
returns-clause-count g c = c.tell.ensures.tends.count ∙ c.gather-fault.ensures.gathers.tends.count
