use Rattle.std.proofs.Common.{arith, refl, ◌∙◌}
use Rattle.mx_desk.proofs.ClientLemmas.{each_none}
use Rattle.mx_tasks.proofs.GatherLemmas.{gathers_none, gathers_then, grown_from}
use Rattle.mx_tasks.proofs.HallLemmas.{tends_none}
use Rattle.mx_tasks.proofs.serve.round.gather.Goals as goal

pub looks-init : goal.looks-init
looks-init g c = record {
  gathers = rw c.requires (gathers_none g.B.Book.fails g.S.Connection.received g.S.Connection.written (each_none g.B.Book.fails _ _) (tends_none g.S.Connection.received g.S.Connection.written _));
  few = rw c.requires (omega arith);
  unmoved = λ none. (refl, refl);
  quiet = refl;
}

pub looks-preserved : goal.looks-preserved
looks-preserved g c =
    let had = c.looks.invariant in
    let one = c.attend_next-turn.ensures in
    record {
      gathers = gathers_then g.B.Book.fails g.S.Connection.received g.S.Connection.written _ _ _ _ _ _ _ _ _ _ _ _ had.gathers one.gathers;
      few = (let more = one.one in let less = c.if-len-ge-MOST_TOGETHER.false in let len = c.len.ensures in omega (arith, more, less, len));
      unmoved = λ none. let before = grown_from g.B.Book.fails g.S.Connection.received g.S.Connection.written one.gathers none in let moved = one.unmoved before.1 in let was = had.unmoved before.0 in (moved.0 ∙ was.0, moved.1 ∙ was.1);
      quiet = one.quiet ∙ had.quiet;
    }

pub returns-then-not-turn-clause-gathers : goal.returns-then-not-turn-clause-gathers
returns-then-not-turn-clause-gathers g c = gathers_then g.B.Book.fails g.S.Connection.received g.S.Connection.written _ _ _ _ _ _ _ _ _ _ _ _ c.looks.invariant.gathers c.attend_next-turn.ensures.gathers
