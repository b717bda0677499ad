use Rattle.std.proofs.Common.{None, refl, rules, ◌∙◌}
use Rattle.std.proofs.lemmas.List.{get_or_read_under}
use Rattle.mx_tasks.specs.Halls.{hall}
use Rattle.mx_tasks.proofs.HallLemmas.{puts, seated_ends, tends_as}
use Rattle.mx_tasks.proofs.serve.reception.Reception.put.Goals as goal

pub returns-then-is_none-clause-tends : goal.returns-then-is_none-clause-tends
returns-then-is_none-clause-tends g c =
    puts g.S.Connection.received g.S.Connection.written c.args.place c.args.seat (hall g.L.Listener.clients c.args.self.now) _ (search rules) (search rules) refl refl refl refl

pub returns-then-is_none-clause-others : goal.returns-then-is_none-clause-others
returns-then-is_none-clause-others g c = λ other taken.
    let read = get_or_read_under c.args.self.now.places.items c.args.place _ c.index.result.now None c.index.ensures (search rules) refl in
    let none = c.if-is_none.ensures in
    absurd (let some = read ∙ taken in let none = rw some at none in cc)

pub returns-else-place-len-clause-tends : goal.returns-else-place-len-clause-tends
returns-else-place-len-clause-tends g c =
    tends_as g.S.Connection.received g.S.Connection.written _ (λ xs was so. seated_ends g.S.Connection.received g.S.Connection.written xs c.args.seat so) c.close.ensures.tends
