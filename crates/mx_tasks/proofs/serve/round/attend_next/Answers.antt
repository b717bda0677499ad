use Rattle.std.proofs.Common.{arith}
use Rattle.mx_desk.proofs.ClientLemmas.{each_none}
use Rattle.mx_tasks.specs.Halls.{Always}
use Rattle.mx_tasks.specs.declared.serve.seat.Asked.{Asked}
use Rattle.mx_tasks.proofs.GatherLemmas.{gathers_none, gathers_one}
use Rattle.mx_tasks.proofs.HallLemmas.{tends_none, tends_then}
use Rattle.mx_tasks.proofs.serve.round.attend_next.Goals as goal

pub returns-then-is_err-clause-gathers : goal.returns-then-is_err-clause-gathers
returns-then-is_err-clause-gathers g c =
    rw c.reserve.ensures.items (gathers_none g.B.Book.fails g.S.Connection.received g.S.Connection.written (each_none g.B.Book.fails _ _) (tends_none g.S.Connection.received g.S.Connection.written _))

pub returns-in_default-clause-gathers : goal.returns-in_default-clause-gathers
returns-in_default-clause-gathers g c =
    let next = c.next_visitor.ensures.tends in
    rw c.reserve.ensures.items (gathers_none g.B.Book.fails g.S.Connection.received g.S.Connection.written (each_none g.B.Book.fails _ _) (rw c.in_default.is at next))

pub returns-in-Waits-clause-gathers : goal.returns-in-Waits-clause-gathers
returns-in-Waits-clause-gathers g c =
    let r = g.S.Connection.received in
    let w = g.S.Connection.written in
    let next = c.next_visitor.ensures.tends in
    let next = rw c.in-Some.is at next in
    let fresh = c.next_visitor.ensures.fresh in
    let fresh = rw c.in-Some.is at fresh in
    let attended = c.attend.ensures.fresh in
    let attended = rw c.in-Waits.is at attended in
    rw c.reserve.ensures.items (gathers_none g.B.Book.fails r w c.in-Waits.ensures.holds (tends_then r w Always 0 0 next c.seat.ensures.tends (λ xs was so. (tt, attended (fresh xs was))) (omega arith)))

pub returns-in-Leaves-clause-gathers : goal.returns-in-Leaves-clause-gathers
returns-in-Leaves-clause-gathers g c =
    let r = g.S.Connection.received in
    let w = g.S.Connection.written in
    let next = c.next_visitor.ensures.tends in
    let next = rw c.in-Some.is at next in
    let fresh = c.next_visitor.ensures.fresh in
    let fresh = rw c.in-Some.is at fresh in
    let attended = c.attend.ensures.fresh in
    let attended = rw c.in-Leaves.is at attended in
    rw c.reserve.ensures.items (gathers_none g.B.Book.fails r w c.in-Leaves.ensures.holds (tends_then r w Always 0 0 next c.leave.ensures.tends (λ xs was so. (tt, attended (fresh xs was))) (omega arith)))

pub returns-in-Asks-clause-gathers : goal.returns-in-Asks-clause-gathers
returns-in-Asks-clause-gathers g c =
    let asked : Asked g.row.S.Denot = record { visitor = c.in-Asks.visitor; held = c.in-Asks.held; place = c.in-Some.place } in
    let items = c.in-Ok.ensures.items in
    let next = c.next_visitor.ensures.tends in
    let fresh = c.next_visitor.ensures.fresh in
    let fresh = rw c.in-Some.is at fresh in
    let attended = c.attend.ensures.fresh in
    let attended = rw c.in-Asks.is at attended in
    gathers_one g.B.Book.fails g.S.Connection.received g.S.Connection.written asked (rw c.reserve.ensures.items at items) c.in-Asks.ensures.holds (λ xs was. attended (fresh xs was)) (rw c.in-Some.is at next)
