use Rattle.std.proofs.Common.{◌∙◌}
use Rattle.std.proofs.lemmas.Result.{err_from_is_err_and, on_ok_weaker}
use Rattle.mx_tasks.proofs.ServeLemmas.{clients_served, none_served}
use Rattle.mx_tasks.proofs.work.serve_port.Goals as goal

pub returns-in_err-reception-clause-serves : goal.returns-in_err-reception-clause-serves
returns-in_err-reception-clause-serves g c = λ w low was.
    let p = err_from_is_err_and c.from_residual.result c.from_residual.ensures.1 in
    rw p.1 (none_served p.0 was)

pub returns-in_err-desk-clause-serves : goal.returns-in_err-desk-clause-serves
returns-in_err-desk-clause-serves g c = λ w low was.
    let p = err_from_is_err_and c.from_residual-in_err-desk.result c.from_residual-in_err-desk.ensures.1 in
    rw p.1 (none_served p.0 was)

pub returns-clause-serves : goal.returns-clause-serves
returns-clause-serves g c = λ w low was.
    let new = c.in_ok-reception.ensures in
    let done = c.serve_connections.ensures in
    let led = done.serves w low (was, c.in_ok-desk.ensures w) in
    let count = new.count.0 ∙ c.from.ensures in
    record {
      end = led.end;
      rounds = led.rounds;
      holds = clients_served g.B.Book.fails _ _ w c.args.count c.serve_connections.result _ _ _ led.end new.free new.count.1 count (on_ok_weaker c.serve_connections.result (λ all. all.0 ∙ count) done.done) led.holds;
      moves = led.moves;
    }
