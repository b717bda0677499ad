use Rattle.std.proofs.Common.{◌∙◌}
use Rattle.mx_tasks.proofs.SeatLemmas.{known_more, rest_fits}
use Rattle.mx_tasks.proofs.serve.seat.write_rest.Goals as goal

pub writes-preserved : goal.writes-preserved
writes-preserved g c =
    let had = c.writes.invariant in
    record {
      sent = λ within. rest_fits c.args.text.now c.writes.sent c.in-Ok.count (had.sent within) c.in-Ok.ensures.bound;
      bytes = λ is. known_more (g.S.Connection.written c.writes.stream) _ c.args.text.now c.writes.sent c.in-Ok.count (had.bytes is) c.in-Ok.ensures.bytes;
      received = c.in-Ok.ensures.received ∙ had.received;
    }
