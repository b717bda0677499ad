use Rattle.std.proofs.Common.{arith, refl, ◌∙◌}
use Rattle.mx_tasks.specs.Halls.{Always, hall}
use Rattle.mx_tasks.proofs.HallLemmas.{tends_none, tends_then}
use Rattle.mx_tasks.proofs.serve.reception.Reception.look_back.Goals as goal

pub told-init : goal.told-init
told-init g c = record { tends = tends_none g.S.Connection.received g.S.Connection.written (hall g.L.Listener.clients c.args.self.now); quiet = refl }

pub told-preserved : goal.told-preserved
told-preserved g c =
    let had = c.told.invariant in
    record {
      tends = tends_then g.S.Connection.received g.S.Connection.written Always 0 0 had.tends c.look_at.ensures.tends (λ xs was so. (tt, tt)) (omega arith);
      quiet = c.look_at.ensures.quiet ∙ had.quiet;
    }
