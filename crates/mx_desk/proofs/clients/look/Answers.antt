use Rattle.std.proofs.Common.{[], ◌∷◌, subst}
use Rattle.std.proofs.lemmas.List.{append-nil}
use Rattle.mx_desk.specs.Clients.{framed, no_client}
use Rattle.mx_desk.specs.Found.{request_view}
use Rattle.mx_desk.specs.Requests.{First, Stops}
use Rattle.mx_desk.proofs.ClientLemmas.{each_none, each_unframed}
use Rattle.mx_desk.proofs.StepLemmas.{first_now}
use Rattle.mx_desk.proofs.clients.look.Goals as goal

pub returns-in-Open-clause-looks : goal.returns-in-Open-clause-looks
returns-in-Open-clause-looks g c = record { holds = each_none g.B.Book.fails _ _; waits = c.in-Open.ensures }

-- whatever follows
pub returns-in-Stopped-clause-looks : goal.returns-in-Stopped-clause-looks
returns-in-Stopped-clause-looks g c =
    let stop = c.in-Stopped.stop in
    record {
      holds = each_unframed g.B.Book.fails _ _ _ _ (stop, subst (λ b. First b (Stops stop)) (append-nil _) (c.in-Stopped.ensures []), c.unframed.ensures);
      waits = tt;
    }

pub returns-in-Whole-clause-looks : goal.returns-in-Whole-clause-looks
returns-in-Whole-clause-looks g c =
    let r = request_view c.in-Whole.request in
    record {
      holds = record { rs = r ∷ []; gs = c.draft-held.result.0 ∷ []; begin = framed (first_now c.args.came.now r _ c.in-Whole.ensures.1) no_client; holds = c.draft-held.ensures.holds };
      waits = tt;
    }
