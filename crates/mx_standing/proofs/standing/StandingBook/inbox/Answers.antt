use Rattle.std.proofs.Props.{props}
use Rattle.mx_standing.proofs.ShownLemmas.{answers, kept_bides, left_bides, one_kept, message_set}
use Rattle.mx_standing.proofs.standing.StandingBook.inbox.Goals as goal

pub invariant_of-self : goal.invariant_of-self
invariant_of-self g c =
    let one = one_kept g.B.RowBook _ _ c.inbox.ensures.keeps c.args.self.now.one in
    record {
      one = one;
      kept = kept_bides g.B.RowBook g.met.B.RowBook.rest _ _ c.inbox.ensures.keeps.bides g.met.B.RowBook.waits one c.args.self.now.kept;
      left = left_bides g.B.RowBook _ _ c.inbox.ensures.keeps.bides c.args.self.now.left;
    }

pub returns : goal.returns
returns g c = answers g.B.RowBook _ _ _ _ _ _ _ _ _ (λ w x. hlevel (props, message_set)) c.inbox.ensures.keeps c.inbox.ensures.value c.inbox.ensures.fault c.inbox.ensures.cause
