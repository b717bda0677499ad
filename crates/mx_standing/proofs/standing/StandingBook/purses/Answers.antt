use Rattle.std.proofs.Props.{props}
use Rattle.mx_standing.proofs.ShownLemmas.{answers, kept_bides, left_bides, one_kept}
use Rattle.mx_standing.proofs.standing.StandingBook.purses.Goals as goal

pub invariant_of-self : goal.invariant_of-self
invariant_of-self g c =
    let one = one_kept g.B.RowBook _ _ c.purses.ensures.keeps c.args.self.now.one in
    record {
      one = one;
      kept = kept_bides g.B.RowBook g.met.B.RowBook.rest _ _ c.purses.ensures.keeps.bides g.met.B.RowBook.waits one c.args.self.now.kept;
      left = left_bides g.B.RowBook _ _ c.purses.ensures.keeps.bides c.args.self.now.left;
    }

pub returns : goal.returns
returns g c = answers g.B.RowBook _ _ _ _ _ _ _ _ _ (λ w x. hlevel props) c.purses.ensures.keeps c.purses.ensures.value c.purses.ensures.fault c.purses.ensures.cause
