use Rattle.mx_standing.proofs.ShownLemmas.{kept_ended, left_settled, one_settled, settles}
use Rattle.mx_standing.proofs.standing.StandingBook.settle.Goals as goal

pub invariant_of-self : goal.invariant_of-self
invariant_of-self g c = record {
  one = one_settled g.B.RowBook g.met.B.RowBook.rest _ _ c.settle.result c.settle.ensures.settles c.args.self.now.one c.args.self.now.kept;
  kept = kept_ended g.B.RowBook g.met.B.RowBook.rest _ _ c.settle.result c.settle.ensures.settles c.args.self.now.one c.args.self.now.kept;
  left = left_settled g.B.RowBook g.met.B.RowBook.rest _ _ c.settle.result c.settle.ensures.settles c.args.self.now.one c.args.self.now.left;
}

pub returns-clause-settles : goal.returns-clause-settles
returns-clause-settles g c = settles g.B.RowBook g.met.B.RowBook.rest _ _ _ _ _ _ _ c.settle.ensures.settles
