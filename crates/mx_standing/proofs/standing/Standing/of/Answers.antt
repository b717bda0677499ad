use Rattle.mx_standing.proofs.ShownLemmas.{kept_settled, left_first, one_first}
use Rattle.mx_standing.proofs.standing.Standing.of.Goals as goal

pub invariant_of-result : goal.invariant_of-result
invariant_of-result g c =
    let one = one_first g.B.RowBook g.met.B.RowBook.single c.args.book c.requires.spelled in
    let kept = kept_settled g.B.RowBook g.met.B.RowBook.rest c.args.book c.requires.still one in
    record {
      one = one;
      kept = kept;
      left = left_first g.B.RowBook g.met.B.RowBook.steady c.args.book c.requires.awake kept;
    }
