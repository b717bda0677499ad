use Rattle.mx_book.specs.Edits.{Fits, all_edited}
use Rattle.mx_standing.proofs.ShownLemmas.{changes, fits_each, kept_bides, left_bides, one_changed}
use Rattle.mx_standing.proofs.standing.StandingBook.apply.Goals as goal

pub apply-requires : goal.apply-requires
apply-requires g c = fits_each g.B.RowBook (λ w. Fits w c.args.edits.now) c.args.self.now.book c.args.self.now.one c.requires

pub invariant_of-self : goal.invariant_of-self
invariant_of-self g c =
    let one = one_changed g.B.RowBook (λ w. all_edited w c.args.edits.now) _ _ c.apply.ensures.later g.met.B.RowBook.single c.apply.result c.apply.ensures.ok c.apply.ensures.err c.args.self.now.one in
    record {
      one = one;
      kept = kept_bides g.B.RowBook g.met.B.RowBook.rest _ _ c.apply.ensures.bides g.met.B.RowBook.waits one c.args.self.now.kept;
      left = left_bides g.B.RowBook _ _ c.apply.ensures.bides c.args.self.now.left;
    }

pub returns : goal.returns
returns g c = changes g.B.RowBook (λ w. all_edited w c.args.edits.now) _ _ c.apply.ensures.later _ _ _ _ _ _ c.apply.ensures.ok c.apply.ensures.err c.apply.ensures.bides c.apply.ensures.fault
