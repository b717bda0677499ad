use Rattle.std.proofs.Common.{subst, sym}
use Rattle.mx_book.specs.World.{opening}
use Rattle.mx_files.specs.InFiles.{AreHonest, HoldWorld}
use Rattle.mx_lives.proofs.LifeLemmas.{closed_hold}
use Rattle.mx_lives.proofs.files.new_files.Goals as goal

pub returns-clause-made : goal.returns-clause-made
returns-clause-made g c =
    closed_hold c.in-Ok-into_left.left c.into_closed.result (opening c.args.operator) c.into_closed.ensures
    (subst (λ left. AreHonest left → HoldWorld left (opening c.args.operator)) (sym c.in-Ok-into_left.ensures.left.0) c.in-Ok.ensures.made)
