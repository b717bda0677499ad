use Rattle.mx_book.specs.World.{opening}
use Rattle.mx_files.proofs.closing.make_in_files.Goals as goal

pub returns-clause-made : goal.returns-clause-made
returns-clause-made g c = λ honest. c.close.ensures.closes.world honest (opening c.args.operator) c.in_ok-made.ensures.ours c.in_ok-made.ensures.made
