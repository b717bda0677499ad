use Rattle.std.proofs.Common.{sym, subst}
use Rattle.std.specs.Result.{is_ok}
use Rattle.mx_sorted.specs.Blocks.{AreSpare}
use Rattle.mx_sorted.proofs.BlockLemmas.{spare_if}
use Rattle.mx_sorted.proofs.blocks.give_back.Goals as goal

pub returns-clause-spare : goal.returns-clause-spare
returns-clause-spare g c = subst AreSpare (sym c.push.ensures.items) (spare_if (is_ok c.push.result) c.args.spare.now.items c.args.block c.requires.spare (record { none = c.requires.none; room = c.requires.room }))
