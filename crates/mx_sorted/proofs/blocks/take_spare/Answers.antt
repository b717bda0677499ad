use Rattle.std.proofs.Common.{[], ◌∷◌, length, ◌∙◌, ap, subst}
use Rattle.mx_sorted.specs.Blocks.{AreSpare, IsSpare}
use Rattle.mx_sorted.proofs.PartLemmas.{all_left, all_right}
use Rattle.mx_sorted.proofs.blocks.take_spare.Goals as goal

pub returns-clause-none : goal.returns-clause-none
returns-clause-none g c = (all_right IsSpare c.pop.new.self.items (c.in-Some.block ∷ []) (subst AreSpare c.in-Some.ensures.items c.requires.spare)).0.none

pub returns-clause-empty : goal.returns-clause-empty
returns-clause-empty g c = c.in-Some.block.ok.0 ∙ ap length (all_right IsSpare c.pop.new.self.items (c.in-Some.block ∷ []) (subst AreSpare c.in-Some.ensures.items c.requires.spare)).0.none

pub returns-clause-room : goal.returns-clause-room
returns-clause-room g c = (all_right IsSpare c.pop.new.self.items (c.in-Some.block ∷ []) (subst AreSpare c.in-Some.ensures.items c.requires.spare)).0.room

pub returns-clause-spare : goal.returns-clause-spare
returns-clause-spare g c = all_left IsSpare c.pop.new.self.items (c.in-Some.block ∷ []) (subst AreSpare c.in-Some.ensures.items c.requires.spare)
