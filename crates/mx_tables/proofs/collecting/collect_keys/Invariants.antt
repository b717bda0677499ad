use Rattle.mx_tables.proofs.Common.{take, going}
use Rattle.mx_tables.specs.States.{Writes}
use Rattle.mx_tables.proofs.LoadLemmas.{collects_among}
use Rattle.mx_tables.proofs.collecting.collect_keys.Given as goal

-- the redemptions so far are collected
abbrev pub invariant-loop-key : goal.invariant-loop-key
invariant-loop-key g l = Writes g.S.Store l.initial.tx l.tx going (collects_among (take l.key-index l.keys))
