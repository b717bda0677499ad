use Rattle.mx_tables.proofs.Common.{take, going}
use Rattle.mx_tables.specs.States.{Writes}
use Rattle.mx_tables.proofs.LoadLemmas.{collects_so_far}
use Rattle.mx_tables.proofs.collecting.collect_all.Given as goal

-- the redemptions of the member's purses in the rows so far are collected
abbrev pub invariant-loop-row : goal.invariant-loop-row
invariant-loop-row g l = Writes g.S.Store l.initial.tx l.tx going (collects_so_far l.member (take l.row-index l.row-items))
