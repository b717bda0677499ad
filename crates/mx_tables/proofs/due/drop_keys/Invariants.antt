use Rattle.mx_tables.proofs.Common.{take}
use Rattle.mx_tables.specs.Cached.{due_of}
use Rattle.mx_tables.proofs.CollectLemmas.{IsWithout}
use Rattle.mx_tables.proofs.due.drop_keys.Given as goal

-- the redemptions so far are taken out
abbrev pub invariant-loop-key : goal.invariant-loop-key
invariant-loop-key l = IsWithout (due_of l.initial.due) (due_of l.due) l.member (take l.key-index l.keys)
