use Rattle.mx_tables.proofs.Common.{take, going}
use Rattle.mx_tables.specs.Cached.{ReadsThrough, due_of}
use Rattle.mx_tables.specs.declared.cache.Cache.{Cache}
use Rattle.mx_tables.proofs.CollectLemmas.{Tells}
use Rattle.mx_tables.proofs.due.index_keys.Given as goal

-- the index tells the keys so far
abbrev pub invariant-loop-key : goal.invariant-loop-key
invariant-loop-key g l = (k : Cache) → ReadsThrough g.S.Store l.initial.conn l.conn k k going (λ r w _. Tells r (take l.key-index l.keys) (due_of l.due))
