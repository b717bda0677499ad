use Rattle.mx_tables.proofs.Common.{take, fold, rewritten, going}
use Rattle.mx_tables.specs.Cached.{AreFit, WritesThrough}
use Rattle.mx_tables.proofs.edits.edit_each.Given as goal

-- the open transaction has the rows after the edits so far, and the cache agrees with them
abbrev pub invariant-loop-edit : goal.invariant-loop-edit
invariant-loop-edit g l =
    WritesThrough g.S.Store l.initial.tx l.tx l.initial.cache l.cache going (λ r. AreFit r l.edits) (λ r. fold rewritten r (take l.edit-index l.edits))
