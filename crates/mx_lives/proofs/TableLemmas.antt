-- Tables in memory.
use Rattle.std.proofs.Common.{◌≡◌, refl}
use Rattle.sqlite.specs.Held.{Held, state as state_of}
use Rattle.sqlite.specs.Steps.{over_memory}
use Rattle.sqlite_trees.specs.View.{doubt}
use Rattle.sqlite_trees.specs.declared.memory.MemStore.{MemStore}
use Rattle.mx_tables.specs.States.{worry}

-- a store in memory gives no doubt
pub no_worry : (t : Held MemStore) → worry (state_of over_memory t) ≡ 0
unfolding doubt
no_worry t = refl
