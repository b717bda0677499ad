-- What an audit tells of tables that were opened or migrated.
use Rattle.std.proofs.Common.{◌≡◌, false, sym, subst}
use Rattle.sqlite_trees.specs.declared.store.Store.{Ghosts}
use Rattle.sqlite.specs.Effect.{Database}
use Rattle.sqlite.specs.Held.{Held, state}
use Rattle.mx_tables.specs.Made.{HasVersion}
use Rattle.mx_tables.specs.Migration.{Migrates}
use Rattle.mx_tables.specs.States.{Stays, StaysIdle}
use Rattle.mx_tables.proofs.StateLemmas.{rests_at, rests_then}
use Rattle.mx_tables.specs.declared.migration.Migrated.{Migrated}
use Rattle.mx_tables.specs.declared.migration.Migrated.TheVariants.{Done, Already}

-- a migration brings version 2, or finds it
pub version_after : (made : Migrated) (old new : Database) → Migrates made old new → HasVersion 2 new
version_after Done old new m = m.1.whole.version
version_after Already old new m = rw m.1 (m.0.version)

-- a store that a book gave back rests behind a read as it did before
pub rested : {S : Type 0} (g : Ghosts S) (store book opened last : Held S) → opened ≡ book → StaysIdle (state g store) (state g book) → Stays false (state g opened) (state g last) → StaysIdle (state g store) (state g last)
rested g store book opened last is before read =
    rests_then (state g store) (state g opened) (state g last) (subst (λ h. StaysIdle (state g store) (state g h)) (sym is) before) (rests_at (state g opened) (state g last) read)
