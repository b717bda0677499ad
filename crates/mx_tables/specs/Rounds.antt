-- A round over a connection: changes in one transaction, which is committed at the end of the round.
use Rattle.std.specs.Prelude.{◌≡◌, ℕ, ◌≤◌, ◌⊎◌, Bool, true, false, Result, OnOk, OnErr, IsTrue, IsSome}
use Rattle.sqlite_trees.specs.Tree.{Trees}
use Rattle.sqlite_trees.specs.View.{doubt}
use Rattle.sqlite_trees.specs.declared.store.Store.{Ghosts}
use Rattle.sqlite.specs.Held.{Held, state}
use Rattle.sqlite.specs.Effect.{Database}
use Rattle.sqlite.specs.State.{State, HasCleanDisk}
use Rattle.mx_book.specs.declared.contract.StoreFault.{StoreFault}
use Rattle.mx_tables.specs.Schema.{office_schema}
use Rattle.mx_tables.specs.States.{Leaves, unsure, worry}

-- between calls, in a round or in none
pub record IsKept (begun : Bool) (s : State) : Type 0 where
  pub idle : HasCleanDisk s → begun ≡ false → s.in_transaction ≡ false
  pub steady : HasCleanDisk s → IsTrue s.is_open → s.in_transaction ≡ false → s.now ≡ s.committed
  pub schema : HasCleanDisk s → IsTrue s.is_open → s.now.schema ≡ office_schema
  pub base : HasCleanDisk s → IsTrue s.is_open → s.committed.schema ≡ office_schema

-- no fault is forgotten, nothing is committed, and a stop leaves what it could leave before
pub record Abides (old new : State) : Type 0 where
  pub clean : doubt old.is_clean ≤ doubt new.is_clean
  pub opens : HasCleanDisk new → IsTrue new.is_open → IsTrue old.is_open
  pub committed : HasCleanDisk new → IsTrue new.is_open → new.committed ≡ old.committed
  pub stops : HasCleanDisk new → (db : Trees) → new.may_leave db → old.may_leave db

-- A round has begun after it, unless there is a fault. What is there is as it was, but where a fault undid a round.
pub record Begins (before : Bool) (old : State) (after : Bool) (new : State) (result : Result (Unit {0}) StoreFault) : Type 0 where
  pub clean : doubt old.is_clean ≤ doubt new.is_clean
  pub abides : IsKept before old → Abides old new
  pub kept : IsKept before old → IsKept after new
  pub same : IsKept before old → HasCleanDisk new → (after ≡ false) ⊎ IsTrue new.in_transaction → IsTrue new.is_open → new.now ≡ old.now
  pub ok : IsKept before old → HasCleanDisk new → OnOk result ((after ≡ true) × IsTrue new.in_transaction)
  pub later : before ≡ true → (after ≡ true) × (IsTrue new.in_transaction → IsTrue old.in_transaction)

-- A round ends: what it changed is committed, or there is what was committed before.
pub record Ends (begun : Bool) (old new : State) (result : Result (Unit {0}) StoreFault) : Type 0 where
  pub clean : doubt old.is_clean ≤ doubt new.is_clean
  pub opens : HasCleanDisk new → IsTrue new.is_open → IsTrue old.is_open
  pub ok : IsKept begun old → HasCleanDisk new → OnOk result ((unsure begun old ≡ 0) × IsTrue new.is_open × (new.in_transaction ≡ false) × (new.now ≡ old.now) × (new.committed ≡ old.now))
  pub err : IsKept begun old → HasCleanDisk new → OnErr result ((new.in_transaction ≡ false) × (IsTrue new.is_open → (new.now ≡ old.committed) × (new.committed ≡ old.committed)))
  pub stops : IsKept begun old → HasCleanDisk new → (db : Trees) → new.may_leave db → old.may_leave db ⊎ ((unsure begun old ≡ 0) × (db ≡ old.now.trees))

-- ---- changes in a savepoint of the round's transaction

-- A change in a transaction: it is made, or what was there is there, or the transaction is over and what was committed is there.
pub record ChangesIn (old new : State) (result : Result (Unit {0}) StoreFault) (done : Type 0) : Type 0 where
  pub clean : doubt old.is_clean ≤ doubt new.is_clean
  pub abides : HasCleanDisk new → IsTrue old.in_transaction → Abides old new
  pub ok : HasCleanDisk new → IsTrue old.in_transaction → OnOk result (IsTrue old.is_open × IsTrue new.is_open × IsTrue new.in_transaction × done)
  pub err : HasCleanDisk new → IsTrue old.in_transaction → OnErr result ((IsTrue new.in_transaction × (IsTrue new.is_open → new.now ≡ old.now))
      ⊎ ((new.in_transaction ≡ false) × (IsTrue new.is_open → new.now ≡ old.committed)))

-- ---- what a book over a connection is, in a round or in none

-- the connection, and whether a round has begun
abbrev pub Lent : Type 0 → Type 0
Lent S = Held S × Bool

module _ {S : Type 0} (g : Ghosts S) where
  abbrev pub rows_of : Lent S → Database
  rows_of t = (state g t.0).now

  abbrev pub base_of : Lent S → Database
  base_of t = (state g t.0).committed

  abbrev pub doubt_of : Lent S → ℕ
  doubt_of t = unsure t.1 (state g t.0)

  abbrev pub harm_of : Lent S → ℕ
  harm_of t = worry (state g t.0)

  -- how often the disk has failed or refused, and that steps are limited
  abbrev pub faults_of : Lent S → ℕ
  faults_of t = (state g t.0).faults

  abbrev pub IsLimited : Lent S → Type 0
  IsLimited t = IsSome (state g t.0).step_limit

  abbrev pub IsSettled : Lent S → Type 0
  IsSettled t = HasCleanDisk (state g t.0) → (t.1 ≡ false) × (IsTrue (state g t.0).is_open → rows_of t ≡ base_of t)

  -- what tables may find that are opened after a stop at this moment
  abbrev pub LeavesBase : Lent S → Database → Type 0
  LeavesBase t = Leaves (state g t.0)

-- A change in a round or in none, which begins one: it is made, or the rows are as they were, unless a fault undid the round.
pub record ChangesRound (before : Bool) (old : State) (after : Bool) (new : State) (result : Result (Unit {0}) StoreFault) (done : Type 0) : Type 0 where
  pub later : IsKept before old → unsure before old ≤ unsure after new
  pub abides : IsKept before old → Abides old new
  pub kept : IsKept before old → IsKept after new
  pub ok : IsKept before old → unsure after new ≡ 0 → OnOk result done
  pub err : IsKept before old → unsure after new ≡ 0 → OnErr result (new.now ≡ old.now)
