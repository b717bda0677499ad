-- What the tables keep true of their connection, and what a call does to it.
use Rattle.std.specs.Prelude.{◌≡◌, ℕ, ◌+◌, ◌≤◌, ◌⊎◌, ◌&&◌, ◌||◌, not, take, Bool, false, if◌then◌else◌, List, [], length, Result, Ok, Err, None, IfOk, IfErr, OnOk, OnErr, IsTrue, IsSome}
use Rattle.sqlite_trees.specs.Tree.{Trees}
use Rattle.sqlite_trees.specs.View.{doubt}
use Rattle.sqlite_schema.specs.declared.schema.Schema.{Schema}
use Rattle.sqlite_syntax.specs.declared.statement.Parsed.{Parsed}
use Rattle.sqlite_resolve.specs.declared.error.CompileError.{CompileError}
use Rattle.sqlite_resolve.specs.Compile.{first, returning}
use Rattle.sqlite_trees.specs.declared.error.StoreError.TheVariants.{Io}
use Rattle.sqlite.specs.Effect.{Database, RefusesToRead}
use Rattle.sqlite.specs.Given.{IsPlain}
use Rattle.sqlite.specs.Listing.{understood, reads_listing}
use Rattle.sqlite.specs.declared.error.Error.{Error}
use Rattle.sqlite.specs.declared.error.Error.TheVariants.{SqliteFailure}
use Rattle.sqlite.specs.declared.error.ErrorCode.TheVariants as code
use Rattle.sqlite_schema.specs.declared.command.Command.{Command}
use Rattle.sqlite_resolve.specs.declared.compiled.Compiled.{Compiled}
use Rattle.mx_book.specs.declared.contract.StoreFault.TheVariants.{Memory, Store}
use Rattle.sqlite_value.specs.Order.{Row}
use Rattle.sqlite_trees.specs.declared.store.Store.{Ghosts}
use Rattle.sqlite.specs.declared.savepoint.Savepoint.{Savepoint}
use Rattle.sqlite.specs.Held.{Held, state}
use Rattle.sqlite.specs.State.{State, HasCleanDisk, HasCause, KeepsCommit, Executes, Shown}
use Rattle.mx_tables.specs.Schema.{office_schema}
use Rattle.mx_book.specs.Rows.{Rows}
use Rattle.mx_book.specs.declared.contract.StoreFault.{StoreFault}
use Rattle.mx_book.specs.World.{World}
use Rattle.mx_book.specs.Spells as book
use Rattle.mx_tables.specs.Holds.{Holds, SpellsOne}

-- 0 while the disk has returned what was written and the connection is open, 1 once a fault has shut it, 2 once the disk has lied
abbrev pub worry_at : Bool → Bool → ℕ
worry_at live clean = if clean then (if live then 0 else 1) else 2

abbrev pub worry : State → ℕ
worry s = worry_at s.is_open s.is_clean

-- a store is in one of three states: sound; or shut by a fault; or it has lied
abbrev pub IsSound : State → Type 0
IsSound s = worry s ≡ 0

-- it hasn't lied
abbrev pub IsHonest : State → Type 0
IsHonest s = worry s ≤ 1

-- a disk that told no lie has an open connection
abbrev pub IsAwake : State → Type 0
IsAwake s = IsHonest s → IsSound s

-- 0 where the rows are those that the changes made: the connection is open, its disk told no lie, and a round that has begun is
-- in its transaction still, which a fault ends
abbrev pub unsure : Bool → State → ℕ
unsure begun s = worry_at (s.is_open && (not begun || s.in_transaction)) s.is_clean

-- between calls, in a round that has begun or in none: outside a round no transaction is open, where none is open all is committed,
-- and the schema is this one, as the connection has it and as it was committed
pub record IsAt (begun : Bool) (of : Schema) (s : State) : Type 0 where
  pub idle : HasCleanDisk s → begun ≡ false → s.in_transaction ≡ false
  pub steady : IsSound s → s.in_transaction ≡ false → s.committed ≡ s.now
  pub schema : IsSound s → s.now.schema ≡ of
  pub base : IsSound s → s.committed.schema ≡ of

-- and it is that of the office
abbrev pub IsOurs : Bool → State → Type 0
IsOurs begun = IsAt begun office_schema

-- between calls, whatever the schema is: the connection is as it was but for a fault, and so is what a stop leaves
pub record StaysIdle (old new : State) : Type 0 where
  pub autocommit : old.in_transaction ≡ false → new.in_transaction ≡ false
  pub later : worry old ≤ worry new
  pub same : IsSound new → new.now ≡ old.now
  pub stops : IsHonest new → (db : Trees) → new.may_leave db → old.may_leave db

-- what may be found in this schema after a stop at this moment
pub record LeavesAt (of : Schema) (s : State) (db : Database) : Type 0 where
  pub base : IsSound s → s.committed.schema ≡ of
  pub schema : db.schema ≡ of
  pub trees : s.may_leave db.trees

-- what tables may find that are opened then
abbrev pub Leaves : State → Database → Type 0
Leaves = LeavesAt office_schema

-- A read, in a round or in none: doubt doesn't fall, and without any in the end the database is as it was. While the disk didn't lie,
-- a stop leaves what it could leave before. Faults are counted.
pub record StaysAt (begun : Bool) (of : Schema) (old new : State) : Type 0 where
  pub ours : IsAt begun of new
  pub lasts : worry old ≤ worry new
  pub later : unsure begun old ≤ unsure begun new
  pub mode : old.in_transaction ≡ false → new.in_transaction ≡ false
  pub same : unsure begun new ≡ 0 → new.now ≡ old.now
  pub base : IsSound new → new.committed ≡ old.committed
  pub stops : IsHonest new → (db : Trees) → new.may_leave db → old.may_leave db
  pub counts : old.faults ≤ new.faults
  pub limit : new.step_limit ≡ old.step_limit

-- a read of the tables
abbrev pub Stays : Bool → State → State → Type 0
Stays begun = StaysAt begun office_schema

-- the transaction was rolled back, and no savepoint is left
pub record IsUndone (old new : State) : Type 0 where
  pub was_open : IsTrue new.is_open → IsTrue old.is_open
  pub undone : IsTrue new.is_open → (new.now ≡ old.committed) × (new.committed ≡ old.committed)
  pub autocommit : new.in_transaction ≡ false
  pub unmarked : new.marks ≡ []

-- the oldest savepoints, so many, are the same, or the transaction was rolled back
abbrev pub KeepsMarks : ℕ → State → State → Type 0
KeepsMarks held old new = (held ≤ length old.marks → take held new.marks ≡ take held old.marks) ⊎ IsUndone old new

-- A step inside a savepoint: no fault is forgotten, nothing is committed, the transaction goes on, and so do the oldest
-- savepoints; a stop leaves what it could leave before.
pub record Within {T E : Type 0} (held : ℕ) (old new : State) (result : Result T E) : Type 0 where
  pub clean : doubt old.is_clean ≤ doubt new.is_clean
  pub kept : HasCleanDisk new → IsTrue old.in_transaction → KeepsCommit old new
  pub inside : HasCleanDisk new → IsTrue old.in_transaction → OnOk result (IsTrue new.in_transaction)
  pub marks : HasCleanDisk new → IsTrue old.in_transaction → KeepsMarks held old new
  pub stops : HasCleanDisk new → (db : Trees) → new.may_leave db → old.may_leave db

-- the result of the steps so far
abbrev pub going : Result (Unit {0}) StoreFault
going = Ok tt

-- the text is one query or change of rows of the office
abbrev pub IsText : List ℕ → Type 0
IsText sql = IsPlain (understood office_schema sql)

abbrev pub ShowsNothing : Result Parsed CompileError → Type 0
ShowsNothing (Ok p) = (schema : Schema) (base : ℕ) → returning schema base p.statement ≡ Ok None
ShowsNothing (Err e) = Unit {0}

-- the text changes nothing that it shows, whatever the schema is
abbrev pub IsSilent : List ℕ → Type 0
IsSilent sql = ShowsNothing (first sql)

-- the schema is that of the office, and the rows of a book become those of the change
pub record Brings (change : Rows → Rows) (old new : State) : Type 0 where
  pub schema : new.now.schema ≡ office_schema
  pub rows : (r : Rows) → Holds old.now r → Holds new.now (change r)

-- the rows are as they were, and this is so of them
pub record Sees (old new : State) (is : Rows → Type 0) : Type 0 where
  pub same : new.now ≡ old.now
  pub value : (r : Rows) → Holds old.now r → is r

-- ---- why a read fails

-- how a fault of a statement is told
abbrev pub fault_told : Error → StoreFault
fault_told (SqliteFailure code.OutOfMemory) = Memory
fault_told _ = Store

-- without a limit on steps the database refuses no such query with these parameters
abbrev pub AcceptsCommand : Row → Trees → Command → Type 0
AcceptsCommand params db command = (e : Error) → ¬ (RefusesToRead None command (record { schema = office_schema; trees = db }) params e)

abbrev pub AcceptsText : List ℕ → Row → Trees → Result Compiled CompileError → Type 0
AcceptsText sql params db (Ok c) = (length sql ≤ c.tail) × (length params ≡ length c.names) × AcceptsCommand params db c.command
AcceptsText sql params db (Err e) = ⊥

-- the text is one query of the office that the database doesn't refuse with these parameters
pub record Accepts (sql : List ℕ) (params : Row) (db : Trees) : Type 0 where
  pub accepts : AcceptsText sql params db (understood office_schema sql)
  pub unlisted : reads_listing office_schema sql ≡ false

-- the text is such a query, and shows one row at most
pub record HasOneAtMost (sql : List ℕ) (params : Row) (old new : State) : Type 0 where
  pub accepts : Accepts sql params old.now.trees
  pub few : (rows : List Row) → Shown sql params old new rows → length rows ≤ 1

-- the disk failed or refused in this call, and that was counted
abbrev pub IsFaulted : State → State → Type 0
IsFaulted old new = HasCause old new ⊥ Io

abbrev pub IsForMemory : StoreFault → Type 0
IsForMemory f = f ≡ Memory

-- A fault that isn't want of memory: the disk failed or refused in this call, or the connection has a limit on steps.
abbrev pub Blames : State → State → StoreFault → Type 0
Blames old new Memory = Unit {0}
Blames old new Store = IsFaulted old new ⊎ IsSome old.step_limit

-- in a round or in none, what is sure in the end fails only for this cause, of rows of which this is known
abbrev pub IsExplained : {S T : Type 0} → Ghosts S → Held S → Held S → Result T StoreFault → (Rows → Type 0) → Type 0
IsExplained g old new result known =
    (begun : Bool) → IsOurs begun (state g old) → unsure begun (state g new) ≡ 0 → (r : Rows) → Holds (state g old).now r → known r → IfErr result (Blames (state g old) (state g new))

-- the rows spell a World
abbrev pub SpellAny : Rows → Type 0
SpellAny r = (w : World) × book.Spells r w

-- ---- what one call is

-- A read: the connection is as it was but for a fault, without doubt what is given is so of the rows, and a connection that a
-- fault has shut gives nothing.
pub record Reads {S T : Type 0} (g : Ghosts S) (old new : Held S) (result : Result T StoreFault) (is : Rows → T → Type 0) : Type 0 where
  pub stays : {begun : Bool} → IsOurs begun (state g old) → Stays begun (state g old) (state g new)
  pub value : {begun : Bool} → IsOurs begun (state g old) → unsure begun (state g new) ≡ 0 → (r : Rows) → Holds (state g old).now r → IfOk result (is r)
  pub live : OnOk result (IsAwake (state g new))

-- A read that fails only for a cause, of rows of which this is known
pub record AsksOf {S T : Type 0} (g : Ghosts S) (old new : Held S) (known : Rows → Type 0) (result : Result T StoreFault) (is : Rows → T → Type 0) : Type 0 where
  pub reads : Reads g old new result is
  pub cause : IsExplained g old new result known

-- and of rows that spell a World
abbrev pub Asks : {S T : Type 0} → Ghosts S → Held S → Held S → Result T StoreFault → (Rows → T → Type 0) → Type 0
Asks g old new result is = AsksOf g old new SpellAny result is

-- A read of the World: the same, where what is given is so of the World that the rows spell.
pub record Tells {S T : Type 0} (g : Ghosts S) (old new : Held S) (result : Result T StoreFault) (is : World → T → Type 0) : Type 0 where
  pub stays : {begun : Bool} → IsOurs begun (state g old) → Stays begun (state g old) (state g new)
  pub value : {begun : Bool} → IsOurs begun (state g old) → (w : World) → unsure begun (state g new) ≡ 0 → SpellsOne (state g old).now w → IfOk result (is w)
  pub live : OnOk result (IsAwake (state g new))
  pub cause : IsExplained g old new result SpellAny

-- A step inside a savepoint: the same one is lent, and where it answers Ok this is so of what it gives.
pub record Steps {S T E : Type 0} (g : Ghosts S) (old new : Savepoint S g) (result : Result T E) (does : T → Type 0) : Type 0 where
  pub same_reference : new.conn.ghost_name ≡ old.conn.ghost_name
  pub place : new.at ≡ old.at
  pub within : Within (old.at + 1) (state g old.conn.now) (state g new.conn.now) result
  pub ok : HasCleanDisk (state g new.conn.now) → IsTrue old.conn.now.in_transaction → IfOk result does

-- a step that makes this change of the rows
abbrev pub Writes : {S T : Type 0} → (g : Ghosts S) → Savepoint S g → Savepoint S g → Result T StoreFault → (Rows → Rows) → Type 0
Writes g old new result change =
    Steps g old new result (λ _. (state g old.conn.now).now.schema ≡ office_schema → Brings change (state g old.conn.now) (state g new.conn.now))

-- a step that leaves the rows, and gives what is so of them
abbrev pub Finds : {S T : Type 0} → (g : Ghosts S) → Savepoint S g → Savepoint S g → Result T StoreFault → (Rows → T → Type 0) → Type 0
Finds g old new result is =
    Steps g old new result (λ v. (state g old.conn.now).now.schema ≡ office_schema → Sees (state g old.conn.now) (state g new.conn.now) (λ r. is r v))

-- a step that runs a statement, which changes so many rows
abbrev pub Runs : {S T : Type 0} → (g : Ghosts S) → List ℕ → Row → Savepoint S g → Savepoint S g → Result T StoreFault → (ℕ → Type 0) → Type 0
Runs g sql params old new result counts =
    Steps g old new result (λ _. (count : ℕ) × counts count × Executes sql params (state g old.conn.now) (state g new.conn.now) (Ok count))

-- the text is one query of the rows of the office, and changes nothing
pub record IsQuery (sql : List ℕ) : Type 0 where
  pub plain : IsText sql
  pub silent : IsSilent sql

-- A transaction as a whole: where it answers Ok this is done and committed, and else nothing is.
pub record Commits {T E : Type 0} (old new : State) (result : Result T E) (done : Type 0) : Type 0 where
  pub all : HasCleanDisk new → OnOk result (done × (new.committed ≡ new.now))
  pub none : HasCleanDisk new → OnErr result (IsTrue new.is_open → (new.now ≡ old.committed) × (new.committed ≡ old.committed))
  pub ended : HasCleanDisk new → new.in_transaction ≡ false
  pub opens : HasCleanDisk new → IsTrue new.is_open → IsTrue old.is_open
  pub clean : doubt old.is_clean ≤ doubt new.is_clean
