-- What the bytes of two files hold, those of a database and of its log, and what a close leaves of them.
use Rattle.std.specs.Prelude.{◌≡◌, ◌⊎◌, List, [], false, true, Result, Ok, Err, ⊤}
use Rattle.sqlite_disk.specs.declared.Disk.{Ghosts}
use Rattle.sqlite_disk.specs.declared.Files.{Files}
use Rattle.sqlite_store.specs.FileStore.{faults, is_shielded, recovers, view}
use Rattle.sqlite_store.specs.declared.store.FileStore.{FileStore}
use Rattle.sqlite_wal.specs.Files.{outcomes}
use Rattle.sqlite_wal.specs.Reads.{AreClean}
use Rattle.sqlite_wal.specs.Recovery.{Image}
use Rattle.sqlite_trees.specs.Tree.{Trees}
use Rattle.sqlite_trees.specs.View.{IsClean, IsQuiet}
use Rattle.sqlite.specs.Closing.{HoldsAlone, IsCopied}
use Rattle.sqlite.specs.Effect.{Database, IsDatabase}
use Rattle.sqlite.specs.Files.{HoldsDatabase, IsBlankAs, IsOpened, file_state, image_of}
use Rattle.sqlite.specs.Held.{Held}
use Rattle.sqlite.specs.Start.{FindsIn}
use Rattle.sqlite.specs.State.{HasCleanDisk, Opens}
use Rattle.mx_book.specs.World.{Token, World, opening}
use Rattle.mx_desk.specs.Durable.{Lasts}
use Rattle.mx_desk.specs.Rounds.{Round}
use Rattle.mx_tables.specs.Made.{IsUnknown}
use Rattle.mx_tables.specs.Schema.{office_schema, schema_of}
use Rattle.mx_tables.specs.States.{IsOurs, IsSound, IsHonest}
use Rattle.mx_tables.specs.declared.making.Version.{Version}
use Rattle.mx_tables.specs.declared.making.Version.TheVariants.{One, Two}
use Rattle.mx_tables.specs.declared.migration.Migrated.{Migrated}
use Rattle.mx_tables.specs.declared.migration.Migrated.TheVariants.{Done, Already}
use Rattle.mx_tasks.specs.declared.fault.TaskFault.{TaskFault}
use Rattle.mx_tasks.specs.declared.fault.TaskFault.TheVariants.{Store}
use Rattle.mx_files.specs.Durable.{Endures, Represents, RepresentsIn}
use Rattle.mx_files.specs.Opened.{IsRefusal}
use Rattle.mx_files.specs.declared.closing.Ended.{Ended}
use Rattle.mx_files.specs.declared.closing.Left.{Left}
use Rattle.mx_files.specs.declared.closing.Left.TheVariants.{Closed, Unclosed, Nothing}

-- the bytes are those of a database whose trees, as tables of the office of this version, represent this World
pub record HoldTablesIn (v : Version) (bytes : Image) (w : World) : Type 0 where
  pub trees : Trees
  pub held : ∥ HoldsDatabase bytes trees ∥₁
  pub stands : RepresentsIn v (record { schema = schema_of v; trees = trees }) w

-- the bytes are those of a database that lists the tables of the office of this version, which represent this World
pub record HoldBooksIn (v : Version) (bytes : Image) (w : World) : Type 0 where
  pub trees : Trees
  pub held : ∥ HoldsDatabase bytes trees ∥₁
  pub listed : IsDatabase (record { schema = schema_of v; trees = trees })
  pub stands : RepresentsIn v (record { schema = schema_of v; trees = trees }) w

-- the same of the version that the office has
abbrev pub HoldBooks : Image → World → Type 0
HoldBooks = HoldBooksIn Two

abbrev pub HoldTables : Image → World → Type 0
HoldTables = HoldTablesIn Two

-- and so are those of the database file without its log
pub record HoldBooksAlone (bytes : Image) (w : World) : Type 0 where
  pub both : HoldBooks bytes w
  pub alone : HoldBooks (record bytes { log = [] }) w

-- files that were closed: it is so of the bytes that they have, and of each that a stop may leave
pub record AreClosed {D : Type 0} (g : Ghosts D) (files : Files D) (w : World) : Type 0 where
  pub seen : HoldBooksAlone (image_of g files) w
  pub left : (bytes : Image) → outcomes g files.log files.db bytes → HoldBooksAlone bytes w

-- a connection that was opened over these bytes, while its disk told no lie
abbrev pub IsOpenedOver : {D : Type 0} {g : Ghosts D} → Image → Held (FileStore D g) → Type 0
IsOpenedOver bytes c = HasCleanDisk (file_state c) → FindsIn bytes (file_state c) × IsOpened c

-- where nothing was in the files, not even what a database begins with, the database has page checksums
abbrev pub HasSumsIfNew : {D : Type 0} {g : Ghosts D} → Image → Held (FileStore D g) → Type 0
HasSumsIfNew bytes c = HasCleanDisk (file_state c) → IsBlankAs true bytes → (view c.store).has_sums ≡ true

-- ---- what a task leaves of the files of its books

module _ {D : Type 0} {g : Ghosts D} where
  -- they were closed
  abbrev pub AreShut : Left D g → Type 0
  AreShut (Closed files) = ⊤
  AreShut _ = ⊥

  -- they are there, returned what was written to them, and nobody else wrote them
  abbrev pub AreHonest : Left D g → Type 0
  AreHonest (Closed files) = AreClean g files.log files.db
  AreHonest (Unclosed store) = IsClean (view store)
  AreHonest Nothing = ⊥

  -- files that were closed have the books of this World
  abbrev pub HoldWorld : Left D g → World → Type 0
  HoldWorld (Closed files) w = AreClosed g files w
  HoldWorld _ w = ⊤

  -- Files that were closed hold this database, with their log and without, as they are and as a stop may leave them. A stop leaves
  -- no other of files that couldn't be closed.
  abbrev pub HoldTrees : Left D g → Trees → Type 0
  HoldTrees (Closed files) db = HoldsAlone (image_of g files) db × ((bytes : Image) → outcomes g files.log files.db bytes → HoldsAlone bytes db)
  HoldTrees (Unclosed store) db = (found : Trees) → recovers store found → found ≡ db
  HoldTrees Nothing db = ⊤

  -- the files hold this database still, which is the one that these bytes hold, if they hold one
  pub record Keeps (bytes : Image) (left : Left D g) (tables : Database) : Type 0 where
    pub found : (db : Trees) → HoldsDatabase bytes db → tables.trees ≡ db
    pub held : HoldTrees left tables.trees

  -- new books were made and closed: they have the token of this operator alone
  abbrev pub IsNewOf : Token → Left D g → Type 0
  IsNewOf operator left = AreShut left × (AreHonest left → HoldWorld left (opening operator))

  -- So they have after these rounds, from the World w. What a stop leaves of files that couldn't be closed represents that World
  -- now, or it with one round more, as `Lasts` says.
  abbrev pub HoldRounds : Left D g → World → List Round → World → Type 0
  HoldRounds (Unclosed store) w rs now = (db : Trees) → recovers store db → Lasts (Represents (record { schema = office_schema; trees = db })) w rs now
  HoldRounds left w rs now = HoldWorld left now

  -- where files couldn't be closed, an answer is a fault
  abbrev pub closed_answer : {X : Type 0} → Left D g → Result X TaskFault → Result X TaskFault
  closed_answer (Unclosed store) (Ok x) = Err Store
  closed_answer _ answer = answer

  -- what a close of the store leaves, by the clauses of the crate `sqlite`
  abbrev pub IsLeftOf : Held (FileStore D g) → Left D g → Type 0
  IsLeftOf c (Closed files) = AreClean g files.log files.db → IsCopied c files
  IsLeftOf c (Unclosed last) = IsQuiet view faults recovers is_shielded c.store last
  IsLeftOf c Nothing = ⊥

  -- A close kept what was in a store.
  pub record Closes (c : Held (FileStore D g)) (left : Left D g) : Type 0 where
    pub honest : AreHonest left → IsHonest (file_state c)
    pub sound : AreHonest left → AreShut left → IsSound (file_state c)
    pub world : AreHonest left → (w : World) → IsOurs false (file_state c) → (IsSound (file_state c) → Represents (file_state c).now w) → HoldWorld left w
    pub trees : AreHonest left → (db : Trees) → c.in_transaction ≡ false → (IsSound (file_state c) → (file_state c).now.trees ≡ db) → AreShut left ⊎ ((found : Trees) → (file_state c).may_leave found → found ≡ db) → HoldTrees left db
    pub rounds : AreHonest left → (w : World) (rs : List Round) (now : World) → IsOurs false (file_state c) → Endures (file_state c) w rs now → HoldRounds left w rs now

  -- the files hold what was in a store
  pub record IsKept (c : Held (FileStore D g)) (left : Left D g) : Type 0 where
    pub clean : HasCleanDisk (file_state c)
    pub held : Opens (file_state c) → HoldTrees left (file_state c).now.trees

  -- The books in a store were refused: the files hold what was in it, and a task's fault is of that.
  pub record IsRefused {X : Type 0} (c : Held (FileStore D g)) (ended : Ended X D g) : Type 0 where
    pub kept : IsKept c ended.left
    pub fault : IsRefusal (IsUnknown (λ _. 2) (file_state c).now) ended.answer

-- the version that tables had before a migration that answers so
abbrev pub version_before : Migrated → Version
version_before Done = One
version_before Already = Two

-- a migration that answers so was of tables of that version, and files that were closed hold their World in this one
abbrev pub Raises : {D : Type 0} {g : Ghosts D} → Database → Left D g → Migrated → Type 0
Raises old left made = (old.schema ≡ schema_of (version_before made)) × ((w : World) → RepresentsIn (version_before made) old w → HoldWorld left w)

-- The books in a store were copied: the files of both were closed, and have the World of the store.
pub record HoldCopy {D C : Type 0} {g : Ghosts D} {h : Ghosts C} (c : Held (FileStore D g)) (left : Left D g) (copy : Left C h) : Type 0 where
  pub shut : AreShut left × AreShut copy
  pub world : AreHonest left → (w : World) × Represents (file_state c).now w × HoldWorld left w × (AreHonest copy → HoldWorld copy w)

-- A migration of the books in a store was of a copy: the files of both were closed, and those of the copy hold the World.
pub record HoldRaised {D C : Type 0} {g : Ghosts D} {h : Ghosts C} (c : Held (FileStore D g)) (left : Left D g) (copy : Left C h) (made : Migrated) : Type 0 where
  pub shut : AreShut left × AreShut copy
  pub raises : AreHonest left → AreHonest copy → Raises (file_state c).now copy made
