-- What stands at the paths of a folder, as far as that is known.
use Rattle.std.specs.Prelude.{◌≡◌, ◌≢◌, ◌==◌, ◌||◌, ◌&&◌, ◌<◌, ◌↔◌, ℕ, Bool, true, false, List, [], ◌∷◌, ◌++◌, get_or, length, take, Option, Some, None, Result, Ok, IsTrue, ⊤, codes, nat_eq}
use Rattle.std.specs.declared.io.Error.{Error}
use Rattle.std.specs.List.{list_all, starts_with}
use Rattle.mx_files.specs.declared.folder.Entry.{Entry}
use Rattle.mx_files.specs.declared.folder.FileKind.{FileKind}
use Rattle.mx_files.specs.declared.places.Replaces.{Replaces}
use Rattle.mx_files.specs.declared.places.Replaces.TheVariants as replaces
use Rattle.mx_files.specs.declared.folder.FileKind.TheVariants.{Regular}

-- a file of any kind: its bytes, its number, how many names it has, its mode; and whether its folder was synced since it got this name
pub record Inode : Type 0 where
  pub kind : FileKind
  pub bytes : List ℕ
  pub number : ℕ
  pub names : ℕ
  pub mode : ℕ
  pub is_synced : Bool

-- what is known to stand at a path
pub data Spot : Type 0 where
  unseen : Spot
  vacant : Spot
  taken : Inode → Spot

-- what stands at each path, and the path with no link in it to which each leads
pub record Paths : Type 0 where
  pub spot : List ℕ → Spot
  pub target : List ℕ → List ℕ

-- nothing is known
abbrev pub unseen_paths : Paths
unseen_paths = record { spot = λ _. unseen; target = λ path. path }

-- what stands where a path leads
abbrev pub spot_behind : Paths → List ℕ → Spot
spot_behind paths path = paths.spot (paths.target path)

-- ---- what a call tells

-- what a look at a file tells
abbrev pub entry_of : Inode → Entry
entry_of inode = record { kind = inode.kind; length = length inode.bytes; number = inode.number; names = inode.names }

-- a look tells what stands there
abbrev pub Tells : Spot → Result (Option Entry) Error → Type 0
Tells unseen told = ⊤
Tells vacant told = told ≡ Ok None
Tells (taken inode) told = told ≡ Ok (Some (entry_of inode))

-- a file is there
abbrev pub IsTaken : Spot → Type 0
IsTaken vacant = ⊥
IsTaken _ = ⊤

-- nothing is known to be there
abbrev pub IsMissing : Spot → Type 0
IsMissing (taken inode) = ⊥
IsMissing _ = ⊤

-- a path leads to this one, where it leads to a file
abbrev pub LeadsTo : Spot → List ℕ → List ℕ → Type 0
LeadsTo unseen target to = ⊤
LeadsTo vacant target to = ⊥
LeadsTo (taken inode) target to = to ≡ target

-- these are so many of its first bytes, or all, and none where nothing is there
abbrev pub IsHead : Spot → ℕ → List ℕ → Type 0
IsHead unseen most head = ⊤
IsHead vacant most head = head ≡ []
IsHead (taken inode) most head = head ≡ take most inode.bytes

-- with these bytes SQLite begins a database
abbrev pub magic : List ℕ
magic = codes "SQLite format 3" ++ 0 ∷ []

-- SQLite reserves eight bytes behind the content of each page for its checksum, and says so in byte 20 ("Database file format", 1.3.4)
abbrev pub has_sums : List ℕ → Bool
has_sums head = get_or head 20 0 == 8

-- it is a database, or empty
abbrev pub IsDatabaseFile : Inode → Type 0
IsDatabaseFile inode = IsTrue (length inode.bytes == 0 || starts_with nat_eq inode.bytes magic)

-- where a regular file stands there, it is so
abbrev pub HoldsDatabase : Spot → Type 0
HoldsDatabase (taken inode) = inode.kind ≡ Regular → IsDatabaseFile inode
HoldsDatabase _ = ⊤

-- ---- what a call changes

-- only what stands at this path
abbrev pub ChangesAt : List ℕ → Paths → Paths → Type 0
ChangesAt path old new = (q : List ℕ) → q ≢ path → new.spot q ≡ old.spot q

-- nothing
abbrev pub ChangesNothing : Paths → Paths → Type 0
ChangesNothing old new = (q : List ℕ) → new.spot q ≡ old.spot q

-- only what stands at these two
abbrev pub ChangesAtBoth : List ℕ → List ℕ → Paths → Paths → Type 0
ChangesAtBoth one other old new = (q : List ℕ) → q ≢ one → q ≢ other → new.spot q ≡ old.spot q

-- an empty file of this number and mode was made where nothing was
abbrev pub Makes : Spot → Spot → ℕ → ℕ → Type 0
Makes unseen new number mode = new ≡ unseen
Makes vacant new number mode = new ≡ taken (record { kind = Regular; bytes = []; number = number; names = 1; mode = mode; is_synced = false })
Makes (taken inode) new number mode = ⊥

-- what stood there was removed
abbrev pub removed : Spot → Spot
removed unseen = unseen
removed _ = vacant

-- what stood there has another name, or a name for which its folder was synced
abbrev pub named : Bool → Spot → Spot
named is_synced (taken inode) = taken (record inode { is_synced = is_synced })
named is_synced spot = spot

-- ---- the files of books

-- as SQLite begins a log; its first byte is 0 while it is emptied
abbrev pub has_log_magic : List ℕ → Bool
has_log_magic (a ∷ b ∷ c ∷ d ∷ rest) = (a == 0x37 || a == 0) && (b == 0x7f && (c == 0x06 && (d == 0x82 || d == 0x83)))
has_log_magic _ = false

-- a log may begin so: as SQLite begins one, or with nothing but zeros
abbrev pub may_begin_log : List ℕ → Bool
may_begin_log bytes = has_log_magic bytes || list_all (λ byte. byte == 0) bytes

-- what stands where a log belongs may be one, and has a change in it, or has none; where nothing is, there is no change
abbrev pub IsLog : Spot → Bool → Type 0
IsLog unseen has_change = ⊤
IsLog vacant has_change = has_change ≡ false
IsLog (taken inode) has_change = IsTrue (may_begin_log (take 57 inode.bytes)) × (IsTrue has_change ↔ (56 < length inode.bytes))

-- another file stands there
abbrev pub IsOtherFile : Spot → Type 0
IsOtherFile unseen = ⊤
IsOtherFile vacant = ⊥
IsOtherFile (taken inode) = may_begin_log (take 57 inode.bytes) ≡ false

-- where the log of a database belongs
abbrev pub log_of : List ℕ → List ℕ
log_of path = path ++ codes "-wal"

-- what stands there, where a file of this path may be opened
abbrev pub log_spot : Paths → List ℕ → Spot
log_spot paths path = spot_behind paths (log_of path)

-- a regular file with no byte
abbrev pub IsEmptyFile : Entry → Type 0
IsEmptyFile entry = (entry.kind ≡ Regular) × (entry.length ≡ 0)

-- what may be replaced is this file
abbrev pub MayBe : Replaces → Entry → Type 0
MayBe replaces.Nothing entry = ⊥
MayBe replaces.EmptyFile entry = IsEmptyFile entry
MayBe (replaces.File number) entry = entry.number ≡ number
MayBe (replaces.Older number) entry = entry.number ≡ number

-- it has no log
abbrev pub HasNoLog : Replaces → Type 0
HasNoLog (replaces.File number) = ⊥
HasNoLog _ = ⊤

-- books may take the place of what is there: of nothing, or of such a file
abbrev pub MayBeReplaced : Replaces → Spot → Type 0
MayBeReplaced replaces (taken inode) = MayBe replaces (entry_of inode)
MayBeReplaced replaces _ = ⊤

-- books of a path go there: to the path, where it leads to nothing, and else to where it leads, to such a file
abbrev pub IsPlaceBehind : Replaces → Spot → List ℕ → List ℕ → List ℕ → Type 0
IsPlaceBehind replaces unseen target path place = ⊤
IsPlaceBehind replaces vacant target path place = place ≡ path
IsPlaceBehind replaces (taken inode) target path place = MayBe replaces (entry_of inode) × (place ≡ target)

-- and no log with a change is where its log belongs
pub record IsPlaceFor (replaces : Replaces) (paths : Paths) (path place : List ℕ) : Type 0 where
  pub behind : IsPlaceBehind replaces (spot_behind paths path) (paths.target path) path place
  pub log : HasNoLog replaces → IsLog (log_spot paths place) false

-- books may be opened at a path: no other file stands where the log of what it leads to belongs, and that isn't empty
abbrev pub MayBeOpened : Paths → List ℕ → Spot → Type 0
MayBeOpened paths path vacant = ⊥
MayBeOpened paths path unseen = ⊤
MayBeOpened paths path (taken inode) = (¬ IsEmptyFile (entry_of inode)) × ((has_change : Bool) × IsLog (log_spot paths (paths.target path)) has_change)

-- a database may be opened there: nothing stands there, or a regular file with one name
abbrev pub IsPlain : Spot → Type 0
IsPlain (taken inode) = (inode.kind ≡ Regular) × (inode.names ≡ 1)
IsPlain _ = ⊤

-- where new books of a place are made
abbrev pub init_of : List ℕ → List ℕ
init_of place = place ++ codes "-init"

-- ---- how new books are made beside their place

-- what an init that was broken off leaves: nothing, or a regular file that is a database or empty
abbrev pub MayBeLeftOver : Spot → Type 0
MayBeLeftOver (taken inode) = (inode.kind ≡ Regular) × IsDatabaseFile inode
MayBeLeftOver _ = ⊤

-- the file that stands there has this number
abbrev pub HasNumber : Spot → ℕ → Type 0
HasNumber unseen number = ⊤
HasNumber vacant number = ⊥
HasNumber (taken inode) number = inode.number ≡ number

-- a look for that number tells whether the file there has it
abbrev pub TellsNumber : Spot → ℕ → Bool → Type 0
TellsNumber unseen number told = ⊤
TellsNumber vacant number told = told ≡ false
TellsNumber (taken inode) number told = IsTrue told ↔ (inode.number ≡ number)

-- such a file is known to stand there
abbrev pub HadNumber : Spot → ℕ → Type 0
HadNumber (taken inode) number = inode.number ≡ number
HadNumber _ number = ⊥

-- a regular file stands there that only its owner may read and write, and the disk has its name
abbrev pub IsPrivate : Spot → Type 0
IsPrivate unseen = ⊤
IsPrivate vacant = ⊥
IsPrivate (taken inode) = (inode.kind ≡ Regular) × (inode.mode ≡ 0o600) × (inode.is_synced ≡ true)
