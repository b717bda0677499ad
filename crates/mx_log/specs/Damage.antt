-- When a log is damaged. Its bytes are those of section 4 of SQLite's file format (fileformat2.html), "The Write-Ahead Log".
use Rattle.std.specs.Prelude.{◌≡◌, ◌≢◌, ◌⊎◌, ℕ, zero, suc, ◌+◌, ◌/◌, ◌<◌, ◌≤◌, Bool, List, [], ◌∷◌, length, slice_index}
use Rattle.sqlite_wal.specs.Format.{be32, stored_sum, is_big, IsSigned, IsFrame, page_number, commit_size, frame_sum, count_page}
use Rattle.sqlite_wal.specs.Recovery.{frame_at, header, frame, sum_before, Passes}

-- all of frame i is in the log; the first frame is frame 0
abbrev pub IsIn : ℕ → List ℕ → ℕ → Type 0
IsIn size log i = frame_at size i + (24 + size) ≤ length log

-- the frame is of a page, and its checksum goes on from this one
abbrev pub GoesOn : Bool → ℕ × ℕ → List ℕ → Type 0
GoesOn big before bytes =
    (page_number bytes ≢ 0) × (frame_sum big before bytes ≡ stored_sum bytes 16)

-- What the checksum before frame i has to be by the bytes there. It differs from the one that is stored where one of the two is
-- hurt.
abbrev pub due_before : ℕ → List ℕ → ℕ → ℕ × ℕ
due_before size log zero = stored_sum (header log) 24
due_before size log (suc i) =
    frame_sum (is_big (header log)) (sum_before size log i) (frame size log i)

-- frame i is as it was written, as far as its checksum and that of the frame before it tell
pub record Stands (size : ℕ) (log : List ℕ) (i : ℕ) : Type 0 where
  pub within : IsIn size log i
  pub adds_up : IsFrame (header log) (sum_before size log i) (frame size log i)
      ⊎ IsFrame (header log) (due_before size log i) (frame size log i)

-- frame i is the last of a commit
abbrev pub Commits : ℕ → List ℕ → ℕ → Type 0
Commits size log i = commit_size (frame size log i) ≢ 0

-- the frames from this one on stand, up to one that commits
pub record IsWhole (size : ℕ) (log : List ℕ) (from : ℕ) : Type 0 where
  pub last : ℕ
  pub ahead : from ≤ last
  pub each : (i : ℕ) → from ≤ i → i ≤ last → Stands size log i
  pub ends : Commits size log last

-- The gate of frame i is open: its first salt byte is the header's. It is shut before frames are written behind it.
abbrev pub IsOpen : ℕ → List ℕ → ℕ → Type 0
IsOpen size log i = slice_index log (frame_at size i + 8) ≡ slice_index log 16

-- A commit that isn't the one of frame `broken` begins behind frame i: with a frame that counts, or behind one that commits,
-- where no gate from the broken frame on is shut.
abbrev pub Begins : ℕ → List ℕ → ℕ → ℕ → Type 0
Begins size log broken i =
    (page_number (frame size log (i + 1)) ≡ count_page)
    ⊎ (Commits size log i × ((gate : ℕ) → broken ≤ gate → gate ≤ i → IsOpen size log gate))

-- frame `broken` is the first that doesn't add up, where a recovery stops
pub record StopsAt (size : ℕ) (log : List ℕ) (broken : ℕ) : Type 0 where
  pub sound : (i : ℕ) → i < broken → Passes size log i
  pub stops : ¬ Passes size log broken

-- each gate from `broken` to before `shut` is open, and none of the log is at `shut`
pub record IsOpenTo (size : ℕ) (log : List ℕ) (broken shut : ℕ) : Type 0 where
  pub order : broken ≤ shut
  pub open_before : (gate : ℕ) → broken ≤ gate → gate < shut → IsOpen size log gate
  pub shut_there : IsIn size log shut → ¬ IsOpen size log shut

-- A whole commit stands behind the frame at which a recovery stops, and isn't the commit of that frame.
pub record HasLaterCommit (size : ℕ) (log : List ℕ) : Type 0 where
  pub broken : ℕ
  pub stops : StopsAt size log broken
  pub behind : ℕ
  pub later : broken ≤ behind
  pub begins : Begins size log broken behind
  pub whole : IsWhole size log (behind + 1)

-- the sizes of pages that SQLite allows
abbrev pub page_sizes : List ℕ
page_sizes = 512 ∷ 1024 ∷ 2048 ∷ 4096 ∷ 8192 ∷ 16384 ∷ 32768 ∷ 65536 ∷ []

-- a frame behind the header goes on from what is before it, for pages of some size
pub record HasFrame (log : List ℕ) : Type 0 where
  pub place : ℕ
  pub few : place < 8
  pub big : Bool
  pub number : ℕ
  pub within : IsIn (slice_index page_sizes place) log number
  pub goes_on : GoesOn big (sum_before (slice_index page_sizes place) log number)
      (frame (slice_index page_sizes place) log number)

-- The log is being emptied: the first byte of its magic number is 0 then.
pub record IsEmptied (log : List ℕ) : Type 0 where
  pub first : slice_index log 0 ≡ 0
  pub second : slice_index log 1 ≡ 0x7f
  pub third : slice_index log 2 ≡ 0x06
  pub fourth : slice_index log 3 / 2 ≡ 0x82 / 2

-- The log is damaged: its header isn't that of a log, and frames of one follow; or a whole commit follows a broken one. A page
-- has the size that the header names.
abbrev pub IsDamaged : List ℕ → Type 0
IsDamaged log =
    ((¬ IsSigned (header log)) × (¬ IsEmptied log) × HasFrame log)
    ⊎ (IsSigned (header log) × HasLaterCommit (be32 log 8) log)
