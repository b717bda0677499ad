-- How new books are made in a file beside their place, and put there.
use Rattle.std.specs.Prelude.{◌≡◌, ◌≢◌, ◌⊎◌, ℕ, Bool, List, string_bytes, ⊤}
use Rattle.mx_files.specs.Folders.{HadNumber, HasNumber, IsMissing, IsPlaceFor, IsPrivate, Makes, MayBeLeftOver, MayBeReplaced, Paths, Spot, init_of, log_of, named, removed, spot_behind, taken, unseen, vacant}
use Rattle.mx_files.specs.declared.folder.FileKind.TheVariants.{Regular}
use Rattle.mx_files.specs.declared.making.Making.{Making}
use Rattle.mx_files.specs.declared.places.Replaces.{Replaces}

-- What stands at a path stays, unless it is beside the place of new books of this path, where they are made.
abbrev pub ChangesBeside : Replaces → List ℕ → Paths → Paths → Type 0
ChangesBeside replaces path old new = (q : List ℕ) → ((place : List ℕ) → IsPlaceFor replaces old path place → q ≢ init_of place) → new.spot q ≡ old.spot q

-- The place of new books of this path is right, what another init left beside it was taken away, and an empty file that only its
-- owner may read and write is where that was.
pub record Begins (replaces : Replaces) (path : List ℕ) (old new : Paths) (making : Making) : Type 0 where
  pub place : IsPlaceFor replaces old path (string_bytes making.place)
  pub left : MayBeLeftOver (old.spot (string_bytes making.made))
  pub made : Makes (removed (old.spot (string_bytes making.made))) (new.spot (string_bytes making.made)) making.number 0o600

-- only what stands at the place of new books, where they are made, and where their log is
abbrev pub ChangesIn : Making → Paths → Paths → Type 0
ChangesIn making old new = (q : List ℕ) → q ≢ string_bytes making.place → q ≢ string_bytes making.made → q ≢ string_bytes making.log → new.spot q ≡ old.spot q

-- The file that was made is in its place, which the disk knows or not, where nothing was or what it may replace, and its log is gone.
pub record IsPut (is_synced : Bool) (old new : Paths) (making : Making) : Type 0 where
  pub ours : HasNumber (old.spot (string_bytes making.made)) making.number
  pub free : MayBeReplaced making.replaces (old.spot (string_bytes making.place))
  pub put : new.spot (string_bytes making.place) ≡ named is_synced (old.spot (string_bytes making.made))
  pub gone : new.spot (string_bytes making.made) ≡ removed (old.spot (string_bytes making.made))
  pub log : new.spot (string_bytes making.log) ≡ removed (old.spot (string_bytes making.log))

-- The place is as it was, and the file that was made is gone with its log.
pub record IsGivenUp (old new : Paths) (making : Making) : Type 0 where
  pub kept : new.spot (string_bytes making.place) ≡ old.spot (string_bytes making.place)
  pub gone : HadNumber (old.spot (string_bytes making.made)) making.number → new.spot (string_bytes making.made) ≡ vacant
  pub log : HadNumber (old.spot (string_bytes making.made)) making.number → new.spot (string_bytes making.log) ≡ removed (old.spot (string_bytes making.log))

-- Books of a path were made: such a file is in their place, which may replace what was there, and nothing is where they were made.
pub record Installs (replaces : Replaces) (path : List ℕ) (old new : Paths) : Type 0 where
  pub place : List ℕ
  pub right : IsPlaceFor replaces old path place
  pub put : IsPrivate (new.spot place)
  pub gone : IsMissing (new.spot (init_of place))
  pub log : IsMissing (new.spot (log_of (init_of place)))

-- a regular file stands there that only its owner may read and write
abbrev pub IsOwned : Spot → Type 0
IsOwned unseen = ⊤
IsOwned vacant = ⊥
IsOwned (taken inode) = (inode.kind ≡ Regular) × (inode.mode ≡ 0o600)

-- what stands at a path is as it was, or it is such a file
abbrev pub KeepsAt : List ℕ → Paths → Paths → Type 0
KeepsAt path old new = (new.spot path ≡ old.spot path) ⊎ IsOwned (new.spot path)

-- so it is where a path leads, or at the path where it leads to nothing
abbrev pub KeepsBehind : Spot → List ℕ → List ℕ → Paths → Paths → Type 0
KeepsBehind unseen target path old new = ⊤
KeepsBehind vacant target path old new = KeepsAt path old new
KeepsBehind (taken inode) target path old new = KeepsAt target old new

-- Where new books of a path weren't made, its file is as it was, or is such a file, which they were made in.
abbrev pub KeepsFile : List ℕ → Paths → Paths → Type 0
KeepsFile path old new = KeepsBehind (spot_behind old path) (old.target path) path old new
