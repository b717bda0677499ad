-- How copies of books are made while these are served.
use Rattle.std.specs.Prelude.{◌≡◌, ℕ, List, ◌++◌, take, ⊤, codes}
use Rattle.mx_files.specs.Folders.{IsMissing, IsPlaceFor, IsPrivate, Paths, Spot, init_of, log_of, magic, taken, unseen, vacant}
use Rattle.mx_files.specs.declared.folder.FileKind.TheVariants.{Regular}
use Rattle.mx_files.specs.declared.places.Replaces.{Replaces}
use Rattle.mx_files.specs.declared.places.Replaces.TheVariants.{Nothing, Older}

-- A copy may take the place of what is there: of nothing, or of a regular file that begins as a database, the copy before.
abbrev pub MayTake : Spot → Replaces → Type 0
MayTake unseen replaces = ⊤
MayTake vacant replaces = replaces ≡ Nothing
MayTake (taken inode) replaces = (inode.kind ≡ Regular) × (take 16 inode.bytes ≡ magic) × (replaces ≡ Older inode.number)

-- A copy was put in its place at a path, for its owner alone, and the disk has its name. Nothing is where it was made, and no log is
-- beside it.
pub record PutsCopy (replaces : Replaces) (path : List ℕ) (old new : Paths) : Type 0 where
  pub place : List ℕ
  pub right : IsPlaceFor replaces old path place
  pub put : IsPrivate (new.spot place)
  pub log : IsMissing (new.spot (log_of place))
  pub gone : IsMissing (new.spot (init_of place))
  pub made_log : IsMissing (new.spot (log_of (init_of place)))

-- that a copy to a path wasn't made, and why
abbrev pub failed_line : List ℕ → List ℕ → List ℕ
failed_line path words = codes "copy: " ++ path ++ codes ": " ++ words ++ codes "; the next is tried when it is due\n"
