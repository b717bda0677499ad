-- What is in a database once its log was brought into it.
use Rattle.std.specs.Prelude.{◌≡◌, ℕ, []}
use Rattle.sqlite_disk.specs.declared.Disk.{Ghosts}
use Rattle.sqlite_disk.specs.Disk.{Only}
use Rattle.sqlite_wal.specs.Format.{be32}
use Rattle.sqlite_wal.specs.PageSize.{size_in_file}
use Rattle.sqlite_wal.specs.Recovery.{Image, IsIgnored, Pages, Recovers, Replays, pages_after}
use Rattle.mx_log.specs.declared.folding.Folded.{Folded}

-- pages have the size that the log names, or else the database file
pub record IsSizeIn (size : ℕ) (image : Image) : Type 0 where
  pub by_log : ¬ IsIgnored image.log → size ≡ be32 image.log 8
  pub by_file : IsIgnored image.log → size ≡ size_in_file image.db

-- The database file alone stands for the pages that a recovery finds in the files that were, and the disk has it. So many frames
-- of the log were taken.
pub record IsFolded {D : Type 0} (g : Ghosts D) (before : Image) (folded : Folded D) : Type 0 where
  pub size : ℕ
  pub sized : IsSizeIn size before
  pub pages : Pages
  pub found : Recovers size before pages
  pub alone : pages_after size [] (g.seen folded.files.db) 0 ≡ pages
  pub durable : Only (g.seen folded.files.db) (g.may_leave folded.files.db)
  pub frames : Replays size before.log folded.frames
