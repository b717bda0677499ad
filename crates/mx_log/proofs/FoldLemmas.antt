-- A log of which no frame is committed.
use Rattle.std.proofs.Common.{◌≡◌, ◌∙◌, ℕ, zero, suc, List, [], length, take, IsTrue, Option, Some, ap, sym, subst, refl}
use mathlib.Core.Path.{fun_ext}
use Rattle.sqlite_disk.specs.Disk.{Only}
use Rattle.sqlite_disk.specs.declared.Disk.{Ghosts}
use Rattle.sqlite_wal.specs.Log.{committed_frames, state}
use Rattle.sqlite_wal.specs.PageSize.{Names, bytes_of}
use Rattle.sqlite_wal.specs.Recovery.{pages_after}
use Rattle.sqlite_wal.specs.declared.page_size.PageSize.{PageSize}
use Rattle.sqlite_wal.specs.declared.log.Log.{Log}
use Rattle.sqlite_wal.proofs.LogLemmas.{sound_of}

-- the size that is named, where it is one
pub named_is : (found : Option PageSize) (size : PageSize) (n : ℕ) → found ≡ Some size → Names found n → bytes_of size ≡ n
named_is found size n is names = (subst (λ (o : Option PageSize). Names o n) is names).1

-- so many first items of a list, where that is none
none_taken : (k : ℕ) (xs : List ℕ) → k ≡ 0 → length (take k xs) ≡ 0
none_taken zero xs none = refl
none_taken (suc k) xs none = cc

-- where no frame is taken, the pages are those of the database file
alone_at : (size : ℕ) (log db : List ℕ) → pages_after size [] db 0 ≡ pages_after size log db 0
unfolding pages_after
alone_at size log db = fun_ext λ n. refl

module _ {D : Type 0} {g : Ghosts D} (it : Log D g) (none : committed_frames it ≡ 0) where
  -- what is committed is in the database file
  pub alone_committed : pages_after it.page_size [] (g.seen it.db) 0 ≡ (state it).committed
  alone_committed = alone_at it.page_size (g.seen it.log) (g.seen it.db)
      ∙ ap (pages_after it.page_size (g.seen it.log) (g.seen it.db)) (sym (none_taken _ it.index none))

  -- and the disk has it
  pub only_seen : IsTrue (state it).is_open → Only (g.seen it.db) (g.may_leave it.db)
  only_seen is_open = λ c left. ((sound_of it is_open).db_safe c left).all (none_taken _ it.index none)
