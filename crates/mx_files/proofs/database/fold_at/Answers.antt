use Rattle.std.proofs.Common.{◌≡◌, subst}
use Rattle.sqlite_disk.specs.declared.Disk.{Ghosts}
use Rattle.sqlite_wal.specs.Recovery.{Image}
use Rattle.mx_log.specs.Folds.{IsFolded}
use Rattle.mx_log.specs.declared.folding.Folded.{Folded}
use Rattle.mx_files.proofs.database.fold_at.Goals as goal

-- what is brought together of the bytes that two files hold is that of the bytes that were opened
folded-as : {D : Type 0} (g : Ghosts D) (held opened : Image) (folded : Folded D) → held ≡ opened → IsFolded g held folded → IsFolded g opened folded
folded-as g held opened folded same it = subst (λ image. IsFolded g image folded) same it

pub returns-in-Ok : goal.returns-in-Ok
returns-in-Ok g c = λ clean. folded-as _ _ _ _ c.in_ok-files.ensures.bytes (c.in-Ok.ensures clean)
