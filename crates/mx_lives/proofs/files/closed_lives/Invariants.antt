use Rattle.std.proofs.Common.{map, take, false}
use Rattle.sqlite_wal.specs.Reads.{AreClean}
use Rattle.sqlite.specs.Files.{image_of}
use Rattle.mx_book.specs.World.{World}
use Rattle.mx_files.specs.InFiles.{HoldBooks}
use Rattle.mx_lives.specs.Lived.{AreLeft, LivedTo}
use Rattle.mx_lives.proofs.files.closed_lives.Given as goal

-- where the files are clean, the lives so far led to what their bytes hold
abbrev pub invariant-inputs : goal.invariant-inputs
invariant-inputs g l = (w : World) → HoldBooks (image_of g.D.Disk l.fn.files) w → AreClean g.D.Disk l.held.log l.held.db
    → LivedTo (λ _. Unit {0}) false (AreLeft g.D.Disk l.held (take l.input-index (map (λ input. input.now) l.fn.inputs))) (take l.input-index (map (λ input. input.now) l.fn.inputs)) l.lives.items w
