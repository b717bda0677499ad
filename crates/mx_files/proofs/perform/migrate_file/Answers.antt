use Rattle.sqlite_wal.specs.Files.{image_at}
use Rattle.mx_files.proofs.perform.migrate_file.Goals as goal

pub returns-clause-migrates : goal.returns-clause-migrates
returns-clause-migrates g c = λ honest.
    let it = c.migrate_opened-answer.ensures.migrates (image_at g.S.Start) c.in_ok-store.ensures.over honest in
    record {
      answer = it.0;
      migrates = it.2;
      ends = rw it.1 at (c.say_migrated.ensures.ends);
    }
