use Rattle.std.proofs.Common.{subst}
use Rattle.sqlite.specs.Files.{file_state, image_of}
use Rattle.mx_tables.proofs.StateLemmas.{sure}
use Rattle.mx_files.specs.InFiles.{Closes}
use Rattle.mx_files.proofs.FileLemmas.{same_world, tables_of}
use Rattle.mx_lives.proofs.LifeLemmas.{lived_from}
use Rattle.mx_lives.proofs.files.stopped_lives.Goals as goal

pub returns : goal.returns
returns g c = record {
  lives = λ w books clean.
      let closes = subst (λ left. Closes c.in_ok-end.end left) c.in_ok-files.ensures c.close.ensures.closes in
      let end = closes.sound clean tt in
      let all = c.in_ok-end.ensures.lives end in
      lived_from w all.0 (same_world c.in_ok-store.store (image_of g.D.Disk c.args.files) all.0 w (sure (file_state c.in_ok-store.store) (c.in_ok-end.ensures.calm end)).1 c.in_ok-store.ensures.over (tables_of books) all.1)
      (λ v stands. closes.world clean v c.in_ok-end.ensures.ours (λ _. stands)) all.2;
}
