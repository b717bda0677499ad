use Rattle.std.proofs.Common.{◌≡◌, Some, [], refl, subst}
use Rattle.sqlite.specs.Files.{file_state, image_of}
use Rattle.mx_files.specs.InFiles.{Closes}
use Rattle.mx_files.proofs.FileLemmas.{clean_before, same_world, tables_of}
use Rattle.mx_lives.specs.declared.answered.Life.{Life}
use Rattle.mx_lives.proofs.LifeLemmas.{run_from, run_over}
use Rattle.mx_lives.proofs.files.closed_life.Goals as goal

pub returns : goal.returns
returns g c =
    let life : Life = record { ended = c.in-Ok.ended; written = c.into_inner-written.result } in
    let given : Some c.new-reader.result.device.now ≡ Some c.args.input.now = rw c.new-reader.ensures.device refl in
    let empty : Some c.new-writer.result.device.items ≡ Some [] = rw (c.new-writer.ensures.device, c.new.ensures.items) refl in
    let wrote : Some c.run_in_store.new.writer.device.items ≡ Some life.written.items = rw c.into_inner-written.ensures refl in
    let closes = subst (λ left. Closes c.in-Ok.left left) c.in_ok-files.ensures c.close.ensures.closes in
    let store = c.in_ok-store.store in
    record {
      clean = λ clean. c.in_ok-store.ensures.clean (clean_before (file_state store) (file_state c.in-Ok.left) c.in-Ok.ensures.later (closes.honest clean));
      lives = λ w books clean.
          let all = c.in-Ok.ensures.runs (closes.honest clean) in
          run_from w all.0 (same_world store (image_of g.D.Disk c.args.files) all.0 w (clean_before (file_state store) (file_state c.in-Ok.left) c.in-Ok.ensures.later (closes.honest clean)) c.in_ok-store.ensures.over (tables_of books) all.1)
          (run_over _ _ _ c.args.input.now all.0 life given empty wrote c.in-Ok.ensures.fault (λ rs now moves. closes.rounds clean all.0 rs now c.in-Ok.ensures.ours moves) all.2);
    }
