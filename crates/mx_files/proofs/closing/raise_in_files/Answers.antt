use Rattle.sqlite.specs.Files.{file_state}
use Rattle.mx_files.proofs.CopiedLemmas.{answered, before_close, if_answered, is_answered, raised_from, raised_world}
use Rattle.mx_files.proofs.closing.raise_in_files.Goals as goal

pub returns-clause-raises : goal.returns-clause-raises
returns-clause-raises g c = if_answered c.close_behind-answer.result.0 _ (λ made is.
    let closed = c.close_behind-answer.ensures in
    let raised = c.raise_from_files-raised in
    let new = raised.new.to in
    let was = before_close c.close_behind-answer.result.1 raised.result.0 _ made closed.answer is in
    let ours = answered raised.result.0 _ made was raised.ensures.ours in
    let shut = closed.shut (is_answered _ made is) in
    record {
      shut = (raised.ensures.shut (is_answered _ made was), shut);
      raises = λ honest also.
          let it = answered raised.result.0 _ made was raised.ensures.raises honest (closed.closes.sound also shut) in (
            raised_from made (file_state c.args.store).now (file_state new).now it,
            λ w stands. closed.closes.world also w ours (λ _. raised_world made (file_state c.args.store).now (file_state new).now w it stands),
          );
    })
