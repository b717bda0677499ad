use Rattle.sqlite_wal.specs.Files.{image_at}
use Rattle.std.proofs.lemmas.Result.{on_ok_weaker}
use Rattle.sqlite.specs.Files.{file_state}
use Rattle.mx_files.proofs.FileLemmas.{copied_over, copied_shut, keeps_so}
use Rattle.mx_files.proofs.perform.copy_file.Goals as goal

pub returns-clause-copies : goal.returns-clause-copies
returns-clause-copies g c =
    let store = c.in_ok-store.store in
    let over = c.in_ok-store.ensures.over in
    let copied = c.copy_to_file-answer.result in
    record {
      answer = copied.answer;
      copies = on_ok_weaker copied.answer (copied_over store (image_at g.S.Start) copied.left copied.copy over c.copy_to_file-answer.ensures.keeps) c.copy_to_file-answer.ensures.copies;
      keeps = λ honest. let kept = c.copy_to_file-answer.ensures.keeps honest in ((file_state store).now, keeps_so store (image_at g.S.Start) copied.left kept.clean over kept.held);
      ends = c.say_copied.ensures;
    }

pub returns-clause-shut : goal.returns-clause-shut
returns-clause-shut g c = copied_shut c.in_ok-store.store c.copy_to_file-answer.result.left c.copy_to_file-answer.result.copy _ c.copy_to_file-answer.result.answer c.say_copied.result _ _ c.copy_to_file-answer.ensures.copies c.say_copied.ensures
