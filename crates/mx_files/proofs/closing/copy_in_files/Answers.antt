use Rattle.mx_files.proofs.CopiedLemmas.{answered, before_close, if_answered, is_answered}
use Rattle.mx_files.proofs.closing.copy_in_files.Goals as goal

pub returns-clause-copies : goal.returns-clause-copies
returns-clause-copies g c = if_answered c.close_behind-answer.result.0 _ (λ x is.
    let made = c.close_behind-answer.ensures in
    let copied = c.copy_from_files-copied in
    let was = before_close c.close_behind-answer.result.1 copied.result.0 _ x made.answer is in
    let it = answered copied.result.0 _ x was copied.ensures.copies in
    record {
      shut = (copied.ensures.shut (is_answered _ x was), made.shut (is_answered _ x is));
      world = λ honest. let found = it honest in (found.0, found.1, found.2, λ also. made.closes.world also found.0 found.3.ours found.3.stands);
    })
