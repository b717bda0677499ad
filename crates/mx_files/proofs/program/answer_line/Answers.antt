use Rattle.mx_files.proofs.program.answer_line.Goals as goal

pub returns-in-Ok : goal.returns-in-Ok
returns-in-Ok g c = rw c.in-Ok.is (record {
  answer = c.perform_over-answer.result.answer;
  performs = c.perform_over-answer.ensures.performs;
  other = c.perform_over-answer.ensures.other;
  ends = rw c.perform_over-answer.ensures.quiet at (c.end_task.ensures);
})
