use Rattle.std.proofs.Common.{◌≡◌, inl, inr}
use Rattle.sqlite.specs.Files.{file_state}
use Rattle.mx_tasks.proofs.WorkLemmas.{works_so}
use Rattle.mx_tables.specs.States.{worry}
use Rattle.mx_files.specs.Durable.{Endures, Represents}
use Rattle.mx_files.specs.InFiles.{AreShut, HoldRounds, HoldWorld}
use Rattle.mx_files.proofs.FileLemmas.{clean_before, never_ok}
use Rattle.mx_files.proofs.closing.work_in_files.Goals as goal

pub returns-in-Ok-clause-works : goal.returns-in-Ok-clause-works
returns-in-Ok-clause-works g c = inr (λ honest.
    let files = c.close.result.left in
    let closes = c.close.ensures.closes in
    let left = file_state c.in-Ok.left in
    let low = closes.honest honest in
    let ours = c.in-Ok.ensures.ours in
    let all = c.in-Ok.ensures.works low in (
      clean_before (file_state c.args.store) left c.in-Ok.ensures.later low,
      all.0,
      c.in-Ok.done,
      all.1,
      c.close.ensures.answer,
      works_so (λ _. Unit {0}) (worry left ≡ 0) (AreShut files) (Represents left.now) (HoldWorld files) (Endures left all.0) (HoldRounds files all.0) (λ shut. closes.sound honest shut)
          (λ shut v stands. closes.world honest v ours (λ _. stands)) (λ rs now endures. closes.rounds honest all.0 rs now ours endures) all.0 c.args.work.now c.in-Ok.done all.2,
    ))

pub returns-in-Err-clause-works : goal.returns-in-Err-clause-works
returns-in-Err-clause-works g c = inl (c.close_refused.ensures.fault, c.close_refused.ensures.refused c.args.store c.in-Err.ensures.refused)

pub returns-in-Err-clause-shut : goal.returns-in-Err-clause-shut
returns-in-Err-clause-shut g c = never_ok c.close_refused.result.answer c.close_refused.ensures.fault
