use Rattle.std.proofs.Common.{inl, inr, refl}
use Rattle.sqlite.specs.Files.{file_state}
use Rattle.mx_files.proofs.FileLemmas.{clean_before, never_ok}
use Rattle.mx_files.proofs.closing.run_in_files.Goals as goal

pub returns-in-Ok-clause-runs : goal.returns-in-Ok-clause-runs
returns-in-Ok-clause-runs g c = inr (λ honest.
    let closes = c.close.ensures.closes in
    let low = closes.honest honest in
    let all = c.in-Ok.ensures.runs low in
    let led = all.2 in (
      clean_before (file_state c.args.store) (file_state c.in-Ok.left) c.in-Ok.ensures.later low,
      all.0,
      c.in-Ok.answer,
      all.1,
      c.close.ensures.answer,
      c.in-Ok.ensures.fault,
      record { end = led.end; rounds = led.rounds; holds = led.holds; moves = closes.rounds honest all.0 led.rounds led.end c.in-Ok.ensures.ours led.moves },
    ))

pub returns-in-Err-clause-runs : goal.returns-in-Err-clause-runs
returns-in-Err-clause-runs g c = inl (c.in-Err.ensures.unopened refl, c.close_refused.ensures.fault, c.close_refused.ensures.refused c.args.store c.in-Err.ensures.refused)

pub returns-in-Err-clause-shut : goal.returns-in-Err-clause-shut
returns-in-Err-clause-shut g c = never_ok c.close_refused.result.answer c.close_refused.ensures.fault
