use Rattle.std.proofs.Common.{false}
use Rattle.sqlite.specs.Files.{file_state}
use Rattle.mx_tables.specs.States.{IsOurs}
use Rattle.mx_files.specs.InFiles.{HoldWorld}
use Rattle.mx_files.proofs.FileLemmas.{clean_before, migrated_so, raised_so}
use Rattle.mx_files.proofs.closing.migrate_in_files.Goals as goal

pub returns-clause-migrates : goal.returns-clause-migrates
returns-clause-migrates g c = λ honest.
    let closes = c.close.ensures.closes in
    let first = file_state c.args.store in
    let last = file_state c.migrate_in_store-answer.new.store in (
      clean_before first last c.migrate_in_store-answer.ensures.later (closes.honest honest),
      c.migrate_in_store-answer.result,
      c.close.ensures.answer,
      λ shut. migrated_so (HoldWorld c.close.result.left) (IsOurs false last) first.now last.now c.migrate_in_store-answer.result c.migrate_in_store-answer.ensures.ours (c.migrate_in_store-answer.ensures.migrates (closes.sound honest shut))
          (λ ours w stands. closes.world honest w ours (λ _. stands)),
      λ shut opens. raised_so c.args.store c.migrate_in_store-answer.new.store c.close.result.left c.migrate_in_store-answer.result closes honest shut opens c.migrate_in_store-answer.ensures.idle
          (c.migrate_in_store-answer.ensures.left (closes.sound honest shut)),
    )
