use Rattle.std.proofs.Common.{rules}
use Rattle.sqlite.specs.Held.{state}
use Rattle.mx_tables.proofs.StateLemmas.{idle_sure}
use Rattle.mx_audit.proofs.opening.expect_sound.Goals as goal

pub returns-in-Ok-clause-sound : goal.returns-in-Ok-clause-sound
returns-in-Ok-clause-sound g c ours calm version = c.in-Ok.ensures.sound ours calm version (search rules)

pub returns-in-Ok-2-clause-unsound : goal.returns-in-Ok-2-clause-unsound
returns-in-Ok-2-clause-unsound g c ours calm checked is w spelled =
    let none = c.in-Ok-2.ensures.whole ours (idle_sure (state g.S.Store c.check.new.conn) calm) w spelled in
    absurd (search rules)
