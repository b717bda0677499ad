use Rattle.sqlite.specs.Held.{state}
use Rattle.mx_audit.proofs.CopyLemmas.{raised_so}
use Rattle.mx_audit.proofs.copying.raise.Goals as goal

pub returns-in-Ok-clause-raises : goal.returns-in-Ok-clause-raises
returns-in-Ok-clause-raises g c calm sound =
    raised_so g.T.Store c.in-Ok.field-0 (state g.S.Store c.args.conn.now).now c.copy.new.to c.migrate.new.store c.migrate.result (c.in-Ok.ensures.copies calm).1 c.migrate.ensures.later sound (c.migrate.ensures.migrates sound)
