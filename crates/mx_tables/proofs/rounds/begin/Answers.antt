use Rattle.mx_tables.proofs.Common.{state}
use Rattle.mx_tables.proofs.RoundLemmas.{begins_on, not_false}
use Rattle.mx_tables.proofs.rounds.begin.Goals as goal

pub returns : goal.returns
returns g c = begins_on c.args.begun.now (state g.S.Store c.args.conn.now) c.if-not-begun.false (not_false _ c.if-is_autocommit.ensures.value)
