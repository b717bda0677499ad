use Rattle.mx_tables.proofs.Common.{state}
use Rattle.mx_tables.proofs.BookLemmas.{rests_ours}
use Rattle.mx_tables.proofs.InvariantLemmas.{first_invariant}
use Rattle.mx_tables.proofs.StateLemmas.{awake}
use Rattle.mx_tables.proofs.tables.Tables.open.Goals as goal

pub returns-in-Ok-clause-live : goal.returns-in-Ok-clause-live
returns-in-Ok-clause-live g c = awake (state g.S.Store c.check_office.new.conn) c.in-Ok.ensures.live

pub returns-in-Ok-clause-settled : goal.returns-in-Ok-clause-settled
returns-in-Ok-clause-settled g c = rests_ours g.S.Store c.check_office.new.conn c.in-Ok.ensures.ours

pub invariant_of-result : goal.invariant_of-result
invariant_of-result g c = first_invariant (state g.S.Store c.check_office.new.conn) c.in-Ok.ensures.ours (λ known. absurd (cc)) c.new.ensures
