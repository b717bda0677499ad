use Rattle.mx_tables.proofs.Common.{state}
use Rattle.mx_tables.proofs.BookLemmas.{rests_ours}
use Rattle.mx_tables.proofs.InvariantLemmas.{first_invariant}
use Rattle.mx_tables.proofs.tables.Tables.over.Goals as goal

pub returns-clause-settled : goal.returns-clause-settled
returns-clause-settled g c = rests_ours g.S.Store c.args.store c.requires.ours

pub invariant_of-result : goal.invariant_of-result
invariant_of-result g c = first_invariant (state g.S.Store c.args.store) c.requires.ours (λ known sound. let it = c.requires.spelled sound in (it.0, it.1.spelled)) c.new.ensures
