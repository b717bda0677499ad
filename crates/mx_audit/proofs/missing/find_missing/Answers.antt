use Rattle.mx_tables.proofs.CallLemmas.{reads_none, reads_never, reads_to, reads_fault}
use Rattle.mx_audit.proofs.missing.find_missing.Goals as goal

pub returns-then-is_whole-clause-reads : goal.returns-then-is_whole-clause-reads
returns-then-is_whole-clause-reads g c live = reads_none g.S.Store live (λ rows holds. tt)

pub returns-in_err-tokens-clause-reads : goal.returns-in_err-tokens-clause-reads
returns-in_err-tokens-clause-reads g c live = reads_never g.S.Store c.from_residual.ensures.0

pub returns-in_err-members-clause-reads : goal.returns-in_err-members-clause-reads
returns-in_err-members-clause-reads g c live = reads_never g.S.Store c.from_residual-in_err-members.ensures.0

pub returns-in_err-holders-clause-reads : goal.returns-in_err-holders-clause-reads
returns-in_err-holders-clause-reads g c live = reads_never g.S.Store c.from_residual-in_err-holders.ensures.0

pub returns-in_err-purses-clause-reads : goal.returns-in_err-purses-clause-reads
returns-in_err-purses-clause-reads g c live = reads_fault g.S.Store (c.in_err-purses.ensures live) c.from_residual-in_err-purses.ensures.0

pub returns-clause-reads : goal.returns-clause-reads
returns-clause-reads g c live = reads_to g.S.Store (c.in_ok-purses.ensures live) (λ rows holds is. tt)
