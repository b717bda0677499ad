use Rattle.mx_tables.proofs.BookLemmas.{err_said, ok_said, settles_by}
use Rattle.mx_tables.proofs.InvariantLemmas.{settled_afresh, settled_invariant}
use Rattle.mx_tables.proofs.tables.TablesRowBook.settle.Goals as goal

pub invariant_of-self-else-is_err : goal.invariant_of-self-else-is_err
invariant_of-self-else-is_err g c = ok_said c.end-done.result c.is_err.result c.is_err.ensures.value c.if-is_err.false (settled_invariant g.S.Store c.self.invariant c.end-done.result c.end-done.ensures)

pub invariant_of-self : goal.invariant_of-self
invariant_of-self g c = err_said c.end-done.result c.is_err.result c.is_err.ensures.value c.if-is_err.true (settled_afresh g.S.Store c.self.invariant _ c.end-done.result c.end-done.ensures c.invalidate.ensures)

pub returns-then-is_err-clause-settles : goal.returns-then-is_err-clause-settles
returns-then-is_err-clause-settles g c = rw (← c.self.view_is) (settles_by g.S.Store (c.self.inside.conn, c.self.inside.begun) c.end-done.new.conn c.end-done.result c.self.invariant.kept c.end-done.ensures)

pub returns-else-is_err-clause-settles : goal.returns-else-is_err-clause-settles
returns-else-is_err-clause-settles g c = rw (← c.self.view_is) (settles_by g.S.Store (c.self.inside.conn, c.self.inside.begun) c.end-done.new.conn c.end-done.result c.self.invariant.kept c.end-done.ensures)
