use Rattle.std.proofs.Common.{sym, subst}
use Rattle.mx_tables.specs.Holds.{SpellsOne}
use Rattle.mx_tables.specs.Rounds.{rows_of}
use Rattle.mx_tables.proofs.BookLemmas.{explains_by, keeps_stays}
use Rattle.mx_tables.proofs.InvariantLemmas.{ours_in, through_invariant, through_stays, through_value}
use Rattle.mx_tables.proofs.tables.TablesRowBook.uncollected.Goals as goal

pub returns-clause-keeps : goal.returns-clause-keeps
returns-clause-keeps g c =
    rw (← c.self.view_is) (keeps_stays g.S.Store (c.self.inside.conn, c.self.inside.begun) c.sum_due.new.conn c.self.invariant.kept (through_stays g.S.Store c.self.invariant c.sum_due.ensures))

pub invariant_of-self : goal.invariant_of-self
invariant_of-self g c = through_invariant g.S.Store c.self.invariant c.sum_due.ensures

pub returns-clause-value : goal.returns-clause-value
returns-clause-value g c w sure h =
    through_value g.S.Store c.self.invariant c.sum_due.ensures _ (λ rows w is. is) w sure (subst (λ t. SpellsOne (rows_of g.S.Store t) w) (sym c.self.view_is) h)

pub returns-clause-cause : goal.returns-clause-cause
returns-clause-cause g c =
    rw (← c.self.view_is) (explains_by g.S.Store (c.self.inside.conn, c.self.inside.begun) c.sum_due.new.conn (ours_in c.self.invariant) (through_stays g.S.Store c.self.invariant c.sum_due.ensures) c.sum_due.ensures.cause)
