use Rattle.std.proofs.Common.{sym, subst}
use Rattle.mx_tables.specs.Holds.{SpellsOne}
use Rattle.mx_tables.specs.Rounds.{rows_of}
use Rattle.mx_tables.proofs.BookLemmas.{explains_by, keeps_stays}
use Rattle.mx_tables.proofs.InvariantLemmas.{ours_in, stays_invariant}
use Rattle.mx_tables.proofs.tables.TablesRowBook.purses.Goals as goal

pub returns-clause-keeps : goal.returns-clause-keeps
returns-clause-keeps g c =
    let ours = ours_in c.self.invariant in
    rw (← c.self.view_is) (keeps_stays g.S.Store (c.self.inside.conn, c.self.inside.begun) c.list_purse_names.new.conn c.self.invariant.kept (c.list_purse_names.ensures.stays ours))

pub invariant_of-self : goal.invariant_of-self
invariant_of-self g c = stays_invariant c.self.invariant (c.list_purse_names.ensures.stays (ours_in c.self.invariant))

pub returns-clause-value : goal.returns-clause-value
returns-clause-value g c w sure h =
    let ours = ours_in c.self.invariant in
    c.list_purse_names.ensures.value ours w sure (subst (λ t. SpellsOne (rows_of g.S.Store t) w) (sym c.self.view_is) h)

pub returns-clause-cause : goal.returns-clause-cause
returns-clause-cause g c =
    rw (← c.self.view_is) (explains_by g.S.Store (c.self.inside.conn, c.self.inside.begun) c.list_purse_names.new.conn (ours_in c.self.invariant) (c.list_purse_names.ensures.stays (ours_in c.self.invariant)) c.list_purse_names.ensures.cause)
