use Rattle.std.proofs.Common.{sym, subst}
use Rattle.mx_tables.specs.Rounds.{IsSettled}
use Rattle.mx_tables.proofs.BookLemmas.{left_rested, ours_rested, rests_idle}
use Rattle.mx_tables.proofs.tables.Tables.into_store.Goals as goal

pub returns-clause-ours : goal.returns-clause-ours
returns-clause-ours g c settled = ours_rested g.S.Store (c.self.inside.conn, c.self.inside.begun) c.self.invariant.kept (subst (IsSettled g.S.Store) (sym c.self.view_is) settled)

pub returns-clause-lasts : goal.returns-clause-lasts
returns-clause-lasts g c settled = left_rested g.S.Store (c.self.inside.conn, c.self.inside.begun) c.self.invariant.kept (subst (IsSettled g.S.Store) (sym c.self.view_is) settled) (g.met.S.Store.stays c.self.inside.conn.store)

pub returns-clause-idle : goal.returns-clause-idle
returns-clause-idle g c settled = rests_idle g.S.Store (c.self.inside.conn, c.self.inside.begun) c.self.invariant.kept (subst (IsSettled g.S.Store) (sym c.self.view_is) settled)
