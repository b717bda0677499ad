use Rattle.mx_tables.proofs.Common.{◌∙◌, IfOk-weaker}
use Rattle.mx_book.proofs.SpellLemmas.{redemption_at}
use Rattle.std.proofs.Common.{sym, subst}
use Rattle.mx_tables.specs.Holds.{SpellsOne}
use Rattle.mx_tables.specs.Rounds.{rows_of}
use Rattle.mx_tables.proofs.BookLemmas.{explains_by, keeps_stays}
use Rattle.mx_tables.proofs.InvariantLemmas.{ours_in, stays_invariant}
use Rattle.mx_tables.proofs.tables.TablesRowBook.redemption_of.Goals as goal

pub returns-clause-keeps : goal.returns-clause-keeps
returns-clause-keeps g c =
    let ours = ours_in c.self.invariant in
    rw (← c.self.view_is) (keeps_stays g.S.Store (c.self.inside.conn, c.self.inside.begun) c.find_redemption.new.conn c.self.invariant.kept (c.find_redemption.ensures.reads.stays ours))

pub invariant_of-self : goal.invariant_of-self
invariant_of-self g c = stays_invariant c.self.invariant (c.find_redemption.ensures.reads.stays (ours_in c.self.invariant))

pub returns-clause-value : goal.returns-clause-value
returns-clause-value g c w sure h =
    let ours = ours_in c.self.invariant in
    let one = subst (λ t. SpellsOne (rows_of g.S.Store t) w) (sym c.self.view_is) h in
    IfOk-weaker c.find_redemption.result _ _ (λ r is. is ∙ redemption_at one.spelled.rows w c.args.purse c.args.reference one.spelled.spells) (c.find_redemption.ensures.reads.value ours sure one.spelled.rows one.spelled.holds)

pub returns-clause-cause : goal.returns-clause-cause
returns-clause-cause g c =
    rw (← c.self.view_is) (explains_by g.S.Store (c.self.inside.conn, c.self.inside.begun) c.find_redemption.new.conn (ours_in c.self.invariant) (c.find_redemption.ensures.reads.stays (ours_in c.self.invariant)) c.find_redemption.ensures.cause)
