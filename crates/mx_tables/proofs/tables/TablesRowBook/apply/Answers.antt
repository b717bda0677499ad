use Rattle.mx_tables.proofs.Common.{◌≡◌, state}
use Rattle.std.proofs.lemmas.Result.{on_ok_weaker}
use Rattle.std.proofs.Common.{sym, subst}
use Rattle.mx_tables.specs.Holds.{Spells, SpellsOne}
use Rattle.mx_tables.specs.Rounds.{doubt_of, rows_of}
use Rattle.mx_tables.specs.States.{unsure}
use Rattle.mx_tables.proofs.KeptLemmas.{spelled_after, spelled_one}
use Rattle.mx_tables.proofs.BookLemmas.{bides_by, ok_said, sure_zero}
use Rattle.mx_tables.proofs.InvariantLemmas.{changed_afresh, changed_followed, edits_made}
use Rattle.mx_tables.proofs.tables.TablesRowBook.apply.Goals as goal

pub invariant_of-self : goal.invariant_of-self
invariant_of-self g c = ok_said c.change_in-done.result c.is_err.result c.is_err.ensures.value c.if-is_err.false (changed_followed c.args.edits.now _ _ _ _ c.self.invariant
    (λ w sure spelled. c.requires w (subst (λ t. doubt_of g.S.Store t ≡ 0) c.self.view_is sure) (subst (λ t. SpellsOne (rows_of g.S.Store t) w) c.self.view_is spelled)) _ c.change_in-done.result c.change_in-done.ensures c.if-not-self.false)

pub invariant_of-self-then-is_err : goal.invariant_of-self-then-is_err
invariant_of-self-then-is_err g c = changed_afresh c.args.edits.now _ _ _ _ c.self.invariant
    (λ w sure spelled. c.requires w (subst (λ t. doubt_of g.S.Store t ≡ 0) c.self.view_is sure) (subst (λ t. SpellsOne (rows_of g.S.Store t) w) c.self.view_is spelled)) _ _ c.change_in-done.result c.change_in-done.ensures c.invalidate.ensures

pub returns-then-is_err-clause-later : goal.returns-then-is_err-clause-later
returns-then-is_err-clause-later g c = rw (← c.self.view_is) (c.change_in-done.ensures.later c.self.invariant.kept)

pub returns-else-not-self-clause-later : goal.returns-else-not-self-clause-later
returns-else-not-self-clause-later g c = rw (← c.self.view_is) (c.change_in-done.ensures.later c.self.invariant.kept)

pub returns-then-is_err-clause-err : goal.returns-then-is_err-clause-err
returns-then-is_err-clause-err g c h = rw (← c.self.view_is) (c.change_in-done.ensures.err c.self.invariant.kept h)

pub returns-else-not-self-clause-err : goal.returns-else-not-self-clause-err
returns-else-not-self-clause-err g c h = rw (← c.self.view_is) (c.change_in-done.ensures.err c.self.invariant.kept h)

pub returns-then-is_err-clause-ok : goal.returns-then-is_err-clause-ok
returns-then-is_err-clause-ok g c w h spelled =
    let old = state g.S.Store c.self.inside.conn in
    let sure : unsure c.self.inside.begun old ≡ 0 = sure_zero _ _ (c.change_in-done.ensures.later c.self.invariant.kept) h in
    let was : Spells old.now w = (subst (λ t. SpellsOne (rows_of g.S.Store t) w) (sym c.self.view_is) spelled).spelled in
    let fits = c.requires w (subst (λ t. doubt_of g.S.Store t ≡ 0) c.self.view_is sure) spelled in
    on_ok_weaker c.change_in-done.result (λ went. spelled_one (spelled_after c.args.edits.now w old.now _ was fits (edits_made c.args.edits.now c.self.inside.begun c.change_in-done.new.begun old (state g.S.Store c.change_in-done.new.conn) c.self.invariant (λ v early one. c.requires v (subst (λ t. doubt_of g.S.Store t ≡ 0) c.self.view_is early) (subst (λ t. SpellsOne (rows_of g.S.Store t) v) c.self.view_is one)) _ went sure w was).0)) (c.change_in-done.ensures.ok c.self.invariant.kept h)

pub returns-else-not-self-clause-ok : goal.returns-else-not-self-clause-ok
returns-else-not-self-clause-ok g c w h spelled =
    let old = state g.S.Store c.self.inside.conn in
    let sure : unsure c.self.inside.begun old ≡ 0 = sure_zero _ _ (c.change_in-done.ensures.later c.self.invariant.kept) h in
    let was : Spells old.now w = (subst (λ t. SpellsOne (rows_of g.S.Store t) w) (sym c.self.view_is) spelled).spelled in
    let fits = c.requires w (subst (λ t. doubt_of g.S.Store t ≡ 0) c.self.view_is sure) spelled in
    on_ok_weaker c.change_in-done.result (λ went. spelled_one (spelled_after c.args.edits.now w old.now _ was fits (edits_made c.args.edits.now c.self.inside.begun c.change_in-done.new.begun old (state g.S.Store c.change_in-done.new.conn) c.self.invariant (λ v early one. c.requires v (subst (λ t. doubt_of g.S.Store t ≡ 0) c.self.view_is early) (subst (λ t. SpellsOne (rows_of g.S.Store t) v) c.self.view_is one)) _ went sure w was).0)) (c.change_in-done.ensures.ok c.self.invariant.kept h)

pub returns-then-is_err-clause-bides : goal.returns-then-is_err-clause-bides
returns-then-is_err-clause-bides g c = rw (← c.self.view_is) (bides_by g.S.Store (c.self.inside.conn, c.self.inside.begun) (c.change_in-done.new.conn, c.change_in-done.new.begun) c.self.invariant.kept (c.change_in-done.ensures.abides c.self.invariant.kept))

pub returns-else-not-self-clause-bides : goal.returns-else-not-self-clause-bides
returns-else-not-self-clause-bides g c = rw (← c.self.view_is) (bides_by g.S.Store (c.self.inside.conn, c.self.inside.begun) (c.change_in-done.new.conn, c.change_in-done.new.begun) c.self.invariant.kept (c.change_in-done.ensures.abides c.self.invariant.kept))
