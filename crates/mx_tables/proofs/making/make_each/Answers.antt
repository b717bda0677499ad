use Rattle.mx_tables.proofs.Common.{Ok, [], state, going}
use Rattle.std.proofs.Common.{map, subst}
use Rattle.std.proofs.lemmas.List.{at_drop_more, drop_all}
use Rattle.sqlite_catalog.specs.Change.{created}
use Rattle.mx_tables.specs.Made.{Blank, Makes}
use Rattle.mx_tables.proofs.CallLemmas.{steps_none, steps_as, steps_then}
use Rattle.mx_tables.proofs.MadeLemmas.{makes_next, makes_none, adds_blank}
use Rattle.mx_tables.proofs.making.make_each.Goals as goal

pub loop-sql-init : goal.loop-sql-init
loop-sql-init g c = steps_none g.S.Store _ tt (λ before after makes blank. (before, makes, blank))

pub loop-sql-preserved : goal.loop-sql-preserved
loop-sql-preserved g c = steps_as g.S.Store going (steps_then g.S.Store c.loop-sql.invariant c.in_ok-make.ensures) (λ both before after makes blank.
    let done = both.0 before after makes blank in
    let next = at_drop_more (λ all. all) c.args.texts.now c.loop-sql.sql-index (record { ref_ptr = (0, 0); now = [] }) c.loop-sql-test.true in
    let left = makes_next (subst (λ all. Makes done.0 (map (λ s. s.now) all) after) next done.1) in
    (created done.0 left.0, left.2, adds_blank done.0 left.0 _ _ done.2 (both.1 done.0 left.0 left.1 done.2.schema_is)))

pub returns : goal.returns
returns g c = steps_as g.S.Store (Ok tt) c.loop-sql.invariant (λ begun before after makes blank.
    let done = begun before after makes blank in
    let none = drop_all c.loop-sql.sql-index c.args.texts.now c.loop-sql-test.false in
    let same = makes_none (subst (λ all. Makes done.0 (map (λ s. s.now) all) after) none done.1) in
    subst (λ s. Blank s (state g.S.Store c.loop-sql.tx.conn.now)) same done.2)
