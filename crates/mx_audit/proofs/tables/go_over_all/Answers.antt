use Rattle.mx_tables.proofs.Common.{◌<◌, ◌≤◌, length, rules, refl, arith}
use Rattle.std.proofs.lemmas.List.{get_or_default}
use Rattle.mx_audit.specs.Audited.{GoesOverOne}
use Rattle.mx_audit.proofs.OverLemmas.{over_none, over_more, over_all, over_fault}
use Rattle.mx_audit.proofs.tables.go_over_all.Goals as goal

pub loop-source-init : goal.loop-source-init
loop-source-init g c = (over_none g.S.Store c.args.conn.now refl, λ first. absurd (omega (arith, first)))

pub loop-source-preserved : goal.loop-source-preserved
loop-source-preserved g c =
    let within : c.loop-source.source-index < length c.args.sources.now = search rules in (
      over_more g.S.Store GoesOverOne c.args.conn.now c.loop-source.conn c.go_over.new.conn c.args.sources.now c.loop-source.source-index _ c.args.audit.now c.loop-source.audit c.go_over.new.audit
          within (get_or_default c.args.sources.now c.loop-source.source-index _ _ within) c.loop-source.invariant.0 c.in_ok-go_over.ensures,
      λ first. c.in_ok-go_over.ensures.live,
    )

pub returns : goal.returns
returns g c =
    let past : length c.args.sources.now ≤ c.loop-source.source-index = search rules in
    over_all g.S.Store GoesOverOne c.args.conn.now c.loop-source.conn c.args.sources.now c.loop-source.source-index c.args.audit.now c.loop-source.audit past (c.loop-source.invariant.1 (let some = c.requires in omega (arith, some, past))) c.loop-source.invariant.0

pub returns-in_err-go_over : goal.returns-in_err-go_over
returns-in_err-go_over g c = over_fault g.S.Store c.args.conn.now c.loop-source.conn c.go_over.new.conn c.loop-source.invariant.0 c.go_over.ensures c.from_residual.ensures.0
