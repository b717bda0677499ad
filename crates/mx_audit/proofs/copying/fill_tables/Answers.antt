use Rattle.mx_tables.proofs.Common.{◌<◌, ◌≤◌, length, rules, refl, arith}
use Rattle.std.proofs.lemmas.List.{get_or_default}
use Rattle.mx_tables.specs.declared.making.Version.TheVariants.{Two}
use Rattle.mx_audit.specs.Copies.{FillsTable, IsAmong}
use Rattle.mx_audit.proofs.CopyLemmas.{all_got, lent_none, lent_then}
use Rattle.mx_audit.proofs.OverLemmas.{over_none, over_more, over_all, over_fault}
use Rattle.mx_audit.proofs.copying.fill_tables.Goals as goal

pub loop-source-init : goal.loop-source-init
loop-source-init g c = (λ version among. over_none g.S.Store c.args.conn.now refl, λ first. absurd (omega (arith, first)), lent_none g.T.Store)

pub loop-source-preserved : goal.loop-source-preserved
loop-source-preserved g c =
    let within : c.loop-source.source-index < length c.args.sources.now = search rules in
    let filled = c.in_ok-fill_table.ensures.fills in (
      λ version among.
          over_more g.S.Store (FillsTable g.T.Store) c.args.conn.now c.loop-source.conn c.fill_table.new.conn c.args.sources.now c.loop-source.source-index _ c.args.tx.now c.loop-source.tx c.fill_table.new.tx
          within (get_or_default c.args.sources.now c.loop-source.source-index _ _ within) (c.loop-source.invariant.0 version among)
          (filled version (all_got (IsAmong version) c.args.sources.now c.loop-source.source-index _ within among)),
      λ first. (filled Two tt).live,
      lent_then g.T.Store c.loop-source.invariant.2 c.fill_table.ensures.lent,
    )

pub returns-clause-fills : goal.returns-clause-fills
returns-clause-fills g c version among =
    let past : length c.args.sources.now ≤ c.loop-source.source-index = search rules in
    over_all g.S.Store (FillsTable g.T.Store) c.args.conn.now c.loop-source.conn c.args.sources.now c.loop-source.source-index c.args.tx.now c.loop-source.tx past
    (c.loop-source.invariant.1 (let some = c.requires in omega (arith, some, past))) (c.loop-source.invariant.0 version among)

pub returns-in_err-fill_table-clause-fills : goal.returns-in_err-fill_table-clause-fills
returns-in_err-fill_table-clause-fills g c version among =
    let within : c.loop-source.source-index < length c.args.sources.now = search rules in
    over_fault g.S.Store c.args.conn.now c.loop-source.conn c.fill_table.new.conn (c.loop-source.invariant.0 version among)
    (c.fill_table.ensures.fills version (all_got (IsAmong version) c.args.sources.now c.loop-source.source-index _ within among)) c.from_residual.ensures.0

pub returns-in_err-fill_table-clause-lent : goal.returns-in_err-fill_table-clause-lent
returns-in_err-fill_table-clause-lent g c = lent_then g.T.Store c.loop-source.invariant.2 c.fill_table.ensures.lent
