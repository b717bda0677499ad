use Rattle.mx_tables.proofs.Common.{◌<◌, ◌≤◌, ◌∙◌, AllByRecursion, arith, length, refl, rules}
use Rattle.std.proofs.Common.{sym, subst}
use Rattle.std.specs.Prelude.{◌^◌}
use Rattle.mx_tables.specs.Counted.{IsAdded, row_adds}
use Rattle.mx_tables.proofs.AddedLemmas.{added_shown, adds_accepted}
use Rattle.mx_tables.proofs.CallLemmas.{asks_as, asks_fault, asks_next, asks_ok, asks_wrong, reads_none, reads_then, reads_to}
use Rattle.mx_tables.proofs.CountedSums.{sum_more, adds_query, sum_is, sum_all_rows}
use Rattle.mx_tables.proofs.MapLists.{all_at}
use Rattle.mx_tables.proofs.sums.sum_of.Goals as goal

pub ask-requires : goal.ask-requires
ask-requires g c = rw c.text.ensures (adds_query c.args.adds.now)

pub loop-row-init : goal.loop-row-init
loop-row-init g c = (reads_none g.S.Store c.in_ok-rows.ensures.asks.reads.live (λ r holds purses entries. refl), omega arith)

pub loop-row-preserved : goal.loop-row-preserved
loop-row-preserved g c =
    let within : c.loop-row.row-index < length c.deref-row-items.result.now = search rules in
    let before = c.loop-row.invariant.0 in (
      reads_to g.S.Store (reads_then g.S.Store before (c.in_ok-row_adds.ensures.asks before.live).reads) (λ r holds both purses entries.
          sum_more (row_adds r c.args.adds.now) c.deref-row-items.result.now c.loop-row.row-index c.row-item.result c.loop-row.sum c.in_ok-row_adds.field-0 c.in_ok-sum.sum within c.row-item.is
          (both.0 purses entries) (both.1 purses entries) c.in_ok-sum.ensures.is),
      omega (arith, c.loop-row.invariant.1, c.in_ok-row_adds.ensures.small, c.in_ok-sum.ensures.is),
    )

pub returns-in_err-rows-clause-asks : goal.returns-in_err-rows-clause-asks
returns-in_err-rows-clause-asks g c = asks_fault g.S.Store (asks_as g.S.Store c.in_err-rows.ensures.asks (λ r holds it. rw c.text.ensures (adds_accepted c.args.adds.now _))) c.from_residual.ensures.1

pub returns-in_err-row_adds-clause-asks : goal.returns-in_err-row_adds-clause-asks
returns-in_err-row_adds-clause-asks g c =
    let within : c.loop-row.row-index < length c.deref-row-items.result.now = search rules in
    let before = c.loop-row.invariant.0 in
    asks_fault g.S.Store (asks_next g.S.Store (reads_then g.S.Store c.in_ok-rows.ensures.asks.reads before) (c.in_err-row_adds.ensures.asks before.live) (λ r holds it both.
    let all = added_shown r it.0 it.1 c.args.adds.now _ _ _ (rw c.text.ensures at both.0) holds in (
      it,
      all_at (IsAdded r c.args.adds.now) c.deref-row-items.result.now c.loop-row.row-index c.row-item.result within c.row-item.is
          (subst (AllByRecursion (IsAdded r c.args.adds.now)) (sym c.deref-row-items.ensures.value) all),
    ))) c.from_residual-in_err-row_adds.ensures.1

pub returns-in_err-sum-clause-asks : goal.returns-in_err-sum-clause-asks
returns-in_err-sum-clause-asks g c =
    let within : c.loop-row.row-index < length c.deref-row-items.result.now = search rules in
    let few : length c.deref-row-items.result.now < 2 ^ 64 = search rules in
    let before = c.loop-row.invariant.0 in
    asks_wrong g.S.Store (reads_then g.S.Store (reads_then g.S.Store c.in_ok-rows.ensures.asks.reads before) (c.in_ok-row_adds.ensures.asks before.live).reads) c.from_residual-in_err-sum.ensures.0 (λ r holds it all.
    absurd (let ok = c.in_err-sum.ensures.fits (omega (arith, c.loop-row.invariant.1, c.in_ok-row_adds.ensures.small, within, few)) in cc))

pub returns-clause-asks : goal.returns-clause-asks
returns-clause-asks g c =
    let past : length c.deref-row-items.result.now ≤ c.loop-row.row-index = search rules in
    asks_ok g.S.Store (reads_to g.S.Store (reads_then g.S.Store c.in_ok-rows.ensures.asks.reads c.loop-row.invariant.0) (λ r holds both purses entries.
    sum_all_rows (row_adds r c.args.adds.now) c.loop-row.row-index c.deref-row-items.result.now _ c.loop-row.sum past c.deref-row-items.ensures.value (both.1 purses entries)
    ∙ sum_is r c.args.adds.now _ _ _ (rw c.text.ensures at both.0) holds purses entries))
