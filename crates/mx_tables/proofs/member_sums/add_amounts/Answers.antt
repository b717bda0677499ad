use Rattle.mx_tables.proofs.Common.{◌<◌, ◌≤◌, ◌∙◌, AllByRecursion, arith, refl, length, rules, name_cmp}
use Rattle.std.proofs.Common.{ap, sym, subst}
use Rattle.std.specs.Prelude.{◌^◌}
use Rattle.mx_sorted.specs.Slots.{map_of}
use Rattle.mx_book.specs.declared.values.Scope.TheVariants.{Member, Scheme}
use Rattle.mx_tables.specs.Counted.{IsAdded, counted_row, sum_at}
use Rattle.mx_tables.specs.declared.sums.Adds.TheVariants.{Counted}
use Rattle.mx_tables.proofs.AddedLemmas.{added_shown, adds_accepted}
use Rattle.mx_tables.proofs.CallLemmas.{asks_as, asks_fault, asks_next, asks_ok, reads_none, reads_then, reads_to}
use Rattle.mx_tables.proofs.CountedSums.{sum_at_first, sum_more, amounts_query, amounts_summed, sum_all_rows}
use Rattle.mx_tables.proofs.MapLists.{all_at}
use Rattle.mx_tables.proofs.member_sums.add_amounts.Goals as goal

pub ask-requires : goal.ask-requires
ask-requires g c = rw c.text.ensures (amounts_query c.args.amounts)

pub loop-row-init : goal.loop-row-init
loop-row-init g c = (
  reads_none g.S.Store c.in_ok-rows.ensures.asks.reads.live (λ rows holds m. ap (λ sums. sum_at sums m) c.requires ∙ sum_at_first m),
  λ m. let none = ap (λ sums. sum_at sums m) c.requires ∙ sum_at_first m in omega (arith, none),
)

pub loop-row-preserved : goal.loop-row-preserved
loop-row-preserved g c =
    let within : c.loop-row.row-index < length c.deref-row-items.result.now = search rules in (
      reads_to g.S.Store (reads_then g.S.Store c.loop-row.invariant.0 c.in_ok-add_row.ensures.asks.reads) (λ rows holds both m.
          sum_more (counted_row rows.purses rows.holders (Member m)) c.deref-row-items.result.now c.loop-row.row-index c.row-item.result (sum_at (map_of name_cmp c.loop-row.sums) m) _ (sum_at (map_of name_cmp c.add_row.new.sums) m) within c.row-item.is
          (both.0 m) refl (both.1 m)),
      λ m. let it = c.in_ok-add_row.ensures.small _ c.loop-row.invariant.1 m in omega (arith, it),
    )

pub returns-in_err-rows : goal.returns-in_err-rows
returns-in_err-rows g c = asks_fault g.S.Store (asks_as g.S.Store c.in_err-rows.ensures.asks (λ r holds it. rw c.text.ensures (adds_accepted (Counted c.args.amounts Scheme) _))) c.from_residual.ensures.1

pub returns-in_err-add_row : goal.returns-in_err-add_row
returns-in_err-add_row g c =
    let within : c.loop-row.row-index < length c.deref-row-items.result.now = search rules in
    let few : length c.deref-row-items.result.now < 2 ^ 64 = search rules in
    let adds = Counted c.args.amounts Scheme in
    asks_fault g.S.Store (asks_next g.S.Store (reads_then g.S.Store c.in_ok-rows.ensures.asks.reads c.loop-row.invariant.0) c.in_err-add_row.ensures.asks (λ r holds it both.
    let all = added_shown r it.0 it.1 adds _ _ _ (rw c.text.ensures at both.0) holds in
    let row = all_at (IsAdded r adds) c.deref-row-items.result.now c.loop-row.row-index c.row-item.result within c.row-item.is (subst (AllByRecursion (IsAdded r adds)) (sym c.deref-row-items.ensures.value) all) in
    ((it, row), λ m. let low = c.loop-row.invariant.1 m in omega (arith, low, within, few)))) c.from_residual-in_err-add_row.ensures.1

pub returns : goal.returns
returns g c =
    let past : length c.deref-row-items.result.now ≤ c.loop-row.row-index = search rules in
    asks_ok g.S.Store (reads_to g.S.Store (reads_then g.S.Store c.in_ok-rows.ensures.asks.reads c.loop-row.invariant.0) (λ r holds both m.
    sum_all_rows (counted_row r.purses r.holders (Member m)) c.loop-row.row-index c.deref-row-items.result.now _ _ past c.deref-row-items.ensures.value (both.1 m)
    ∙ amounts_summed r (Member m) c.args.amounts _ _ _ (rw c.text.ensures at both.0) holds))
