use Rattle.std.proofs.Common.{◌≡◌, ℕ, ◌+◌, ◌-◌, ◌/◌, ◌<◌, length, drop, sym, subst, arith, rules}
use Rattle.mx_sorted.specs.Place.{IsBefore}
use Rattle.mx_sorted.proofs.PlaceLemmas.{search_less, search_equal, search_greater, ahead_from}
use Rattle.mx_sorted.proofs.blocks.find_place.Goals as goal

pub loop-low-preserved-in-Less : goal.loop-low-preserved-in-Less
loop-low-preserved-in-Less g c =
    let middle = c.loop-low.low + (c.loop-low.high - c.loop-low.low) / 2 in
    let lt : middle < length c.args.rows.now = omega (arith, c.loop-low.invariant.within, c.loop-low-test.true) in
    record {
      order = omega arith;
      within = omega arith;
      after = c.loop-low.invariant.after;
      before = search_less g.met.K.Ord.total c.args.key c.args.rows.now c.requires middle c.index-rows-middle.result lt (search rules);
    }

pub loop-low-preserved : goal.loop-low-preserved
loop-low-preserved g c =
    let middle = c.loop-low.low + (c.loop-low.high - c.loop-low.low) / 2 in
    let lt : middle < length c.args.rows.now = omega (arith, c.loop-low.invariant.within, c.loop-low-test.true) in
    record {
      order = omega (arith, c.loop-low-test.true);
      within = c.loop-low.invariant.within;
      after = search_greater g.met.K.Ord.total c.args.key c.args.rows.now c.requires middle c.index-rows-middle.result lt (search rules);
      before = c.loop-low.invariant.before;
    }

pub returns-in-Equal : goal.returns-in-Equal
returns-in-Equal g c =
    let middle = c.loop-low.low + (c.loop-low.high - c.loop-low.low) / 2 in
    let lt : middle < length c.args.rows.now = omega (arith, c.loop-low.invariant.within, c.loop-low-test.true) in
    search_equal g.met.K.Ord.total c.args.key c.args.rows.now c.requires middle c.index-rows-middle.result lt (search rules)

pub returns : goal.returns
returns g c =
    let same : c.loop-low.low ≡ c.loop-low.high = omega (arith, c.loop-low.invariant.order, c.loop-low-test.false) in
    ahead_from g.K.Ord.cmp c.args.key c.args.rows.now c.loop-low.low (omega (arith, c.loop-low.invariant.order, c.loop-low.invariant.within)) c.loop-low.invariant.after
    (subst (λ (n : ℕ). IsBefore g.K.Ord.cmp c.args.key (drop n c.args.rows.now)) (sym same) c.loop-low.invariant.before)
