use Rattle.std.proofs.Common.{◌≡◌, ◌<◌, ℕ, Some, sym, ◌∙◌, arith}
use Rattle.std.specs.Prelude.{slice_get}
use Rattle.mx_pay.specs.Details.{Details, details_cmp}
use Rattle.mx_pay.specs.Log.{logged, log_len}
use Rattle.mx_pay.specs.Names.{name_cmp}
use Rattle.mx_pay.proofs.CodeLemmas.{no_gap}
use Rattle.mx_book.specs.World.{result_cmp}
use Rattle.mx_sorted.specs.Slots.{map_of}
use Rattle.mx_book.specs.RowTotals.{lost_by}
use Rattle.mx_book.proofs.LogLemmas.{sum_next, sum_all}
use Rattle.mx_memory.proofs.totals.lost_in_log.Goals as goal
use Rattle.mx_memory.proofs.totals.lost_in_log.Goals.{in-Some, in_default}

pub loop-place-preserved : goal.loop-place-preserved
loop-place-preserved c =
    let f : Details → ℕ = lost_by (map_of name_cmp c.args.purses.now) (map_of result_cmp c.args.archive.now) (map_of details_cmp c.args.settled.now) c.args.purse in
    elim c.match-at.branch [
      | in-Some w ↦
          let at : slice_get (logged c.args.log.now) c.loop-place.place ≡ Some w.in-Some.details = sym c.at.ensures.value ∙ w.in-Some.is in
          let more = sum_next f c.args.log.now c.loop-place.place w.in-Some.details at in
          record {
            upto = c.loop-place.invariant.upto;
            limit = c.loop-place.invariant.limit;
            sum = omega (arith, w.sum-is, c.loop-place.invariant.sum, w.lost_by.ensures.value, more);
            few = omega (arith, w.sum-is, c.loop-place.invariant.few, w.lost_by.ensures.limit);
          }
      | in_default w ↦
          let low : c.loop-place.place < log_len c.args.log.now = omega (arith, c.loop-place-test.true, c.loop-place.invariant.upto) in
          absurd (no_gap c.args.log.now c.loop-place.place low (sym c.at.ensures.value ∙ w.in_default.is))
    ]

pub returns-clause-value : goal.returns-clause-value
returns-clause-value c =
    c.loop-place.invariant.sum
    ∙ sum_all (lost_by (map_of name_cmp c.args.purses.now) (map_of result_cmp c.args.archive.now) (map_of details_cmp c.args.settled.now) c.args.purse) c.args.log.now c.loop-place.place (omega (arith, c.loop-place-test.false, c.loop-place.invariant.upto))
