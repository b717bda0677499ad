use Rattle.std.proofs.Common.{◌≡◌, ◌<◌, true, false, Some, is_some, sym, ◌∙◌, ap, arith}
use Rattle.std.specs.Prelude.{slice_get}
use Rattle.std.specs.FinMap.{contains_key}
use Rattle.mx_pay.specs.Log.{Entries, logged, log_len, has_logged}
use Rattle.mx_pay.specs.Limits.{most_entries}
use Rattle.mx_pay.specs.Details.{Details}
use Rattle.mx_pay.proofs.CodeLemmas.{no_gap}
use Rattle.mx_pay.proofs.SameLemmas.{has-none_logged, len-none_logged}
use Rattle.mx_book.specs.World.{result_cmp}
use Rattle.mx_sorted.specs.Slots.{map_of}
use Rattle.mx_book.proofs.LogLemmas.{added, there_still, has_added, len_added, laid_more, laid_same, laid_all}
use Rattle.mx_memory.proofs.results.laid.Goals as goal
use Rattle.mx_memory.proofs.results.laid.Goals.{in-Some+then-is_some, in-Some+else-is_some, in_default}

pub loop-place-init : goal.loop-place-init
loop-place-init c = record {
  upto = c.len-place-end.ensures.value;
  few = omega (arith, ap log_len c.new-results.ensures, len-none_logged);
  laid = λ d. ap (λ log. has_logged log d) c.new-results.ensures ∙ has-none_logged d;
}

pub loop-place-preserved : goal.loop-place-preserved
loop-place-preserved c =
    elim c.match-at.branch [
      | in-Some+then-is_some w ↦
          let d : Details = w.in-Some.details in
          let old : Entries = c.loop-place.results in
          let at : slice_get (logged c.args.log.now) c.loop-place.place ≡ Some d = sym c.at.ensures.value ∙ w.in-Some.is in
          let lies : contains_key (map_of result_cmp c.args.tray.now) (c.args.purse, d) ≡ true = ap is_some (sym w.get.ensures) ∙ there_still _ w.get.result ∙ sym w.is_some.ensures ∙ w.if-is_some.true in
          let new : c.match-at.results ≡ added old d w.add.result = w.results-is ∙ w.add.ensures.new in
          let room : log_len old < most_entries = omega (arith, c.loop-place.invariant.few, c.loop-place-test.true, c.len-place-end.ensures.limit) in
          record {
            upto = c.loop-place.invariant.upto;
            few = omega (arith, ap log_len new, len_added old d w.add.result w.add.ensures.answer, c.loop-place.invariant.few);
            laid = laid_more c.args.log.now old c.loop-place.place d (λ e. contains_key (map_of result_cmp c.args.tray.now) (c.args.purse, e)) at c.loop-place.invariant.laid lies c.match-at.results
                (λ e. ap (λ log. has_logged log e) (new ∙ ap (added old d) w.add.ensures.answer) ∙ has_added old d room e);
          }
      | in-Some+else-is_some w ↦
          let d : Details = w.in-Some.details in
          let at : slice_get (logged c.args.log.now) c.loop-place.place ≡ Some d = sym c.at.ensures.value ∙ w.in-Some.is in
          let lies : contains_key (map_of result_cmp c.args.tray.now) (c.args.purse, d) ≡ false = ap is_some (sym w.get.ensures) ∙ there_still _ w.get.result ∙ sym w.is_some.ensures ∙ w.if-is_some.false in
          record {
            upto = c.loop-place.invariant.upto;
            few = omega (arith, ap log_len w.results-is, c.loop-place.invariant.few);
            laid = λ e. ap (λ log. has_logged log e) w.results-is
                ∙ laid_same c.args.log.now c.loop-place.results c.loop-place.place d (λ x. contains_key (map_of result_cmp c.args.tray.now) (c.args.purse, x)) at c.loop-place.invariant.laid lies e;
          }
      | in_default w ↦
          let low : c.loop-place.place < log_len c.args.log.now = omega (arith, c.loop-place-test.true, c.loop-place.invariant.upto) in
          absurd (no_gap c.args.log.now c.loop-place.place low (sym c.at.ensures.value ∙ w.in_default.is))
    ]

pub returns : goal.returns
returns c = laid_all c.args.log.now c.loop-place.results c.loop-place.place (λ d. contains_key (map_of result_cmp c.args.tray.now) (c.args.purse, d)) (omega (arith, c.loop-place-test.false, c.loop-place.invariant.upto)) c.loop-place.invariant.laid
