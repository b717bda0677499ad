use Rattle.std.proofs.Common.{◌<◌, ◌≤◌, ◌∙◌, sym, ap, arith}
use Rattle.std.specs.Prelude.{string_bytes}
use Rattle.mx_pay.specs.Log.{log_len}
use Rattle.mx_pay.proofs.CodeLemmas.{text_step, text_end, no_gap}
use Rattle.mx_pay.proofs.codes.code_text.Goals as goal
use Rattle.mx_pay.proofs.codes.code_text.Goals.{in-Some+in_ok-push_at, in_default}

pub loop-place-preserved : goal.loop-place-preserved
loop-place-preserved c =
    elim c.match-at.branch [
      | in-Some+in_ok-push_at w ↦ record {
        upto = c.loop-place.invariant.upto;
        text = text_step c.loop-place.place (string_bytes c.loop-place.text) (string_bytes c.match-at.text) c.args.log.now w.in-Some.details (sym c.at.ensures.value ∙ w.in-Some.is) (ap string_bytes w.text-is ∙ w.in_ok-push_at.ensures) c.loop-place.invariant.text;
      }
      | in_default w ↦
          let low : c.loop-place.place < log_len c.args.log.now = omega (arith, c.loop-place-test.true, c.loop-place.invariant.upto) in
          absurd (no_gap c.args.log.now c.loop-place.place low (sym c.at.ensures.value ∙ w.in_default.is))
    ]

pub returns-clause-text : goal.returns-clause-text
returns-clause-text c =
    let past : log_len c.args.log.now ≤ c.loop-place.place = omega (arith, c.loop-place-test.false, c.loop-place.invariant.upto) in
    text_end (string_bytes c.loop-place.text) c.args.log.now c.loop-place.place past c.loop-place.invariant.text
