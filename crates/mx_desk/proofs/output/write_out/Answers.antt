use Rattle.std.proofs.Common.{arith, length-drop, ◌∙◌}
use Rattle.std.proofs.Math.Seq.{take-add}
use Rattle.std.proofs.lemmas.List.{take_rest}
use Rattle.std.proofs.KnownBytes.{Appends-trans}
use Rattle.mx_desk.proofs.output.write_out.Goals as goal

pub loop-at-preserved : goal.loop-at-preserved
loop-at-preserved g c =
    let took = c.in-Ok.ensures.bytes in
    let bound = rw (take_rest c.args.text.now c.loop-at.at, length-drop) at c.in-Ok.ensures.bound in
    record {
      within = omega (arith, bound);
      sent = rw take-add (Appends-trans _ _ _ _ _ c.loop-at.invariant.sent (rw take_rest at took));
      failures = c.in-Ok.ensures.ok c.in-Ok.count-test.1 ∙ c.loop-at.invariant.failures;
    }
