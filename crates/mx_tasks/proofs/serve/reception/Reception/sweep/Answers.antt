use Rattle.std.proofs.Common.{◌≡◌, ◌<◌, Option, arith, length, refl, sym, ◌∙◌}
use Rattle.std.proofs.Math.ListN.{length-set}
use Rattle.std.proofs.lemmas.List.Elements.{AllWithin-more_set, at_read}
use Rattle.std.specs.Prelude.{IfSome, None, false}
use Rattle.mx_tasks.specs.Halls.{Always}
use Rattle.mx_tasks.specs.Seats.{is_over}
use Rattle.mx_tasks.specs.declared.serve.seat.Seat.{Seat}
use Rattle.mx_tasks.proofs.HallLemmas.{tends_none, tends_then, within_more}
use Rattle.mx_tasks.proofs.serve.reception.Reception.sweep.Goals as goal
use Rattle.mx_tasks.proofs.serve.reception.Reception.sweep.Goals.{then-is_over, else-is_over, in-None, in-Some}

pub places-init : goal.places-init
places-init g c = record {
  tends = tends_none g.S.Connection.received g.S.Connection.written _;
  in_time = λ k d low high. absurd (omega (arith, high));
  long = refl;
  quiet = refl;
}

pub places-preserved : goal.places-preserved
places-preserved g c =
    let r = g.S.Connection.received in
    let w = g.S.Connection.written in
    let had = c.places.invariant in
    let InTime = λ (p : Option (Seat g.row.S.Denot)). IfSome p (λ seat. is_over c.args.now seat ≡ false) in
    let len = c.len-place-end.ensures in
    let before = c.places-test.true in
    let long = had.long in
    let inside : c.places.place < length c.places.self.places.items = omega (arith, len, before, long) in
    elim c.if-is_over.branch [
      | then-is_over b ↦
          let places = b.clear.ensures.places in
          rw b.self-is (record {
            tends = tends_then r w Always 0 0 had.tends b.clear.ensures.tends (λ xs was so. (tt, tt)) (omega arith);
            in_time = rw places (AllWithin-more_set c.places.self.places.items c.places.place None inside InTime had.in_time tt);
            long = rw places (length-set c.places.self.places.items c.places.place None ∙ long);
            quiet = b.clear.ensures.quiet ∙ had.quiet;
          })
      | else-is_over b ↦
          let here : InTime c.index.result.now = elim c.match-index.branch [
            | in-Some s ↦ rw s.in-Some.is (sym s.is_over-is_over.ensures ∙ sym s.is_over-is ∙ b.if-is_over.false)
            | in-None s ↦ rw s.in-None.is tt
          ] in
          rw b.self-is (record {
            tends = had.tends;
            in_time = within_more InTime c.places.self.places.items c.places.place had.in_time (at_read c.places.self.places.items InTime c.places.place c.index.result.now inside c.index.ensures here);
            long = long;
            quiet = had.quiet;
          })
    ]
