use Rattle.std.proofs.Common.{take, true, false}
use Rattle.std.proofs.lemmas.List.{append-nil}
use Rattle.std.specs.Prelude.{map}
use Rattle.httparse.specs.Spans.{header_bytes}
use Rattle.mx_desk.specs.Requests.{values_of}
use Rattle.mx_desk.proofs.FieldLemmas.{values_step, named}
use Rattle.mx_desk.proofs.fields.values.Goals.{then-eq_ignore_ascii_case, else-eq_ignore_ascii_case}
use Rattle.mx_desk.proofs.fields.values.Goals as goal

pub loop-field-preserved : goal.loop-field-preserved
loop-field-preserved c =
    let old = values_of c.args.name.now (map (header_bytes c.args.bytes.now) (take c.loop-field.field-index c.args.fields.now)) in
    let test = named c.eq_ignore_ascii_case.result c.of.result.now c.args.name.now c.eq_ignore_ascii_case.ensures.test in
    let step = values_step c.args.name.now c.args.bytes.now c.args.fields.now c.loop-field.field-index in
    let span = c.of.ensures in
    elim c.if-eq_ignore_ascii_case.branch [
      | then-eq_ignore_ascii_case w ↦
          let value = w.of-then-eq_ignore_ascii_case.ensures in
          let next = w.one_more-found.ensures old c.loop-field.invariant in
          rw w.found-is (step true _ c.loop-field-test.true (rw (span, w.if-eq_ignore_ascii_case.true) at test) (rw value at next))
      | else-eq_ignore_ascii_case w ↦
          let same = c.loop-field.invariant in
          rw w.found-is (step false _ c.loop-field-test.true (rw (span, w.if-eq_ignore_ascii_case.false) at test) (rw (append-nil old) same))
    ]
