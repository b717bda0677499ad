use Rattle.std.proofs.Common.{◌≡◌, ◌+◌, ◌-◌, ◌≤◌, ◌++◌, [], length, drop, refl, sym, ap, ◌∙◌, arith}
use Rattle.mx_wire.specs.Routes.{method_of}
use Rattle.mx_desk.specs.Requests.{fields_of}
use Rattle.mx_desk.proofs.FirstLemmas.{head_at, whole_found, cut_at, refused_at}
use Rattle.mx_desk.proofs.FieldLemmas.{framing_small}
use Rattle.mx_desk.proofs.first.after_head.Goals as goal

pub returns-in-Err : goal.returns-in-Err
returns-in-Err c =
    let h = c.requires.at.0 in
    let at = c.requires.at.1 in
    let few = c.requires.within.section.count_fits in
    let framed = c.in-Err.ensures in
    λ more. rw (c.of-method.ensures, c.of.ensures, at.method) (
    refused_at (c.args.bytes.now ++ more) h (drop c.args.head.now.len c.args.bytes.now ++ more) c.in-Err.reason
    (head_at c.args.bytes.now more c.args.fields.now c.args.head.now h at c.requires.short (omega (arith, c.requires.few)))
    (sym (rw at.fields at framed)))

pub returns-then-bytes-head : goal.returns-then-bytes-head
returns-then-bytes-head c =
    let h = c.requires.at.0 in
    let at = c.requires.at.1 in
    let few = c.requires.within.section.count_fits in
    let framed = c.in-Ok.ensures in
    let frames = sym (rw at.fields at framed) in
    let small = framing_small (fields_of h) c.in-Ok.len frames in (
      rw (c.of-method.ensures, c.of.ensures, at.method) (
          cut_at c.args.bytes.now h c.args.head.now.len c.in-Ok.len
          (head_at c.args.bytes.now [] c.args.fields.now c.args.head.now h at c.requires.short (omega (arith, c.requires.few)))
          frames
          c.if-bytes-head.true),
      omega (arith, c.requires.short, c.if-bytes-head.true),
    )

pub returns : goal.returns
returns c =
    let h = c.requires.at.0 in
    let at = c.requires.at.1 in
    let few = c.requires.within.section.count_fits in
    let inside = c.requires.within.section.len_fits in
    let framed = c.in-Ok.ensures in
    let frames = sym (rw at.fields at framed) in
    let within : c.args.head.now.len + c.in-Ok.len ≤ length c.args.bytes.now = omega (arith, c.if-bytes-head.false) in
    let token = c.token.ensures in
    let length_is : c.args.head.now.len + c.in-Ok.len - c.args.head.now.len ≡ c.in-Ok.len = omega arith in (
      within,
      λ more. whole_found c.args.bytes.now more h c.args.head.now.len c.in-Ok.len _
          (head_at c.args.bytes.now more c.args.fields.now c.args.head.now h at c.requires.short (omega (arith, c.requires.few)))
          frames
          within
          (c.of-method.ensures ∙ ap method_of (c.of.ensures ∙ at.method))
          (c.of-2.ensures ∙ at.path)
          (rw at.fields at token)
          (rw length_is refl),
    )
