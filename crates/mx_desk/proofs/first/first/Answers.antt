use Rattle.std.proofs.Common.{sym, arith, length-append}
use Rattle.std.proofs.lemmas.Bool.{eqb-false}
use Rattle.mx_desk.specs.Requests.{no_head}
use Rattle.mx_desk.proofs.FirstLemmas.{none_so_far, too_many, too_long, ends_late}
use Rattle.mx_desk.proofs.first.first.Goals as goal

pub returns-then-head-gt-MAX_HEAD : goal.returns-then-head-gt-MAX_HEAD
returns-then-head-gt-MAX_HEAD c =
    let complete = c.in-Ok-Complete.ensures.complete in
    let at = rw c.in-Ok-Complete.field-0-is at complete in
    let len = at.1.len in
    let late = c.if-head-gt-MAX_HEAD.true in
    let some = eqb-false _ _ (sym c.if-is_empty.ensures) in
    λ more. no_head (simp length-append (omega arith)) (ends_late c.args.bytes.now more at.0 _ at.1.reads (omega (arith, len)))

pub returns-then-bytes-ge-MAX_HEAD : goal.returns-then-bytes-ge-MAX_HEAD
returns-then-bytes-ge-MAX_HEAD c =
    let partial = c.in-Ok-Partial.ensures.partial in
    let long = c.if-bytes-ge-MAX_HEAD.true in
    λ more. no_head (simp length-append (omega arith)) (too_long c.args.bytes.now more (rw c.in-Ok-Partial.field-0-is at partial) c.if-bytes-ge-MAX_HEAD.true)

pub returns-else-bytes-ge-MAX_HEAD : goal.returns-else-bytes-ge-MAX_HEAD
returns-else-bytes-ge-MAX_HEAD c =
    let partial = c.in-Ok-Partial.ensures.partial in
    let some = eqb-false _ _ (sym c.if-is_empty.ensures) in
    (no_head (omega arith) (none_so_far c.args.bytes.now (rw c.in-Ok-Partial.field-0-is at partial)), omega arith)

pub returns-in-Err : goal.returns-in-Err
returns-in-Err c =
    let no_room = c.in-Err.ensures.no_room in
    let some = eqb-false _ _ (sym c.if-is_empty.ensures) in
    λ more. no_head (simp length-append (omega arith)) (too_many c.args.bytes.now more (rw c.told-fields at no_room))
