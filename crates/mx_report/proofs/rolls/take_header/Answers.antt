use Rattle.std.proofs.Common.{[], None}
use Rattle.csv.specs.Records.{fields_of}
use Rattle.mx_report.proofs.ReadingLemmas.{given_more, other_header, none_left, no_header}
use Rattle.mx_report.proofs.rolls.take_header.Goals as goal

pub returns-then-is_roll_header-clause-ok : goal.returns-then-is_roll_header-clause-ok
returns-then-is_roll_header-clause-ok c = λ text begun.
    let steps = rw (c.in-Some-Ok.is, c.in-Some-Ok.field-0-is) at (c.next.ensures.steps begun.left begun.trim) in
    let given = given_more text [] None c.args.records.now c.next.new.self begun c.in-Some-Ok.record (steps.0 begun.ready) steps.3 in
    rw (c.is_roll_header.ensures.yes c.if-is_roll_header.true) at given

pub returns-in-Some-Ok-clause-err : goal.returns-in-Some-Ok-clause-err
returns-in-Some-Ok-clause-err c = λ text begun.
    let steps = rw (c.in-Some-Ok.is, c.in-Some-Ok.field-0-is) at (c.next.ensures.steps begun.left begun.trim) in
    let given = given_more text [] None c.args.records.now c.next.new.self begun c.in-Some-Ok.record (steps.0 begun.ready) steps.3 in
    (λ is. cc, λ is. other_header text (fields_of c.in-Some-Ok.record) c.next.new.self given (c.is_roll_header.ensures.no c.if-is_roll_header.false))

pub returns-clause-err : goal.returns-clause-err
returns-clause-err c = λ text begun.
    let steps = rw c.in-None.is at (c.next.ensures.steps begun.left begun.trim) in
    (λ is. cc, λ is. no_header text c.args.records.now begun (none_left text [] None c.args.records.now c.next.new.self begun (steps.0 begun.ready)))
