use Rattle.mx_memory.specs.Shelves.{rows_of}
use Rattle.mx_book.proofs.Opening.{opening_spelled, opening_own}
use Rattle.mx_memory.proofs.plain_book.PlainBook.new.Goals as goal

pub invariant_of-result : goal.invariant_of-result
invariant_of-result c = record { spelled = opening_own c.args.operator (rows_of c.new.result) c.as_bytes-bytes.ensures.valid c.new.ensures }

pub returns : goal.returns
returns c = rw c.new.ensures (opening_spelled c.args.operator c.as_bytes-bytes.ensures.valid)
