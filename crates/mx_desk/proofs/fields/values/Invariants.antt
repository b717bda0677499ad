use Rattle.std.proofs.Common.{take}
use Rattle.std.specs.Prelude.{map}
use Rattle.httparse.specs.Spans.{header_bytes}
use Rattle.mx_desk.specs.Requests.{values_of}
use Rattle.mx_desk.specs.Fields.{IsOnly}
use Rattle.mx_desk.proofs.fields.values.Given as goal

abbrev pub invariant-loop-field : goal.invariant-loop-field
invariant-loop-field l = IsOnly l.found (values_of l.name (map (header_bytes l.bytes) (take l.field-index l.fields)))
