use Rattle.std.proofs.Common.{◌≡◌, ◌++◌, drop}
use Rattle.std.specs.Prelude.{string_bytes, map}
use Rattle.mx_wire.specs.Replies.{after_commas, line_text}
use Rattle.mx_wire.proofs.replies.push_more_lines.Given as goal

abbrev pub invariant-loop-line : goal.invariant-loop-line
invariant-loop-line l = string_bytes l.text ++ after_commas (map line_text (drop l.line-index l.lines)) ≡ string_bytes l.fn.text ++ after_commas (map line_text l.lines)
