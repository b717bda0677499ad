use Rattle.std.proofs.Common.{◌≡◌, ◌++◌, drop}
use Rattle.std.specs.Prelude.{string_bytes, map}
use Rattle.mx_wire.specs.Replies.{after_commas, quoted}
use Rattle.mx_wire.proofs.replies.push_more_names.Given as goal

abbrev pub invariant-loop-name : goal.invariant-loop-name
invariant-loop-name l = string_bytes l.text ++ after_commas (map quoted (drop l.name-index l.names)) ≡ string_bytes l.fn.text ++ after_commas (map quoted l.names)
