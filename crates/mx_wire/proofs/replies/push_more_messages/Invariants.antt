use Rattle.std.proofs.Common.{◌≡◌, ◌++◌, drop}
use Rattle.std.specs.Prelude.{string_bytes, map}
use Rattle.mx_wire.specs.Replies.{after_commas, message_text}
use Rattle.mx_wire.proofs.replies.push_more_messages.Given as goal

abbrev pub invariant-loop-number : goal.invariant-loop-number
invariant-loop-number l = string_bytes l.text ++ after_commas (map message_text (drop l.number-index l.messages)) ≡ string_bytes l.fn.text ++ after_commas (map message_text l.messages)
