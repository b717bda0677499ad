use Rattle.std.proofs.Common.{append_assoc, rules}
use Rattle.mx_wire.specs.Replies.{shown_text}
use Rattle.mx_wire.proofs.replies.shown_text.Goals as goal

pub returns : goal.returns
unfolding shown_text
returns c = simp append_assoc (search rules)
