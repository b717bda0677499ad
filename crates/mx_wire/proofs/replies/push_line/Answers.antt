use Rattle.mx_wire.proofs.ReplyLemmas.{line_added}
use Rattle.mx_wire.proofs.replies.push_line.Goals as goal

pub returns : goal.returns
returns c =
    line_added _ _ _ _ _ _ _ _ _ _ _ c.args.line.now c.kind_text.ensures c.get.ensures.value
    c.in_ok-push_number.ensures c.in_ok-push_number-2.ensures c.in_ok-push_str.ensures.bytes c.in_ok-push_str-2.ensures.bytes
    c.in_ok-push_str-3.ensures.bytes c.in_ok-push_note.ensures c.in_ok-push_number-3.ensures c.in_ok-push_str-4.ensures.bytes
