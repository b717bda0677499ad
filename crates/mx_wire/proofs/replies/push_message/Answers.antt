use Rattle.mx_wire.proofs.ReplyLemmas.{message_added}
use Rattle.mx_wire.proofs.replies.push_message.Goals as goal

pub returns : goal.returns
returns c =
    message_added _ _ _ _ _ _ _ _ _ c.args.message.now c.message_word.ensures
    c.in_ok-push_str.ensures.bytes c.in_ok-push_details.ensures c.in_ok-push_str-2.ensures.bytes
    c.in_ok-push_str-3.ensures.bytes c.in_ok-push_number.ensures c.in_ok-push_str-4.ensures.bytes
