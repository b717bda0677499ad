use Rattle.std.proofs.Common.{◌≡◌, ◌++◌, length, string_bytes, ap, ◌∙◌, arith, codes}
use Rattle.mx_wire.specs.Replies.{head_text}
use Rattle.mx_wire.proofs.ReplyLemmas.{parts-joined, head_added}
use Rattle.mx_wire.proofs.replies.respond.Goals as goal

head_is : (c : goal.In_ok-push_str-4) → string_bytes c.push_str-3.new.self ≡ head_text (codes "200 OK") (length c.args.body.now)
head_is c = head_added _ _ _ _ _ _ c.format.ensures.text c.in_ok-text.ensures.bytes c.in_ok-push_str.ensures.bytes c.in_ok-push_str-2.ensures.bytes c.in_ok-push_str-3.ensures.bytes

pub returns : goal.returns
returns c =
    parts-joined _ _ _ _
    (c.in_ok-push_str-4.ensures.bytes ∙ ap (λ head. head ++ c.args.body.now) (head_is c))
    (let size = c.push_str-3.new.self.bytes.ok.0 in let same = head_is c in omega (arith, c.len-head_len.ensures, size, ap length same))
