use Rattle.std.proofs.Common.{◌≡◌, ◌<◌, length, arith, ◌∷◌, ◌++◌, None, Some, suc, take, drop, ap, ◌∙◌, sym}
use Rattle.std.proofs.lemmas.List.{set_split}
use Rattle.std.proofs.Math.Seq.{drop-cons}
use Rattle.mx_pay.specs.Places.{put_in}
use Rattle.mx_pay.proofs.log.insert_into.Goals as goal

pub returns-in-None : goal.returns-in-None
returns-in-None c =
    let es = c.loop-slot.entries in
    let i = c.loop-slot.slot-index in
    let lt : i < length es = omega arith in
    let cons : drop i es ≡ None ∷ drop (suc i) es = drop-cons es i c.slot-item.result lt ∙ ap (λ x. x ∷ drop (suc i) es) c.in-None.is in
    set_split es i (Some c.loop-slot.carried) lt ∙ sym (ap (λ ys. take i es ++ put_in c.loop-slot.carried ys) cons) ∙ c.loop-slot.invariant
