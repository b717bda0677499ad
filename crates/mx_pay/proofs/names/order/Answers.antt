use Rattle.std.proofs.Common.{◌∙◌, arith, nat_cmp}
use Rattle.std.proofs.lemmas.Bool.Decides.{nat_tests}
use Rattle.mx_pay.proofs.OrderLemmas.{by_first, by_second, by_third}
use Rattle.mx_pay.proofs.names.order.Goals as goal

pub returns-then-first-other : goal.returns-then-first-other
returns-then-first-other c =
    by_first c.args.a.now c.args.b.now c.told-a c.told-b c.fits-a c.fits-b _ _ c.word-first.ensures c.word-other.ensures _
    c.cmp.ensures (λ e. grind (arith, nat_tests, e, c.if-first-other.true))

pub returns-then-second-other : goal.returns-then-second-other
returns-then-second-other c =
    by_second c.args.a.now c.args.b.now c.told-a c.told-b c.fits-a c.fits-b _ _ c.word-first.ensures c.word-other.ensures
    (grind (arith, nat_tests, c.if-first-other.false)) _ _ c.word-second.ensures c.word-other-2.ensures _
    c.cmp-then-second-other.ensures (λ e. grind (arith, nat_tests, e, c.if-second-other.true))

pub returns : goal.returns
returns c =
    by_third c.args.a.now c.args.b.now c.told-a c.told-b c.fits-a c.fits-b _ _ c.word-first.ensures c.word-other.ensures
    (grind (arith, nat_tests, c.if-first-other.false)) _ _ c.word-second.ensures c.word-other-2.ensures (grind (arith, nat_tests, c.if-second-other.false)) _
    (c.cmp-2.ensures ∙ (λ i. nat_cmp (c.word.ensures i) (c.word-2.ensures i)))
