use Rattle.std.proofs.Common.{◌≡◌, drop, ◌∙◌, sym, ap}
use Rattle.mx_sorted.specs.Blocks.{rows_from}
use Rattle.mx_sorted.proofs.BlockLemmas.{sorted_block, from_parts, from_few}
use Rattle.mx_sorted.proofs.blocks.from.Goals as goal
use Rattle.mx_sorted.proofs.blocks.from.Goals.{in-At, in-At-2}

pub find_place-requires : goal.find_place-requires
find_place-requires g c = rw c.deref-block.ensures.value (sorted_block g.K.Ord.cmp c.args.blocks.now c.find_block-at.result c.index-blocks-at.result c.find_block-at.ensures.within c.index-blocks-at.is c.requires.sorted)

pub invariant_of-result : goal.invariant_of-result
invariant_of-result g c =
    let from_is : rows_from g.K.Ord.cmp c.args.key c.deref-block.result.now ≡ drop c.match-find_place.i c.deref-block.result.now = elim c.match-find_place.branch [ in-At w ↦ w.in-At.ensures.from_is ∙ ap (λ n. drop n c.deref-block.result.now) (sym w.i-is) | in-At-2 w ↦ w.in-At.ensures.from_is ∙ ap (λ n. drop n c.deref-block.result.now) (sym w.i-is) ] in
    record { few = from_few g.K.Ord.cmp c.args.blocks.now c.find_block-at.result c.index-blocks-at.result c.find_block-at.ensures.within c.index-blocks-at.is c.args.key c.find_block-at.ensures c.deref-block.result.now c.match-find_place.i c.deref-block.ensures.value from_is c.requires.few }

pub returns : goal.returns
returns g c =
    let from_is : rows_from g.K.Ord.cmp c.args.key c.deref-block.result.now ≡ drop c.match-find_place.i c.deref-block.result.now = elim c.match-find_place.branch [ in-At w ↦ w.in-At.ensures.from_is ∙ ap (λ n. drop n c.deref-block.result.now) (sym w.i-is) | in-At-2 w ↦ w.in-At.ensures.from_is ∙ ap (λ n. drop n c.deref-block.result.now) (sym w.i-is) ] in
    from_parts g.K.Ord.cmp c.args.blocks.now c.find_block-at.result c.index-blocks-at.result c.find_block-at.ensures.within c.index-blocks-at.is c.args.key c.find_block-at.ensures c.deref-block.result.now c.match-find_place.i c.deref-block.ensures.value from_is
