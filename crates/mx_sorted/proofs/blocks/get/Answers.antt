use Rattle.std.proofs.Common.{◌∙◌, sym, ap}
use Rattle.std.specs.FinMap.{find}
use Rattle.mx_sorted.proofs.BlockLemmas.{sorted_block, find_in}
use Rattle.mx_sorted.proofs.blocks.get.Goals as goal

pub value_of-requires : goal.value_of-requires
value_of-requires g c = rw c.deref.ensures.value (sorted_block g.K.Ord.cmp c.args.blocks.now c.find_block.result c.index-blocks-find_block.result c.find_block.ensures.within c.index-blocks-find_block.is c.requires.sorted)

pub returns : goal.returns
returns g c =
    c.value_of.ensures ∙ ap (find g.K.Ord.cmp c.args.key) c.deref.ensures.value
    ∙ sym (find_in g.K.Ord.cmp c.args.blocks.now c.find_block.result c.index-blocks-find_block.result c.find_block.ensures.within c.index-blocks-find_block.is c.args.key c.find_block.ensures)
