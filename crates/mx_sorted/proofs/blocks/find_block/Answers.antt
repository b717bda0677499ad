use Rattle.std.proofs.Common.{◌+◌, ◌-◌, ◌/◌, ◌<◌, length, arith, rules}
use Rattle.mx_sorted.proofs.BlockLemmas.{used_at, block_less, block_more}
use Rattle.mx_sorted.proofs.blocks.find_block.Goals as goal

pub index-requires : goal.index-requires
index-requires g c =
    let middle = c.loop-end.at + (c.loop-end.end - c.loop-end.at) / 2 in
    let lt : middle < length c.args.blocks.now = omega (arith, c.loop-end.invariant.within, c.loop-end-test.true) in
    (used_at c.args.blocks.now middle c.index-blocks-middle.result lt c.index-blocks-middle.is c.requires.used).some

pub loop-end-preserved-then-is_lt : goal.loop-end-preserved-then-is_lt
loop-end-preserved-then-is_lt g c =
    let middle = c.loop-end.at + (c.loop-end.end - c.loop-end.at) / 2 in
    let lt : middle < length c.args.blocks.now = omega (arith, c.loop-end.invariant.within, c.loop-end-test.true) in
    record {
      order = omega (arith, c.loop-end-test.true);
      within = omega (arith, lt);
      after = c.loop-end.invariant.after;
      before = block_less g.met.K.Ord.total c.args.key c.args.blocks.now c.requires.sorted middle c.index-blocks-middle.result lt c.index-blocks-middle.is c.requires.used c.index.result.now (search rules) (search rules);
    }

pub loop-end-preserved : goal.loop-end-preserved
loop-end-preserved g c =
    let middle = c.loop-end.at + (c.loop-end.end - c.loop-end.at) / 2 in
    let lt : middle < length c.args.blocks.now = omega (arith, c.loop-end.invariant.within, c.loop-end-test.true) in
    record {
      order = omega (arith, c.loop-end-test.true);
      within = c.loop-end.invariant.within;
      after = block_more g.met.K.Ord.total c.args.key c.args.blocks.now c.requires.sorted middle c.index-blocks-middle.result lt c.index-blocks-middle.is c.requires.used c.index.result.now (search rules) (search rules);
      before = c.loop-end.invariant.before;
    }
