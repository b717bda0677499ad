use Rattle.std.proofs.Common.{◌≡◌, ◌<◌, length, refl, arith}
use Rattle.std.proofs.lemmas.Option.{slice_get_read}
use Rattle.std.specs.Vec.{vec_len}
use Rattle.mx_sorted.proofs.BlockLemmas.{split_rows, split_used}
use Rattle.mx_sorted.proofs.blocks.split.Goals as goal

pub returns-clause-rows : goal.returns-clause-rows
returns-clause-rows g c =
    let lt : c.args.at < length c.args.blocks.now.items = let ok : vec_len c.args.blocks.now ≡ length c.args.blocks.now.items = c.args.blocks.now.ok.0 in omega (arith, ok, c.requires.within) in
    split_rows c.args.blocks.now.items c.args.at c.index_mut.result.now lt c.index_mut.ensures.value c.insert_within.new.xs.items c.move_half.new.lower c.move_half.new.upper c.insert_within.ensures.items c.move_half.ensures.items

pub returns-clause-sound : goal.returns-clause-sound
returns-clause-sound g c =
    let lt : c.args.at < length c.args.blocks.now.items = let ok : vec_len c.args.blocks.now ≡ length c.args.blocks.now.items = c.args.blocks.now.ok.0 in omega (arith, ok, c.requires.within) in
    let full = c.requires.full.full c.index_mut.result.now (slice_get_read c.args.blocks.now.items (length c.args.blocks.now.items) c.args.at c.index_mut.result.now refl lt c.index_mut.ensures.value) in
    let room = c.requires.full.room in
    let few = c.requires.full.few in
    record {
      used = split_used c.args.blocks.now.items c.args.at c.index_mut.result.now lt c.index_mut.ensures.value c.insert_within.new.xs.items c.move_half.new.lower c.move_half.new.upper c.insert_within.ensures.items
          c.requires.full.left
          (record { some = omega (arith, c.move_half.ensures.lower_len); few = omega (arith, c.move_half.ensures.lower_len); room = omega (arith, c.move_half.ensures.lower_capacity, full.1) })
          (record { some = omega (arith, c.move_half.ensures.upper_len); few = omega (arith, c.move_half.ensures.upper_len); room = omega (arith, c.move_half.ensures.upper_capacity, c.take_spare-upper.ensures.room) })
          c.requires.full.right;
      spare = c.take_spare-upper.ensures.spare;
      room = omega (arith, room, c.insert_within.ensures.len, c.insert_within.ensures.capacity, c.take_spare-upper.ensures.len);
      few = omega (arith, few, c.insert_within.ensures.len, c.take_spare-upper.ensures.len);
    }
