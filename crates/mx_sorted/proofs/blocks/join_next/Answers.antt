use Rattle.std.proofs.Common.{◌≡◌, ◌+◌, ◌<◌, length, ap, arith}
use Rattle.std.specs.Vec.{vec_len}
use Rattle.mx_sorted.proofs.BlockLemmas.{used_at, same_read, lower_is, joined_rows, joined_used}
use Rattle.mx_sorted.proofs.blocks.join_next.Goals as goal

pub move_all-requires : goal.move_all-requires
move_all-requires g c =
    let bs = c.args.blocks.now.items in
    let cs = c.remove-upper.new.self.items in
    let i = c.args.at in
    let b = c.index_mut.result.now in
    let u = c.remove-upper.result in
    let next = c.remove-upper.ensures.value in
    let out = c.remove-upper.ensures.by_index.2 in
    let here = c.index_mut.ensures.value in
    let ok : vec_len c.args.blocks.now ≡ length bs = c.args.blocks.now.ok.0 in
    let lt : i + 1 < length bs = omega (arith, ok, c.requires.within, c.len.ensures, c.if-next-len.false) in
    let is = lower_is bs cs i b u lt next out here in
    let old = used_at bs i b (omega arith) is c.requires.sound.used in
    let lower : vec_len c.index.result.now ≡ vec_len b = ap (λ v. vec_len v) (same_read bs i _ b (omega arith) c.index.ensures is) in
    let upper : vec_len c.index-2.result.now ≡ vec_len u = ap (λ v. vec_len v) (same_read bs (i + 1) _ u lt c.index-2.ensures next) in
    omega (arith, old.room, lower, upper, c.len-2.ensures, c.len-3.ensures, c.if-rows-ge-BLOCK.false)

pub give_back-requires-clause-room : goal.give_back-requires-clause-room
give_back-requires-clause-room g c =
    let bs = c.args.blocks.now.items in
    let ok : vec_len c.args.blocks.now ≡ length bs = c.args.blocks.now.ok.0 in
    let lt : c.args.at + 1 < length bs = omega (arith, ok, c.requires.within, c.len.ensures, c.if-next-len.false) in
    let upper = used_at bs (c.args.at + 1) c.remove-upper.result lt c.remove-upper.ensures.value c.requires.sound.used in
    omega (arith, upper.room, c.move_all.ensures.upper_capacity)

pub returns-clause-rows : goal.returns-clause-rows
returns-clause-rows g c =
    let bs = c.args.blocks.now.items in
    let ok : vec_len c.args.blocks.now ≡ length bs = c.args.blocks.now.ok.0 in
    let lt : c.args.at + 1 < length bs = omega (arith, ok, c.requires.within, c.len.ensures, c.if-next-len.false) in
    joined_rows bs c.remove-upper.new.self.items c.args.at c.index_mut.result.now c.remove-upper.result lt c.remove-upper.ensures.value c.remove-upper.ensures.by_index.2 c.index_mut.ensures.value c.move_all.new.lower c.move_all.ensures.items

pub returns-clause-sound : goal.returns-clause-sound
returns-clause-sound g c =
    let bs = c.args.blocks.now.items in
    let cs = c.remove-upper.new.self.items in
    let i = c.args.at in
    let b = c.index_mut.result.now in
    let u = c.remove-upper.result in
    let next = c.remove-upper.ensures.value in
    let out = c.remove-upper.ensures.by_index.2 in
    let here = c.index_mut.ensures.value in
    let ok : vec_len c.args.blocks.now ≡ length bs = c.args.blocks.now.ok.0 in
    let lt : i + 1 < length bs = omega (arith, ok, c.requires.within, c.len.ensures, c.if-next-len.false) in
    let is = lower_is bs cs i b u lt next out here in
    let old = used_at bs i b (omega arith) is c.requires.sound.used in
    let lower : vec_len c.index.result.now ≡ vec_len b = ap (λ v. vec_len v) (same_read bs i _ b (omega arith) c.index.ensures is) in
    let upper : vec_len c.index-2.result.now ≡ vec_len u = ap (λ v. vec_len v) (same_read bs (i + 1) _ u lt c.index-2.ensures next) in
    let room = c.requires.sound.room in
    let few = c.requires.sound.few in
    record {
      used = joined_used bs cs i b u lt next out here c.move_all.new.lower c.requires.sound.used (record {
        some = omega (arith, old.some, c.move_all.ensures.len);
        few = omega (arith, lower, upper, c.move_all.ensures.len, c.len-2.ensures, c.len-3.ensures, c.if-rows-ge-BLOCK.false);
        room = omega (arith, old.room, c.move_all.ensures.lower_capacity);
      });
      spare = c.give_back.ensures.spare;
      room = omega (arith, room, c.remove-upper.ensures.len, c.remove-upper.ensures.capacity, c.give_back.ensures.one);
      few = omega (arith, few, c.remove-upper.ensures.len, c.give_back.ensures.one);
    }
