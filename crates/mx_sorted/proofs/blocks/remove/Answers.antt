use Rattle.std.proofs.Common.{◌≡◌, ◌≢◌, [], sym, ◌∙◌, ap, arith}
use borrow.Author.Tests.{eqb-true, eqb-false}
use Rattle.std.proofs.lemmas.List.{nil_from_length}
use Rattle.std.specs.Vec.{vec_len, vec_capacity}
use Rattle.mx_sorted.proofs.BlockLemmas.{sorted_block, used_at, same_block, written, rows_without, rows_gone, used_gone, AreUsed-set}
use Rattle.mx_sorted.proofs.blocks.remove.Goals as goal

pub remove_row-requires : goal.remove_row-requires
remove_row-requires g c =
    let at = same_block c.deref.ensures.value c.find_block-at.ensures in
    sorted_block g.K.Ord.cmp c.args.blocks.now.items c.find_block-at.result c.index_mut.result.now at.within c.index_mut.ensures.value c.requires.sorted

pub give_back-requires-clause-room : goal.give_back-requires-clause-room
give_back-requires-clause-room g c =
    let at = same_block c.deref.ensures.value c.find_block-at.ensures in
    let old = used_at c.args.blocks.now.items c.find_block-at.result c.index_mut.result.now at.within c.index_mut.ensures.value c.requires.sound.used in
    let same : vec_capacity c.remove-block.result ≡ vec_capacity c.remove_row.new.rows = ap (λ v. vec_capacity v) (written c.args.blocks.now.items c.find_block-at.result c.remove_row.new.rows at.within c.remove-block.result c.remove-block.ensures.value) in
    omega (arith, old.room, same, c.remove_row.ensures.capacity)

pub returns-then-is_empty-2-clause-rows : goal.returns-then-is_empty-2-clause-rows
returns-then-is_empty-2-clause-rows g c =
    let at = same_block c.deref.ensures.value c.find_block-at.ensures in
    let same : vec_len c.index.result.now ≡ vec_len c.remove_row.new.rows = ap (λ v. vec_len v) (written c.args.blocks.now.items c.find_block-at.result c.remove_row.new.rows at.within c.index.result.now c.index.ensures) in
    let zero : vec_len c.index.result.now ≡ 0 = eqb-true _ _ (sym c.is_empty-2.ensures ∙ c.if-is_empty-2.true) in
    let none : c.remove_row.new.rows.items ≡ [] = nil_from_length c.remove_row.new.rows.items (sym c.remove_row.new.rows.ok.0 ∙ sym same ∙ zero) in
    rows_gone c.args.blocks.now.items c.find_block-at.result c.index_mut.result.now c.remove_row.new.rows at.within c.index_mut.ensures.value c.remove-block.new.self.items c.remove-block.ensures.by_index.2 none
    ∙ rows_without g.K.Ord.cmp c.args.blocks.now.items c.find_block-at.result c.index_mut.result.now c.remove_row.new.rows c.index_mut.ensures.value c.args.key at c.remove_row.ensures.items

pub returns-then-is_empty-2-clause-sound : goal.returns-then-is_empty-2-clause-sound
returns-then-is_empty-2-clause-sound g c =
    let at = same_block c.deref.ensures.value c.find_block-at.ensures in
    let room = c.requires.sound.room in
    let few = c.requires.sound.few in
    record {
      used = used_gone c.args.blocks.now.items c.find_block-at.result c.index_mut.result.now c.remove_row.new.rows at.within c.index_mut.ensures.value c.remove-block.new.self.items c.remove-block.ensures.by_index.2 c.requires.sound.used;
      spare = c.give_back.ensures.spare;
      room = omega (arith, room, c.remove-block.ensures.len, c.remove-block.ensures.capacity, c.give_back.ensures.one);
      few = omega (arith, few, c.remove-block.ensures.len, c.give_back.ensures.one);
    }

pub join_few-requires-clause-sound : goal.join_few-requires-clause-sound
join_few-requires-clause-sound g c =
    let bs = c.args.blocks.now.items in
    let i = c.find_block-at.result in
    let at = same_block c.deref.ensures.value c.find_block-at.ensures in
    let b = c.index_mut.result.now in
    let is = c.index_mut.ensures.value in
    let old = used_at bs i b at.within is c.requires.sound.used in
    let same : vec_len c.index.result.now ≡ vec_len c.remove_row.new.rows = ap (λ v. vec_len v) (written bs i c.remove_row.new.rows at.within c.index.result.now c.index.ensures) in
    let some : vec_len c.index.result.now ≢ 0 = eqb-false _ _ (sym c.is_empty-2.ensures ∙ c.if-is_empty-2.false) in
    record {
      used = AreUsed-set bs i b at.within is c.remove_row.new.rows c.requires.sound.used
          (record { some = omega (arith, same, some); few = omega (arith, old.few, c.remove_row.ensures.fewer); room = omega (arith, old.room, c.remove_row.ensures.capacity) });
      spare = c.requires.sound.spare;
      room = c.requires.sound.room;
      few = c.requires.sound.few;
    }

pub returns-else-is_empty-2-clause-rows : goal.returns-else-is_empty-2-clause-rows
returns-else-is_empty-2-clause-rows g c =
    let at = same_block c.deref.ensures.value c.find_block-at.ensures in
    c.join_few.ensures.rows ∙ rows_without g.K.Ord.cmp c.args.blocks.now.items c.find_block-at.result c.index_mut.result.now c.remove_row.new.rows c.index_mut.ensures.value c.args.key at c.remove_row.ensures.items
