use Rattle.std.proofs.Common.{◌≡◌, ◌≤◌, ◌+◌, true, cond, is_some, length, sym, ◌∙◌, ap, arith}
use Rattle.std.specs.FinMap.{find}
use Rattle.std.specs.FinMap.Entries.{length-put}
use Rattle.std.specs.Vec.{vec_len, vec_capacity}
use Rattle.mx_sorted.proofs.BlockLemmas.{find_in, sorted_block, used_at, used_left, used_right, same_block, written, written_there, left_same, right_same, rows_put, AreUsed-set}
use Rattle.mx_sorted.proofs.blocks.put.Goals as goal

pub put_row-requires-clause-sorted : goal.put_row-requires-clause-sorted
put_row-requires-clause-sorted g c =
    let at = same_block c.deref.ensures.value c.find_block-at.ensures in
    sorted_block g.K.Ord.cmp c.args.blocks.now.items c.find_block-at.result c.index_mut.result.now at.within c.index_mut.ensures.value c.requires.sorted

pub put_row-requires-clause-room : goal.put_row-requires-clause-room
put_row-requires-clause-room g c =
    let at = same_block c.deref.ensures.value c.find_block-at.ensures in
    let old = used_at c.args.blocks.now.items c.find_block-at.result c.index_mut.result.now at.within c.index_mut.ensures.value c.requires.sound.used in
    omega (arith, old.few, old.room)

pub split-requires-clause-full : goal.split-requires-clause-full
split-requires-clause-full g c =
    let bs = c.args.blocks.now.items in
    let i = c.find_block-at.result in
    let at = same_block c.deref.ensures.value c.find_block-at.ensures in
    let old = used_at bs i c.index_mut.result.now at.within c.index_mut.ensures.value c.requires.sound.used in
    let same : vec_len c.index.result.now ≡ vec_len c.put_row.new.rows = ap (λ v. vec_len v) (written bs i c.put_row.new.rows at.within c.index.result.now c.index.ensures) in
    let full : vec_len c.put_row.new.rows ≡ 32 = sym same ∙ sym c.len.ensures ∙ c.if-len-eq-BLOCK.true in
    let room : 32 ≤ vec_capacity c.put_row.new.rows = omega (arith, old.room, c.put_row.ensures.capacity) in
    record {
      left = left_same bs i c.put_row.new.rows at.within (used_left bs i c.index_mut.result.now at.within c.index_mut.ensures.value c.requires.sound.used);
      full = λ d there. let e = written_there bs i c.put_row.new.rows at.within d there in (ap (λ v. vec_len v) (sym e) ∙ full, let f : vec_capacity c.put_row.new.rows ≡ vec_capacity d = ap (λ v. vec_capacity v) e in omega (arith, room, f));
      right = right_same bs i c.put_row.new.rows at.within (used_right bs i c.index_mut.result.now at.within c.index_mut.ensures.value c.requires.sound.used);
      spare = c.requires.sound.spare;
      room = c.requires.sound.room;
      few = c.requires.sound.few;
    }

pub returns-then-len-eq-BLOCK-clause-rows : goal.returns-then-len-eq-BLOCK-clause-rows
returns-then-len-eq-BLOCK-clause-rows g c =
    let at = same_block c.deref.ensures.value c.find_block-at.ensures in
    c.split.ensures.rows ∙ rows_put g.K.Ord.cmp c.args.blocks.now.items c.find_block-at.result c.index_mut.result.now c.put_row.new.rows c.index_mut.ensures.value c.args.key at c.args.value c.put_row.ensures.items

pub returns-else-len-eq-BLOCK-clause-rows : goal.returns-else-len-eq-BLOCK-clause-rows
returns-else-len-eq-BLOCK-clause-rows g c =
    let at = same_block c.deref.ensures.value c.find_block-at.ensures in
    rows_put g.K.Ord.cmp c.args.blocks.now.items c.find_block-at.result c.index_mut.result.now c.put_row.new.rows c.index_mut.ensures.value c.args.key at c.args.value c.put_row.ensures.items

pub returns-else-len-eq-BLOCK-clause-sound : goal.returns-else-len-eq-BLOCK-clause-sound
returns-else-len-eq-BLOCK-clause-sound g c =
    let bs = c.args.blocks.now.items in
    let i = c.find_block-at.result in
    let at = same_block c.deref.ensures.value c.find_block-at.ensures in
    let b = c.index_mut.result.now in
    let is = c.index_mut.ensures.value in
    let old = used_at bs i b at.within is c.requires.sound.used in
    let same : vec_len c.index.result.now ≡ vec_len c.put_row.new.rows = ap (λ v. vec_len v) (written bs i c.put_row.new.rows at.within c.index.result.now c.index.ensures) in
    let len : c.len.result ≡ vec_len c.put_row.new.rows = c.len.ensures ∙ same in
    record {
      used = AreUsed-set bs i b at.within is c.put_row.new.rows c.requires.sound.used
          (record { some = omega (arith, old.some, c.put_row.ensures.more); few = omega (arith, old.few, c.put_row.ensures.one, len, c.if-len-eq-BLOCK.false); room = omega (arith, old.room, c.put_row.ensures.capacity) });
      spare = c.requires.sound.spare;
      room = c.requires.sound.room;
      few = c.requires.sound.few;
    }

pub returns-then-len-eq-BLOCK-clause-kept : goal.returns-then-len-eq-BLOCK-clause-kept
returns-then-len-eq-BLOCK-clause-kept g c there =
    let bs = c.args.blocks.now.items in
    let i = c.find_block-at.result in
    let at = same_block c.deref.ensures.value c.find_block-at.ensures in
    let b = c.index_mut.result.now in
    let is = c.index_mut.ensures.value in
    let old = used_at bs i b at.within is c.requires.sound.used in
    let same : vec_len c.index.result.now ≡ vec_len c.put_row.new.rows = ap (λ v. vec_len v) (written bs i c.put_row.new.rows at.within c.index.result.now c.index.ensures) in
    let full : vec_len c.put_row.new.rows ≡ 32 = sym same ∙ sym c.len.ensures ∙ c.if-len-eq-BLOCK.true in
    let found : is_some (find g.K.Ord.cmp c.args.key b.items) ≡ true = ap is_some (sym (find_in g.K.Ord.cmp bs i b at.within is c.args.key at)) ∙ there in
    let made : length c.put_row.new.rows.items ≡ length b.items = ap length c.put_row.ensures.items ∙ length-put g.K.Ord.cmp g.met.K.Ord.total c.args.key c.args.value b.items (sorted_block g.K.Ord.cmp bs i b at.within is c.requires.sorted) ∙ ap (λ t. cond t (length b.items) (length b.items + 1)) found in
    let ok : vec_len b ≡ length b.items = b.ok.0 in
    let new : vec_len c.put_row.new.rows ≡ length c.put_row.new.rows.items = c.put_row.new.rows.ok.0 in
    absurd (omega (arith, full, made, ok, new, old.few))
