use Rattle.std.proofs.Common.{Some, option_map, ◌||◌, sym, ◌∙◌, ap, arith}
use Rattle.std.specs.FinMap as fmap
use Rattle.mx_pay.specs.Names.{name_cmp}
use Rattle.mx_book.specs.declared.values.Redemption.{Redemption}
use Rattle.mx_memory.specs.Due.{due_cmp}
use Rattle.mx_sorted.specs.Slots.{map_of}
use Rattle.mx_book.specs.Under.{pair_cmp}
use Rattle.mx_memory.proofs.DueLemmas.{fewer, still_sub, still_other, made_more, all_gone, taken_all}
use Rattle.mx_memory.proofs.redemptions.collect.Goals as goal

pub loop-key-smaller : goal.loop-key-smaller
loop-key-smaller c =
    let first = map_of due_cmp c.args.due.now in
    let less = fewer first (map_of due_cmp c.loop-key.due) c.args.member c.in-Some.key c.in-Some.ensures in
    let same = ap (λ s. fmap.len s) c.remove.ensures.map in
    omega (arith, less, same)

pub loop-key-preserved : goal.loop-key-preserved
loop-key-preserved c =
    let first = map_of due_cmp c.args.due.now in
    let old = map_of due_cmp c.loop-key.due in
    let m = c.args.member in
    let key = c.in-Some.key in
    let kept = c.loop-key.invariant in
    record {
      sub = λ n q there. still_sub first old m key kept.sub n q (sym (ap (λ s. fmap.contains_key s (n, q)) c.remove.ensures.map) ∙ there);
      other = λ n q apart. ap (λ s. fmap.contains_key s (n, q)) c.remove.ensures.map ∙ still_other first old m key kept.other n q apart;
      made = made_more first old m key (map_of (pair_cmp name_cmp name_cmp) c.args.redemptions.now) (map_of (pair_cmp name_cmp name_cmp) c.loop-key.redemptions) _ _ c.collect_one.ensures.made kept.made c.in-Some.ensures (kept.sub m (Some key) c.in-Some.ensures) c.remove.ensures.map;
      due_room = omega (arith, kept.due_room, c.remove.ensures.room);
      room = omega (arith, kept.room, c.collect_one.ensures.room);
    }

pub returns-clause-gone : goal.returns-clause-gone
returns-clause-gone c = all_gone (map_of due_cmp c.args.due.now) (map_of due_cmp c.loop-key.due) c.args.member c.loop-key.invariant.sub c.loop-key.invariant.other (λ k. c.in_default.ensures k) c.requires.keys

pub returns-clause-made : goal.returns-clause-made
returns-clause-made c k =
    c.loop-key.invariant.made k
    ∙ ap (λ b. option_map (λ (x : Redemption). record x { collected = x.collected || b }) (fmap.get (map_of (pair_cmp name_cmp name_cmp) c.args.redemptions.now) k))
    (taken_all (fmap.contains_key (map_of due_cmp c.args.due.now) (c.args.member, Some k)) (fmap.contains_key (map_of due_cmp c.loop-key.due) (c.args.member, Some k)) (c.in_default.ensures k))
