use Rattle.mx_tables.proofs.Common.{◌≡◌, ◌<◌, length, arith, rules}
use Rattle.std.proofs.lemmas.List.{same_lists}
use Rattle.mx_tables.proofs.same.same_items.Goals as goal

pub returns : goal.returns
returns g c _ =
    let size : length c.args.a.now ≡ length c.args.b.now = search rules in
    same_lists _ _ size (λ k d h. let low : k < c.loop-i.i = omega arith in c.loop-i.invariant k d low)
