use Rattle.std.proofs.Common.{◌+◌, ◌≤◌, arith, inl, inr}
use Rattle.std.proofs.lemmas.Bool.{ltb-true}
use Rattle.mx_log.proofs.DamageLemmas.{denied, number_fits}
use Rattle.mx_log.proofs.FrameLemmas.{in_before}
use Rattle.mx_log.proofs.damage.begins.Goals as goal

pub overflow_add-behind : goal.overflow_add-behind
overflow_add-behind c =
    omega (arith, number_fits c.args.size (c.args.behind + 1) c.args.log.now c.requires.within)

pub commits-requires : goal.commits-requires
commits-requires c =
    in_before c.args.size (c.args.behind + 1) c.args.behind c.args.log.now c.requires.within (omega arith)

pub returns-else-behind-stop : goal.returns-else-behind-stop
returns-else-behind-stop c =
    let past : c.args.stop.shut ≤ c.args.behind = c.if-behind-stop.false in (
      λ yes'. absurd (let low = ltb-true _ _ yes' in omega arith),
      λ begins. absurd (elim begins [
        | inl count ↦ denied _ c.if-counts.false c.counts.ensures count
        | inr both ↦ c.requires.open.shut_there (in_before c.args.size (c.args.behind + 1) c.args.stop.shut c.args.log.now c.requires.within (omega arith)) (both.1 c.args.stop.shut c.requires.open.order past)
      ]),
    )
