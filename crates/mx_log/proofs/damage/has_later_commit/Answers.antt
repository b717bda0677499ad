use Rattle.std.proofs.Common.{◌≡◌, ◌+◌, ◌-◌, ℕ, inl, inr, arith, subst}
use Rattle.std.proofs.lemmas.Bool.{cases_eq}
use Rattle.mx_log.specs.Damage.{Begins, IsWhole}
use Rattle.mx_log.proofs.DamageLemmas.{denied, stops_once, whole_at}
use Rattle.mx_log.proofs.damage.has_later_commit.Goals.{else-is_whole-via-then-is_whole+else-begins, else-is_whole-via-else-is_whole}
use Rattle.mx_log.proofs.damage.has_later_commit.Goals as goal

pub is_whole_from-is_whole-requires-clause-behind : goal.is_whole_from-is_whole-requires-clause-behind
is_whole_from-is_whole-requires-clause-behind c =
    whole_at _ c.args.size c.loop-next.next _ c.args.log.now (omega arith) c.loop-next.invariant.1

pub loop-next-preserved : goal.loop-next-preserved
loop-next-preserved c = (
  omega arith,
  c.is_whole_from-is_whole.ensures,
  λ behind later reached begins whole. elim (cases_eq (behind + 1) (c.loop-next.next - 1)) [
    | inl same ↦
        let here = subst (IsWhole c.args.size c.args.log.now) same whole in
        elim c.else-is_whole.branch [
          | else-is_whole-via-then-is_whole+else-begins w ↦
              let place : behind ≡ c.loop-next.next - 1 - 1 = omega arith in
              denied _ w.if-begins.false w.begins.ensures (subst (Begins c.args.size c.args.log.now c.find_stop-stop.result.broken) place begins)
          | else-is_whole-via-else-is_whole w ↦
              denied _ w.if-is_whole.false c.is_whole_from-is_whole.ensures here
        ]
    | inr other ↦ c.loop-next.invariant.2 behind later (omega arith) begins whole
  ],
)

pub returns : goal.returns
returns c =
    let place = c.find_stop-stop.result.broken in (
      λ no'. absurd (let no : ⊥ = cc in no),
      λ there.
          let one = stops_once c.args.size there.broken place c.args.log.now there.stops c.find_stop-stop.ensures.stops in
          let From : ℕ → Type 0 = λ broken. Begins c.args.size c.args.log.now broken there.behind in
          let later = there.later in
          absurd (c.loop-next.invariant.2 there.behind (omega arith) (omega arith) (subst From one there.begins) there.whole),
    )
