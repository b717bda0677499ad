use Rattle.std.proofs.Common.{◌↔◌, take, length-take, inl, inr, arith, ◌∙◌, sym, Bool, IsTrue, List, ℕ}
use Rattle.std.proofs.lemmas.Bool.{not-true, false≢true}
use Rattle.sqlite_wal.specs.Format.{part, IsSigned}
use Rattle.sqlite_wal.specs.Recovery.{header}
use Rattle.mx_log.proofs.DamageLemmas.{denied, later_at}
use Rattle.mx_log.proofs.damage.is_damaged.Goals as goal

signed_test : (r : Bool) (log : List ℕ) → (IsTrue r ↔ IsSigned (take 32 log)) → (IsTrue r ↔ IsSigned (header log))
unfolding part
signed_test r log is = is

pub slice_bounds-is_signed-end : goal.slice_bounds-is_signed-end
slice_bounds-is_signed-end c = omega (arith, length-take 32 c.args.log.now)

pub is_signed-requires : goal.is_signed-requires
is_signed-requires c = omega (arith, length-take 32 c.args.log.now)

pub returns-then-is_signed : goal.returns-then-is_signed
returns-then-is_signed c =
    let signed = (signed_test _ c.args.log.now c.is_signed.ensures).0 c.if-is_signed.true in
    let later = later_at _ _ _ c.args.log.now c.number_at.ensures c.has_later_commit.ensures in (
      λ yes'. inr (signed, later.0 yes'),
      λ damaged. elim damaged [ inl lost ↦ absurd (lost.0 signed) | inr both ↦ later.1 both.1 ],
    )

pub returns-then-not-is_emptied : goal.returns-then-not-is_emptied
returns-then-not-is_emptied c =
    let unsigned = denied _ c.if-is_signed.false (signed_test _ c.args.log.now c.is_signed.ensures) in
    let full = denied _ c.if-not-is_emptied.true c.is_emptied.ensures in (
      λ yes'. inl (unsigned, full, c.has_frame.ensures.0 yes'),
      λ damaged. elim damaged [ inl lost ↦ c.has_frame.ensures.1 lost.2 | inr both ↦ absurd (unsigned both.0) ],
    )

pub returns-else-not-is_emptied : goal.returns-else-not-is_emptied
returns-else-not-is_emptied c =
    let unsigned = denied _ c.if-is_signed.false (signed_test _ c.args.log.now c.is_signed.ensures) in
    let emptied = c.is_emptied.ensures.0 c.if-not-is_emptied.false in (
      λ yes'. absurd (false≢true (sym (not-true _ yes') ∙ c.if-not-is_emptied.false)),
      λ damaged. absurd (elim damaged [ inl lost ↦ lost.1 emptied | inr both ↦ unsigned both.0 ]),
    )
