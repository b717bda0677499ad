-- The sums of the members come to those of the scheme, since each purse is of one member.
use Rattle.std.proofs.Common.{◌≡◌, ℕ, cond, refl, sym, ◌∙◌, ap, Option, Some, None, IsSome}
use Rattle.std.specs.FinMap as fmap
use Rattle.mx_pay.specs.Names.{name_cmp, is_name}
use Rattle.mx_pay.proofs.SameLemmas.{names_turned}
use Rattle.mx_book.specs.Conditions.{IsWorld}
use Rattle.mx_book.specs.Sums.{sum_values}
use Rattle.mx_book.specs.Totals.{balance_row, issued_row, members_totals_of, of_all, of_member, redeemed_row, sums_of}
use Rattle.mx_book.specs.Reads.{uncollected_row}
use Rattle.mx_book.specs.World.{World, Row, Name, is_of, is_of_member}
use Rattle.mx_book.specs.declared.values.MemberRow.{MemberRow}
use Rattle.mx_book.specs.declared.values.MemberTotals.{MemberTotals}
use Rattle.mx_book.proofs.NameLemmas.{names_total, names_exact}
use Rattle.mx_book.proofs.SumLemmas.{value_of, total, total_is, total_same, total_map, total_swap, total_entries, total_key}
use Rattle.mx_office.specs.Balance.{AreTogether, over_members}
use Rattle.mx_office.specs.Reachable.{IsReachable}
use Rattle.mx_office.proofs.StepLemmas.{reachable_world}

one_found : {X : Type 0} (o : Option X) → IsSome o → (x : X) × (o ≡ Some x)
one_found None h = absurd (cc)
one_found (Some x) h = (x, refl)

-- a number of the one member of that name, among all members
one_member : (members : fmap.FinMap name_cmp MemberRow) (m : Name) (n : ℕ) (found : Option Name) → found ≡ Some m → IsSome (fmap.get members m)
    → total (λ (e : Name × MemberRow). cond (is_of e.0 found) n 0) (fmap.entries members) ≡ n
one_member members m n found is at =
    let row = one_found (fmap.get members m) at in
    total_same (λ (e : Name × MemberRow). cond (is_of e.0 found) n 0) (λ e. cond (is_name m e.0) n 0) (fmap.entries members)
    (λ e. ap (λ o. cond (is_of e.0 o) n 0) is ∙ ap (λ b. cond b n 0) (names_turned e.0 m))
    ∙ total_key names_total names_exact (λ (q : Name) (x : MemberRow). n) m members ∙ ap (value_of (λ (x : MemberRow). n)) row.1

module _ (w : World) (is : IsWorld w) (f : Row → ℕ) where
  -- what a purse adds to the sum of a member
  abbrev adds : Name × MemberRow → Name × Row → ℕ
  adds e x = cond (is_of_member w e.0 x.1) (f x.1) 0

  each_purse : (p : Name) (r : Row) → fmap.get w.rows p ≡ Some r → total (λ e. adds e (p, r)) (fmap.entries w.members) ≡ f r
  each_purse p r at =
      let member = one_found (fmap.get w.holders r.holder) (is.purses.each p r at).holder in
      one_member w.members member.0 (f r) (fmap.get w.holders r.holder) member.1 (is.members.holders r.holder member.0 member.1).1

  purses_together : total (λ (e : Name × MemberRow). of_member w e.0 f) (fmap.entries w.members) ≡ of_all w f
  unfolding sum_values
  purses_together =
      total_same (λ e. of_member w e.0 f) (λ e. total (adds e) (fmap.entries w.rows)) (fmap.entries w.members) (λ e. total_is (adds e) (fmap.entries w.rows))
      ∙ total_swap adds (fmap.entries w.members) (fmap.entries w.rows)
      ∙ total_entries names_total (λ p r. total (λ e. adds e (p, r)) (fmap.entries w.members)) (λ p r. f r) w.rows each_purse
      ∙ sym (total_is (λ (x : Name × Row). f x.1) (fmap.entries w.rows))

-- a number of each member, from the members' rows
over_rows : (w : World) (f : MemberTotals → ℕ) → over_members w f ≡ total (λ (e : Name × MemberRow). f (sums_of w e.0 e.1)) (fmap.entries w.members)
over_rows w f =
    total_is (λ (e : Name × MemberTotals). f e.1) (members_totals_of w)
    ∙ total_map (λ (e : Name × MemberTotals). f e.1) (λ (e : Name × MemberRow). (e.0, sums_of w e.0 e.1)) (fmap.entries w.members)

of_rows : (w : World) (f : MemberRow → ℕ) → total (λ (e : Name × MemberRow). f e.1) (fmap.entries w.members) ≡ sum_values f w.members
unfolding sum_values
of_rows w f = sym (total_is (λ (e : Name × MemberRow). f e.1) (fmap.entries w.members))

pub are_together : (w : World) → IsWorld w → AreTogether w
are_together w is = record {
  granted = over_rows w (λ sums. sums.granted) ∙ of_rows w (λ row. row.granted);
  float = over_rows w (λ sums. sums.float) ∙ of_rows w (λ row. row.float);
  uncollected = over_rows w (λ sums. sums.uncollected) ∙ purses_together w is uncollected_row;
  issued = over_rows w (λ sums. sums.issued) ∙ purses_together w is issued_row;
  redeemed = over_rows w (λ sums. sums.redeemed) ∙ purses_together w is redeemed_row;
  balances = over_rows w (λ sums. sums.balances) ∙ purses_together w is balance_row;
}

pub reachable_together : (w : World) → IsReachable w → AreTogether w
reachable_together w is = are_together w (reachable_world w is)
