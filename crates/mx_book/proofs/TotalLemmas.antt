-- What the books come to: rows and World give the same.
use Rattle.std.proofs.Common.{◌≡◌}
use Rattle.std.specs.Prelude.{map, option_map}
use Rattle.std.specs.FinMap as fmap
use Rattle.mx_book.specs.declared.values.Scope.TheVariants.{Scheme, Member}
use Rattle.mx_book.specs.declared.values.MemberRow.{MemberRow}
use Rattle.mx_book.specs.World.{Name}
use Rattle.mx_book.specs.Conditions.{IsWorld}
use Rattle.mx_book.specs.Rows.{Rows, world_of, IsProper}
use Rattle.mx_book.specs.Totals.{totals_of, sums_of, member_totals_of, members_totals_of}
use Rattle.mx_book.specs.RowTotals.{row_totals_of, row_sums_of, row_member_totals_of, row_members_totals_of}
use Rattle.mx_book.proofs.CountedLemmas.{issued_is, redeemed_is, uncollected_is, balances_are}
use Rattle.mx_book.proofs.BetweenLemmas.{transit_is, lost_is}

module _ (r : Rows) (h : IsProper r) where
  pub totals_are : IsWorld (world_of r) → totals_of (world_of r) ≡ row_totals_of r
  totals_are sound = λ i. record (row_totals_of r) {
    uncollected = uncollected_is r Scheme h i;
    issued = issued_is r Scheme h i;
    redeemed = redeemed_is r Scheme h i;
    balances = balances_are r Scheme i;
    transit = transit_is r sound i;
    lost = lost_is r i;
  }

  sums_are : (m : Name) (row : MemberRow) → sums_of (world_of r) m row ≡ row_sums_of r m row
  sums_are m row = λ i. record (row_sums_of r m row) {
    uncollected = uncollected_is r (Member m) h i;
    issued = issued_is r (Member m) h i;
    redeemed = redeemed_is r (Member m) h i;
    balances = balances_are r (Member m) i;
  }

  pub member_totals_are : (m : Name) → member_totals_of (world_of r) m ≡ row_member_totals_of r m
  member_totals_are m = λ i. option_map (λ row. sums_are m row i) (fmap.get r.members m)

  pub members_totals_are : members_totals_of (world_of r) ≡ row_members_totals_of r
  members_totals_are = λ i. map (λ (e : Name × MemberRow). (e.0, sums_are e.0 e.1 i)) (fmap.entries r.members)
