-- What members owe and own.
use Rattle.std.specs.Prelude.{◌≡◌, ℕ, ◌+◌, Bool, if◌then◌else◌, Option, Some, None, sum_by}
use Rattle.std.specs.FinMap as fmap
use Rattle.mx_book.specs.declared.values.MemberRow.{MemberRow}
use Rattle.mx_book.specs.declared.values.MemberTotals.{MemberTotals}
use Rattle.mx_book.specs.Sums.{sum_values, sum_entries}
use Rattle.mx_book.specs.World.{World, Row, Name}
use Rattle.mx_book.specs.Reads.{uncollected_row}
use Rattle.mx_book.specs.Totals.{issued_row, members_totals_of, redeemed_row, sums_of, totals_of}

-- ---- one member

-- float, what isn't collected, and what was issued to the member's purses are what was granted and redeemed
abbrev pub IsMemberBalanced : World → Name → MemberRow → Type 0
IsMemberBalanced w m row = let sums = sums_of w m row in (sums.float + sums.uncollected) + sums.issued ≡ sums.granted + sums.redeemed

-- ---- any choice of members

-- whether the member of a holder, if there is one, is chosen
abbrev pub is_chosen : (Name → Bool) → Option Name → Bool
is_chosen chosen None = Bool.false
is_chosen chosen (Some m) = chosen m

-- the sum of a number of each chosen member, and of each purse of the chosen members' holders
abbrev pub of_members : World → (Name → Bool) → (MemberRow → ℕ) → ℕ
of_members w chosen f = sum_entries (λ m row. if chosen m then f row else 0) w.members

abbrev pub of_purses : World → (Name → Bool) → (Row → ℕ) → ℕ
of_purses w chosen f = sum_values (λ r. if is_chosen chosen (fmap.get w.holders r.holder) then f r else 0) w.rows

-- the same equation for the chosen members together; with all of them chosen it is the scheme's
abbrev pub AreBalanced : World → (Name → Bool) → Type 0
AreBalanced w chosen =
    (of_members w chosen (λ row. row.float) + of_purses w chosen uncollected_row) + of_purses w chosen issued_row
    ≡ of_members w chosen (λ row. row.granted) + of_purses w chosen redeemed_row

-- the equation of every choice of members, and of each member
pub record IsBalanced (w : World) : Type 0 where
  pub chosen : (chosen : Name → Bool) → AreBalanced w chosen
  pub each : (m : Name) (row : MemberRow) → fmap.get w.members m ≡ Some row → IsMemberBalanced w m row

-- ---- all members

-- what a number of each member comes to
abbrev pub over_members : World → (MemberTotals → ℕ) → ℕ
over_members w f = sum_by (λ (e : Name × MemberTotals). f e.1) (members_totals_of w)

-- the sums of the members come to those of the scheme
pub record AreTogether (w : World) : Type 0 where
  pub granted : over_members w (λ sums. sums.granted) ≡ (totals_of w).granted
  pub float : over_members w (λ sums. sums.float) ≡ (totals_of w).float
  pub uncollected : over_members w (λ sums. sums.uncollected) ≡ (totals_of w).uncollected
  pub issued : over_members w (λ sums. sums.issued) ≡ (totals_of w).issued
  pub redeemed : over_members w (λ sums. sums.redeemed) ≡ (totals_of w).redeemed
  pub balances : over_members w (λ sums. sums.balances) ≡ (totals_of w).balances
