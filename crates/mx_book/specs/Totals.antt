-- What the books of a World come to.
use Rattle.std.specs.Prelude.{ℕ, ◌&&◌, ◌||◌, not, Bool, if◌then◌else◌, List, ◌++◌, flat_map, map, sum_by, Option, option_map}
use Rattle.std.specs.FinMap as fmap
use Rattle.mx_pay.specs.Details.{Details}
use Rattle.mx_pay.specs.Log.{Entries, has_logged, logged, marks}
use Rattle.mx_purse.specs.Operations.{aborted, expects_val, expects_ack}
use Rattle.mx_book.specs.declared.values.MemberRow.{MemberRow}
use Rattle.mx_book.specs.declared.values.MemberTotals.{MemberTotals}
use Rattle.mx_book.specs.declared.values.Totals.{Totals}
use Rattle.mx_book.specs.Sums.{sum_values}
use Rattle.mx_book.specs.World.{World, Row, Name, is_of_member}
use Rattle.mx_book.specs.Conditions.{all_granted}
use Rattle.mx_book.specs.Reads.{of_purse, is_archived, is_settled, uncollected_row}

-- ---- value between purses (PRG-126: the schema AuxWorld)

-- whether details are in the log of the purse of that name, or archived for it
abbrev pub is_entry : World → Name → Details → Bool
is_entry w p d = of_purse Bool.false (λ r. has_logged r.holding.purse.log d) w p || is_archived w p d

-- the from purse has them logged, and so for the to purse
abbrev pub from_logged : World → Details → Bool
from_logged w d = is_entry w d.from d

abbrev pub to_logged : World → Details → Bool
to_logged w d = is_entry w d.to d

-- the from purse is in epa with them, and the to purse is in epv with them
abbrev pub from_in_epa : World → Details → Bool
from_in_epa w d = of_purse Bool.false (λ r. expects_ack r.holding.purse.status d) w d.from

abbrev pub to_in_epv : World → Details → Bool
to_in_epv w d = of_purse Bool.false (λ r. expects_val r.holding.purse.status d) w d.to

-- their value has left the from purse and is not to reach the to purse
abbrev pub definitely_lost : World → Details → Bool
definitely_lost w d = to_logged w d && (from_logged w d || from_in_epa w d)

-- their value is lost, and nobody has it back (own)
abbrev pub still_lost : World → Details → Bool
still_lost w d = definitely_lost w d && not (is_settled w d)

-- their value has left the from purse, and the to purse waits for it
abbrev pub maybe_lost : World → Details → Bool
maybe_lost w d = (from_in_epa w d || from_logged w d) && to_in_epv w d

-- the details that occur in a World: those that a purse has logged, those that it would log by an abort, and those
-- that are archived
unfoldable pub occurring : World → Entries
occurring w =
    fmap.from_entries (marks (flat_map (λ (e : Name × Row). logged (aborted e.1.holding.purse).log) (fmap.entries w.rows) ++ map (λ (result : Name × Details). result.1) (fmap.keys w.archive)))

-- what the details of a set come to that meet a test
abbrev pub value_where : (Details → Bool) → Entries → ℕ
value_where test set = sum_by (λ d. if test d then d.value else 0) (logged set)

abbrev pub transit : World → ℕ
transit w = value_where (maybe_lost w) (occurring w)

abbrev pub lost : World → ℕ
lost w = value_where (still_lost w) (occurring w)

-- ---- what a purse adds to the sums

-- what its loads come to, what its redemptions come to, and its balance
abbrev pub issued_row : Row → ℕ
issued_row r = sum_values (λ n. n) r.loads

abbrev pub redeemed_row : Row → ℕ
redeemed_row r = sum_values (λ n. n) r.holding.redemptions

abbrev pub balance_row : Row → ℕ
balance_row r = r.holding.purse.balance

-- the sum of a number of each purse
abbrev pub of_all : World → (Row → ℕ) → ℕ
of_all w f = sum_values f w.rows

-- the sum of a number of each purse of the member's holders
abbrev pub of_member : World → Name → (Row → ℕ) → ℕ
of_member w m f = sum_values (λ r. if is_of_member w m r then f r else 0) w.rows

-- ---- the sums

-- the sums of the whole scheme
abbrev pub totals_of : World → Totals
totals_of w = record {
  granted = all_granted w;
  float = sum_values (λ (row : MemberRow). row.float) w.members;
  uncollected = of_all w uncollected_row;
  issued = of_all w issued_row;
  redeemed = of_all w redeemed_row;
  balances = of_all w balance_row;
  transit = transit w;
  lost = lost w;
}

-- the sums of one member, whose purses are those of the member's holders
abbrev pub sums_of : World → Name → MemberRow → MemberTotals
sums_of w m row = record {
  granted = row.granted;
  float = row.float;
  uncollected = of_member w m uncollected_row;
  issued = of_member w m issued_row;
  redeemed = of_member w m redeemed_row;
  balances = of_member w m balance_row;
}

-- the sums of a member, where there is such a member
abbrev pub member_totals_of : World → Name → Option MemberTotals
member_totals_of w m = option_map (sums_of w m) (fmap.get w.members m)

-- the members in order, each with its sums
abbrev pub members_totals_of : World → List (Name × MemberTotals)
members_totals_of w = map (λ (e : Name × MemberRow). (e.0, sums_of w e.0 e.1)) (fmap.entries w.members)
