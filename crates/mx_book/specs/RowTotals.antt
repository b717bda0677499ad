-- What the books come to, from their rows.
use Rattle.std.specs.Prelude.{ℕ, ◌+◌, Bool, ◌&&◌, ◌||◌, not, List, map, Option, Some, None, option_map, sum_by, if◌then◌else◌}
use Rattle.std.specs.FinMap as fmap
use Rattle.std.specs.FinSet.{FinSet}
use Rattle.mx_pay.specs.Names.{name_cmp, is_name}
use Rattle.mx_pay.specs.Details.{Details}
use Rattle.mx_pay.specs.Log.{Entries, has_logged, logged}
use Rattle.mx_purse.specs.Operations.{expects_ack}
use Rattle.mx_purse.specs.declared.status.Status.{Status}
use Rattle.mx_purse.specs.declared.status.Status.TheVariants.{Epv}
use Rattle.mx_book.specs.declared.values.Scope.{Scope}
use Rattle.mx_book.specs.declared.values.Scope.TheVariants.{Scheme, Member}
use Rattle.mx_book.specs.declared.values.MemberRow.{MemberRow}
use Rattle.mx_book.specs.declared.values.MemberTotals.{MemberTotals}
use Rattle.mx_book.specs.declared.values.PurseRow.{PurseRow}
use Rattle.mx_book.specs.declared.values.Redemption.{Redemption}
use Rattle.mx_book.specs.declared.values.Totals.{Totals}
use Rattle.mx_book.specs.World.{Name, result_cmp}
use Rattle.mx_book.specs.Sums.{sum_values, sum_entries}
use Rattle.mx_book.specs.Rows.{Rows}
use Rattle.mx_book.specs.RowEdits.{log_at}
use Rattle.mx_book.specs.RowReads.{is_counted, counted_of, row_uncollected_of}

-- ---- the purses that count

-- what their loads come to
abbrev pub row_issued_of : Rows → Scope → ℕ
row_issued_of r scope = sum_entries (counted_of r.purses r.holders scope (λ n. n)) r.loads

-- what their redemptions come to
abbrev pub row_redeemed_of : Rows → Scope → ℕ
row_redeemed_of r scope = sum_entries (counted_of r.purses r.holders scope (λ (x : Redemption). x.amount)) r.redemptions

-- the balance of a purse, where it counts
abbrev pub counted_balance : fmap.FinMap name_cmp Name → Scope → PurseRow → ℕ
counted_balance holders scope x = if is_counted holders scope (Some x) then x.purse.balance else 0

-- their balances
abbrev pub row_balances_of : Rows → Scope → ℕ
row_balances_of r scope = sum_values (counted_balance r.holders scope) r.purses

-- ---- value between purses

-- whether a purse waits in epa with details, or has them in its log
abbrev pub has_sent : Option PurseRow → Details → Bool
has_sent None d = Bool.false
has_sent (Some x) d = expects_ack x.purse.status d || has_logged x.purse.log d

-- whether the value of details has left the from purse
abbrev pub has_left : fmap.FinMap name_cmp PurseRow → FinSet result_cmp → Details → Bool
has_left purses archive d = has_sent (fmap.get purses d.from) d || fmap.contains_key archive (d.from, d)

-- the value that a purse of this status waits for, where it has left the other purse
abbrev pub awaited : fmap.FinMap name_cmp PurseRow → FinSet result_cmp → Status → ℕ
awaited purses archive (Epv d) = if has_left purses archive d then d.value else 0
awaited purses archive _ = 0

abbrev pub row_transit_of : Rows → ℕ
row_transit_of r = sum_values (λ (x : PurseRow). awaited r.purses r.archive x.purse.status) r.purses

-- the value of details that are logged for the purse p, where they are to p, it has left the other purse, and they
-- aren't settled
abbrev pub lost_by : fmap.FinMap name_cmp PurseRow → FinSet result_cmp → Entries → Name → Details → ℕ
lost_by purses archive settled p d =
    if is_name d.to p && has_left purses archive d && not (fmap.contains_key settled d) then d.value else 0

-- what is lost by the log of the purse p
abbrev pub lost_in_log : fmap.FinMap name_cmp PurseRow → FinSet result_cmp → Entries → Name → Entries → ℕ
lost_in_log purses archive settled p log = sum_by (lost_by purses archive settled p) (logged log)

-- what is lost by details that are archived for a purse, where its log hasn't them still
abbrev pub lost_in_archive : fmap.FinMap name_cmp PurseRow → FinSet result_cmp → Entries → Name × Details → ℕ
lost_in_archive purses archive settled result =
    if has_logged (log_at (fmap.get purses result.0)) result.1 then 0 else lost_by purses archive settled result.0 result.1

abbrev pub row_lost_of : Rows → ℕ
row_lost_of r =
    sum_entries (λ p (x : PurseRow). lost_in_log r.purses r.archive r.settled p x.purse.log) r.purses
    + sum_entries (λ result _. lost_in_archive r.purses r.archive r.settled result) r.archive

-- ---- the sums

-- the sums of the whole scheme
abbrev pub row_totals_of : Rows → Totals
row_totals_of r = record {
  granted = sum_values (λ (row : MemberRow). row.granted) r.members;
  float = sum_values (λ (row : MemberRow). row.float) r.members;
  uncollected = row_uncollected_of r Scheme;
  issued = row_issued_of r Scheme;
  redeemed = row_redeemed_of r Scheme;
  balances = row_balances_of r Scheme;
  transit = row_transit_of r;
  lost = row_lost_of r;
}

-- the sums of one member
abbrev pub row_sums_of : Rows → Name → MemberRow → MemberTotals
row_sums_of r m row = record {
  granted = row.granted;
  float = row.float;
  uncollected = row_uncollected_of r (Member m);
  issued = row_issued_of r (Member m);
  redeemed = row_redeemed_of r (Member m);
  balances = row_balances_of r (Member m);
}

-- the sums of a member, where there is such a member
abbrev pub row_member_totals_of : Rows → Name → Option MemberTotals
row_member_totals_of r m = option_map (row_sums_of r m) (fmap.get r.members m)

-- the members in order, each with its sums
abbrev pub row_members_totals_of : Rows → List (Name × MemberTotals)
row_members_totals_of r = map (λ (e : Name × MemberRow). (e.0, row_sums_of r e.0 e.1)) (fmap.entries r.members)
