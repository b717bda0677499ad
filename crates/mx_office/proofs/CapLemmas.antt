-- Floats, what isn't collected, balances and what is under way come to all grants, so none of them passes the cap.
use Rattle.std.proofs.Common.{◌≡◌, ℕ, ◌+◌, ◌≤◌, Bool, true, false, cond, refl, sym, ◌∙◌, ap, Option, Some, None, IsSome, arith}
use Rattle.std.specs.FinMap as fmap
use Rattle.mx_pay.specs.Limits.{most_number}
use Rattle.mx_pay.specs.Names.{is_name}
use Rattle.mx_pay.specs.Details.{Details, details_cmp}
use Rattle.mx_pay.proofs.LogLemmas.{details_total}
use Rattle.mx_pay.proofs.SameLemmas.{details_itself}
use Rattle.mx_purse.specs.declared.message.Message.TheVariants as message
use Rattle.mx_purse.specs.Operations.{expects_val}
use Rattle.mx_book.specs.declared.values.MemberRow.{MemberRow}
use Rattle.mx_book.specs.Conditions.{IsWorld, all_granted}
use Rattle.mx_book.specs.Reads.{uncollected_row, uncollected_of}
use Rattle.mx_book.specs.Sums.{sum_values}
use Rattle.mx_book.specs.Totals.{of_all, balance_row, issued_row, redeemed_row}
use Rattle.mx_book.specs.World.{World, Row, Name, is_of_member, set_row, new_row}
use Rattle.mx_book.proofs.NameLemmas.{names_total}
use Rattle.mx_book.proofs.SumLemmas.{value_of, sum_values-insert}
use Rattle.mx_office.specs.Balance.{IsBalanced, is_chosen, of_members, of_purses}
use Rattle.mx_office.specs.Conservation.{HasRoom}
use Rattle.mx_office.specs.Reachable.{IsReachable}
use Rattle.mx_office.proofs.BalanceCommandLemmas.{reachable_balanced}
use Rattle.mx_office.proofs.EntrySumLemmas.{number, values_are, sum_values-same, sum_entries-add, sum_entries-same}
use Rattle.mx_office.proofs.SeenLemmas.{clash}
use Rattle.mx_office.proofs.SeenWorldLemmas.{flowing}
use Rattle.mx_office.proofs.HandleLemmas.{value_left}
use Rattle.mx_office.proofs.OutLemmas.{Books}
use Rattle.mx_office.proofs.SaneLemmas.{Sane}
use Rattle.mx_office.proofs.SaneCommandLemmas.{reachable_sane}
use Rattle.mx_office.proofs.StepLemmas.{reachable_world}

-- ---- all members and all purses

-- every member is chosen
abbrev all : Name → Bool
all m = true

held_case : (o : Option Name) (n : ℕ) → IsSome o → cond (is_chosen all o) n 0 ≡ n
held_case None n there = clash false there refl
held_case (Some m) n there = refl

all_purses : (w : World) → IsWorld w → (f : Row → ℕ) → of_purses w all f ≡ of_all w f
all_purses w is f = sum_values-same _ f w.rows (λ p r at. held_case (fmap.get w.holders r.holder) (f r) (is.purses.each p r at).holder)

all_members : (w : World) (f : MemberRow → ℕ) → of_members w all f ≡ sum_values f w.members
all_members w f = sym (values_are f w.members)

-- what all members have for loads
abbrev floats : World → ℕ
floats w = sum_values (λ (row : MemberRow). row.float) w.members

whole_sum : (w : World) → (s : Sane w) → IsWorld w → IsBalanced w → ((floats w + of_all w uncollected_row) + of_all w balance_row) + sum_values (λ n. n) s.books.out ≡ all_granted w
whole_sum w s is balanced =
    let own : (of_all w balance_row + sum_values (λ n. n) s.books.out) + of_all w redeemed_row ≡ of_all w issued_row = s.books.equal in
    let both : (of_members w all (λ x. x.float) + of_purses w all uncollected_row) + of_purses w all issued_row ≡ of_members w all (λ x. x.granted) + of_purses w all redeemed_row = balanced.chosen all in
    let m1 : of_members w all (λ x. x.float) ≡ floats w = all_members w (λ x. x.float) in
    let m2 : of_members w all (λ x. x.granted) ≡ all_granted w = all_members w (λ x. x.granted) in
    let p1 : of_purses w all uncollected_row ≡ of_all w uncollected_row = all_purses w is uncollected_row in
    let p2 : of_purses w all issued_row ≡ of_all w issued_row = all_purses w is issued_row in
    let p3 : of_purses w all redeemed_row ≡ of_all w redeemed_row = all_purses w is redeemed_row in
    omega (arith, own, both, m1, m2, p1, p2, p3)

-- ---- one of many

one_within : (m : fmap.FinMap details_cmp ℕ) (d : Details) → number (fmap.get m d) ≤ sum_values (λ n. n) m
one_within m d =
    let x : sum_values (λ n. n) (fmap.insert m d 0) + number (fmap.get m d) ≡ sum_values (λ n. n) m + 0 = sum_values-insert details_total (λ n. n) m d 0 in
    omega (arith, x)

balance_within : (w : World) (p : Name) (r : Row) → fmap.get w.rows p ≡ Some r → balance_row r ≤ of_all w balance_row
balance_within w p r at =
    let x : of_all (set_row w p (new_row p p)) balance_row + value_of balance_row (fmap.get w.rows p) ≡ of_all w balance_row + 0 = sum_values-insert names_total balance_row w.rows p (new_row p p) in
    let y : value_of balance_row (fmap.get w.rows p) ≡ balance_row r = ap (value_of balance_row) at in
    omega (arith, x, y)

two_within : (w : World) (p q : Name) (r s : Row) → fmap.get w.rows p ≡ Some r → fmap.get w.rows q ≡ Some s → is_name q p ≡ false → balance_row r + balance_row s ≤ of_all w balance_row
two_within w p q r s at there apart =
    let none : World = set_row w p (new_row p p) in
    let x : of_all none balance_row + value_of balance_row (fmap.get w.rows p) ≡ of_all w balance_row + 0 = sum_values-insert names_total balance_row w.rows p (new_row p p) in
    let y : value_of balance_row (fmap.get w.rows p) ≡ balance_row r = ap (value_of balance_row) at in
    let z : balance_row s ≤ of_all none balance_row = balance_within none q s (fmap.get-insert names_total w.rows p (new_row p p) q ∙ ap (λ b. cond b (Some (new_row p p)) (fmap.get w.rows q)) apart ∙ there) in
    omega (arith, x, y, z)

float_within : (w : World) (m : Name) (row : MemberRow) → fmap.get w.members m ≡ Some row → row.float ≤ floats w
float_within w m row at =
    let none : MemberRow = record { granted = 0; float = 0 } in
    let x : sum_values (λ (y : MemberRow). y.float) (fmap.insert w.members m none) + value_of (λ (y : MemberRow). y.float) (fmap.get w.members m) ≡ floats w + 0 = sum_values-insert names_total (λ (y : MemberRow). y.float) w.members m none in
    let y : value_of (λ (z : MemberRow). z.float) (fmap.get w.members m) ≡ row.float = ap (value_of (λ (z : MemberRow). z.float)) at in
    omega (arith, x, y)

part_case : (b : Bool) (n : ℕ) → cond b n 0 + cond b 0 n ≡ n
part_case true n = omega arith
part_case false n = omega arith

uncollected_within : (w : World) (m : Name) → uncollected_of w m ≤ of_all w uncollected_row
uncollected_within w m =
    let own : Name → Row → ℕ = λ p r. cond (is_of_member w m r) (uncollected_row r) 0 in
    let rest : Name → Row → ℕ = λ p r. cond (is_of_member w m r) 0 (uncollected_row r) in
    let x1 = values_are (λ r. cond (is_of_member w m r) (uncollected_row r) 0) w.rows in
    let x2 = values_are uncollected_row w.rows in
    let x3 = sum_entries-add own rest w.rows in
    let x4 = sum_entries-same (λ p r. own p r + rest p r) (λ p r. uncollected_row r) w.rows (λ p r _. part_case (is_of_member w m r) (uncollected_row r)) in
    omega (arith, x1, x2, x3, x4)

-- ---- what fits

module _ (w : World) (s : Sane w) (is : IsWorld w) (balanced : IsBalanced w) where
  -- what is under way fits each purse
  pub flow_fits : (d : Details) (p : Name) (r : Row) → fmap.get w.rows p ≡ Some r → flowing w d ≡ true → balance_row r + d.value ≤ most_number
  flow_fits d p r at flows =
      let b : Books w = s.books in
      let value : number (fmap.get b.out d) ≡ d.value = b.covers d ∙ ap (λ x. cond x d.value 0) flows in
      let within : number (fmap.get b.out d) ≤ sum_values (λ n. n) b.out = one_within b.out d in
      let balance : balance_row r ≤ of_all w balance_row = balance_within w p r at in
      let sum : ((floats w + of_all w uncollected_row) + of_all w balance_row) + sum_values (λ n. n) b.out ≡ all_granted w = whole_sum w s is balanced in
      let cap : all_granted w ≤ most_number = is.members.granted in
      omega (arith, value, within, balance, sum, cap)

  -- a value that is sent fits into the balance of a purse that waits for it
  value_fits : HasRoom w
  value_fits p r d n at was sent = flow_fits d p r at (value_left w p r at s.invariant d (ap (λ x. expects_val x d) was ∙ details_itself d) (s.invariant.timely p r at n (message.Val d) sent)).2

  -- the balances of two purses fit one
  pub balances_fit : (p q : Name) (r t : Row) → fmap.get w.rows p ≡ Some r → fmap.get w.rows q ≡ Some t → is_name q p ≡ false → balance_row r + balance_row t ≤ most_number
  balances_fit p q r t at there apart =
      let both : balance_row r + balance_row t ≤ of_all w balance_row = two_within w p q r t at there apart in
      let sum : ((floats w + of_all w uncollected_row) + of_all w balance_row) + sum_values (λ n. n) s.books.out ≡ all_granted w = whole_sum w s is balanced in
      let cap : all_granted w ≤ most_number = is.members.granted in
      omega (arith, both, sum, cap)

  -- a load that the float covers fits the purse
  pub load_fits : (p m : Name) (r : Row) (row : MemberRow) (amount : ℕ) → fmap.get w.rows p ≡ Some r → fmap.get w.members m ≡ Some row → amount ≤ row.float → balance_row r + amount ≤ most_number
  load_fits p m r row amount at member enough =
      let balance : balance_row r ≤ of_all w balance_row = balance_within w p r at in
      let float : row.float ≤ floats w = float_within w m row member in
      let sum : ((floats w + of_all w uncollected_row) + of_all w balance_row) + sum_values (λ n. n) s.books.out ≡ all_granted w = whole_sum w s is balanced in
      let cap : all_granted w ≤ most_number = is.members.granted in
      omega (arith, balance, float, sum, cap, enough)

  -- a grant that all grants allow fits the float
  pub grant_fits : (m : Name) (row : MemberRow) (amount : ℕ) → fmap.get w.members m ≡ Some row → all_granted w + amount ≤ most_number → row.float + amount ≤ most_number
  grant_fits m row amount member room =
      let float : row.float ≤ floats w = float_within w m row member in
      let sum : ((floats w + of_all w uncollected_row) + of_all w balance_row) + sum_values (λ n. n) s.books.out ≡ all_granted w = whole_sum w s is balanced in
      omega (arith, float, sum, room)

  -- what a member collects fits the float
  pub collect_fits : (m : Name) (row : MemberRow) → fmap.get w.members m ≡ Some row → row.float + uncollected_of w m ≤ most_number
  collect_fits m row member =
      let float : row.float ≤ floats w = float_within w m row member in
      let part : uncollected_of w m ≤ of_all w uncollected_row = uncollected_within w m in
      let sum : ((floats w + of_all w uncollected_row) + of_all w balance_row) + sum_values (λ n. n) s.books.out ≡ all_granted w = whole_sum w s is balanced in
      let cap : all_granted w ≤ most_number = is.members.granted in
      omega (arith, float, part, sum, cap)

pub reachable_room : (w : World) → IsReachable w → HasRoom w
reachable_room w r = value_fits w (reachable_sane w r) (reachable_world w r) (reachable_balanced w r)

pub reachable_fit : (w : World) → IsReachable w → (p q : Name) (r t : Row) → fmap.get w.rows p ≡ Some r → fmap.get w.rows q ≡ Some t → is_name q p ≡ false → balance_row r + balance_row t ≤ most_number
reachable_fit w r = balances_fit w (reachable_sane w r) (reachable_world w r) (reachable_balanced w r)
