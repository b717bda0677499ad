-- Both sides of the balance equation, and what a change of the World makes of them.
use Rattle.std.proofs.Common.{◌≡◌, ℕ, ◌+◌, Bool, true, false, cond, refl, sym, ◌∙◌, ap, subst, Option, Some, None, IsSome, arith}
use Rattle.std.specs.FinMap as fmap
use Rattle.mx_pay.specs.Names.{name_cmp, is_name}
use Rattle.mx_book.specs.declared.values.MemberRow.{MemberRow}
use Rattle.mx_book.specs.Sums.{sum_entries, sum_values}
use Rattle.mx_book.specs.Reads.{uncollected_row}
use Rattle.mx_book.specs.World.{World, Row, Holding, Name, Token, is_of, is_of_member, set_row, opening}
use Rattle.mx_book.proofs.FoundLemmas.{value_found, none_found, none_some, kept_value, each_inserted, still_some}
use Rattle.mx_book.proofs.NameLemmas.{names_total}
use Rattle.mx_book.proofs.SumLemmas.{value_of, sum_values-insert}
use Rattle.mx_book.specs.Totals.{issued_row, redeemed_row}
use Rattle.mx_office.specs.Balance.{IsBalanced, IsMemberBalanced, is_chosen, of_members, of_purses}
use Rattle.mx_office.proofs.MoveCaseLemmas.{with_member}
use Rattle.mx_office.proofs.RuleLemmas.{Redeems, Same, More}
use Rattle.mx_office.proofs.EntrySumLemmas.{sum_entries-insert, sum_entries-new, sum_values-new, sum_entries-one, sum_entries-empty, sum_values-same, sum_values-empty}

-- a choice of members
abbrev pub Choice : Type 0
Choice = Name → Bool

-- the two sides of the equation of the chosen members
abbrev pub left : World → Choice → ℕ
left w chosen = (of_members w chosen (λ row. row.float) + of_purses w chosen uncollected_row) + of_purses w chosen issued_row

abbrev pub right : World → Choice → ℕ
right w chosen = of_members w chosen (λ row. row.granted) + of_purses w chosen redeemed_row

-- what a purse adds to the left side
abbrev pub left_row : Row → ℕ
left_row r = uncollected_row r + issued_row r

-- whether the holder of a row is of a chosen member
abbrev pub is_counted : World → Choice → Row → Bool
is_counted w chosen r = is_chosen chosen (fmap.get w.holders r.holder)

-- a number of a row, where it counts
abbrev pub counted : World → Choice → (Row → ℕ) → Row → ℕ
counted w chosen f r = cond (is_counted w chosen r) (f r) 0

-- the holder of a row is there, and what is collected of it is a redemption
pub record IsRow (holders : fmap.FinMap name_cmp Name) (r : Row) : Type 0 where
  pub holder : IsSome (fmap.get holders r.holder)
  pub collected : (reference : Name) → fmap.contains_key r.collected reference ≡ true → IsSome (fmap.get r.holding.redemptions reference)

-- the equation of each choice of members, and what each row keeps
pub record IsAccounted (w : World) : Type 0 where
  pub equal : (chosen : Choice) → left w chosen ≡ right w chosen
  pub rows : (p : Name) (r : Row) → fmap.get w.rows p ≡ Some r → IsRow w.holders r

-- ---- numbers that count or don't

both_count : (c : Bool) (a b : ℕ) → cond c a 0 + cond c b 0 ≡ cond c (a + b) 0
both_count true a b = refl
both_count false a b = refl

pub none_counts : (c : Bool) → ◌≡◌ {A = ℕ} (cond c 0 0) 0
none_counts true = refl
none_counts false = refl

-- both sides change by the same
pub same_change : (c : Bool) (l l1 r r1 a a1 b b1 : ℕ) → l1 + cond c a 0 ≡ l + cond c a1 0 → r1 + cond c b 0 ≡ r + cond c b1 0 → a1 + b ≡ a + b1 → l ≡ r → l1 ≡ r1
same_change true l l1 r r1 a a1 b b1 lefts rights change equal = omega arith
same_change false l l1 r r1 a a1 b b1 lefts rights change equal = omega arith

-- ---- a member is written

module _ (w : World) (m : Name) (row : MemberRow) where
  members_set : (chosen : Choice) (f : MemberRow → ℕ) → of_members (with_member w m row) chosen f + value_of (λ x. cond (chosen m) (f x) 0) (fmap.get w.members m) ≡ of_members w chosen f + cond (chosen m) (f row) 0
  members_set chosen f = sum_entries-insert (λ k x. cond (chosen k) (f x) 0) w.members m row

  module _ (old : MemberRow) (at : fmap.get w.members m ≡ Some old) (chosen : Choice) where
    member_set : (f : MemberRow → ℕ) → of_members (with_member w m row) chosen f + cond (chosen m) (f old) 0 ≡ of_members w chosen f + cond (chosen m) (f row) 0
    member_set f = subst (λ o. of_members (with_member w m row) chosen f + value_of (λ x. cond (chosen m) (f x) 0) o ≡ of_members w chosen f + cond (chosen m) (f row) 0) at (members_set chosen f)

    pub left_member : left (with_member w m row) chosen + cond (chosen m) old.float 0 ≡ left w chosen + cond (chosen m) row.float 0
    left_member =
        let floats : of_members (with_member w m row) chosen (λ x. x.float) + cond (chosen m) old.float 0 ≡ of_members w chosen (λ x. x.float) + cond (chosen m) row.float 0 = member_set (λ x. x.float) in
        omega (arith, floats)

    pub right_member : right (with_member w m row) chosen + cond (chosen m) old.granted 0 ≡ right w chosen + cond (chosen m) row.granted 0
    right_member =
        let grants : of_members (with_member w m row) chosen (λ x. x.granted) + cond (chosen m) old.granted 0 ≡ of_members w chosen (λ x. x.granted) + cond (chosen m) row.granted 0 = member_set (λ x. x.granted) in
        omega (arith, grants)

  -- a new member without money
  module _ (gone : fmap.get w.members m ≡ None) where
    member_new : (chosen : Choice) (f : MemberRow → ℕ) → f row ≡ 0 → of_members (with_member w m row) chosen f ≡ of_members w chosen f
    member_new chosen f zero =
        let set : of_members (with_member w m row) chosen f ≡ of_members w chosen f + cond (chosen m) (f row) 0 = sum_entries-new (λ k x. cond (chosen k) (f x) 0) w.members m row gone in
        let new : cond (chosen m) (f row) 0 ≡ 0 = ap (λ n. cond (chosen m) n 0) zero ∙ none_counts (chosen m) in
        omega (arith, set, new)

    pub new_member_accounted : row.float ≡ 0 → row.granted ≡ 0 → IsAccounted w → IsAccounted (with_member w m row)
    new_member_accounted float granted h = record {
      equal = λ chosen.
          ap (λ n. (n + of_purses w chosen uncollected_row) + of_purses w chosen issued_row) (member_new chosen (λ x. x.float) float)
          ∙ h.equal chosen
          ∙ ap (λ n. n + of_purses w chosen redeemed_row) (sym (member_new chosen (λ x. x.granted) granted));
      rows = h.rows;
    }

-- ---- a row is written

module _ (w : World) (p : Name) (s : Row) where
  rows_set : (chosen : Choice) (f : Row → ℕ) → of_purses (set_row w p s) chosen f + value_of (counted w chosen f) (fmap.get w.rows p) ≡ of_purses w chosen f + counted w chosen f s
  rows_set chosen f = sum_values-insert names_total (counted w chosen f) w.rows p s

  module _ (r : Row) (at : fmap.get w.rows p ≡ Some r) (holder : s.holder ≡ r.holder) (chosen : Choice) where
    purses_set : (f : Row → ℕ) → of_purses (set_row w p s) chosen f + cond (is_counted w chosen r) (f r) 0 ≡ of_purses w chosen f + cond (is_counted w chosen r) (f s) 0
    purses_set f =
        subst (λ o. of_purses (set_row w p s) chosen f + value_of (counted w chosen f) o ≡ of_purses w chosen f + counted w chosen f s) at (rows_set chosen f)
        ∙ ap (λ h. of_purses w chosen f + cond (is_chosen chosen (fmap.get w.holders h)) (f s) 0) holder

    pub left_set : left (set_row w p s) chosen + cond (is_counted w chosen r) (left_row r) 0 ≡ left w chosen + cond (is_counted w chosen r) (left_row s) 0
    left_set =
        let uncollected : of_purses (set_row w p s) chosen uncollected_row + cond (is_counted w chosen r) (uncollected_row r) 0 ≡ of_purses w chosen uncollected_row + cond (is_counted w chosen r) (uncollected_row s) 0 = purses_set uncollected_row in
        let issued : of_purses (set_row w p s) chosen issued_row + cond (is_counted w chosen r) (issued_row r) 0 ≡ of_purses w chosen issued_row + cond (is_counted w chosen r) (issued_row s) 0 = purses_set issued_row in
        omega (arith, uncollected, issued, both_count (is_counted w chosen r) (uncollected_row r) (issued_row r), both_count (is_counted w chosen r) (uncollected_row s) (issued_row s))

    pub right_set : right (set_row w p s) chosen + cond (is_counted w chosen r) (redeemed_row r) 0 ≡ right w chosen + cond (is_counted w chosen r) (redeemed_row s) 0
    right_set =
        let redeemed : of_purses (set_row w p s) chosen redeemed_row + cond (is_counted w chosen r) (redeemed_row r) 0 ≡ of_purses w chosen redeemed_row + cond (is_counted w chosen r) (redeemed_row s) 0 = purses_set redeemed_row in
        omega (arith, redeemed)

  -- each row is one after the write
  pub rows_stay : IsRow w.holders s → IsAccounted w → (q : Name) (r : Row) → fmap.get (set_row w p s).rows q ≡ Some r → IsRow w.holders r
  rows_stay new h = each_inserted w.rows p s (λ q r. IsRow w.holders r) new h.rows

  -- both sides change by the same
  pub set_accounted : (r : Row) → fmap.get w.rows p ≡ Some r → s.holder ≡ r.holder → left_row s + redeemed_row r ≡ left_row r + redeemed_row s → IsRow w.holders s → IsAccounted w → IsAccounted (set_row w p s)
  set_accounted r at holder change new h = record {
    equal = λ chosen. same_change (is_counted w chosen r) _ _ _ _ (left_row r) (left_row s) (redeemed_row r) (redeemed_row s) (left_set r at holder chosen) (right_set r at holder chosen) change (h.equal chosen);
    rows = rows_stay new h;
  }

  -- a new row without money
  module _ (gone : fmap.get w.rows p ≡ None) where
    row_new : (chosen : Choice) (f : Row → ℕ) → f s ≡ 0 → of_purses (set_row w p s) chosen f ≡ of_purses w chosen f
    row_new chosen f zero =
        let set : of_purses (set_row w p s) chosen f ≡ of_purses w chosen f + counted w chosen f s = sum_values-new (counted w chosen f) w.rows p s gone in
        let new : counted w chosen f s ≡ 0 = ap (λ n. cond (is_counted w chosen s) n 0) zero ∙ none_counts (is_counted w chosen s) in
        omega (arith, set, new)

    pub new_row_accounted : uncollected_row s ≡ 0 → issued_row s ≡ 0 → redeemed_row s ≡ 0 → IsRow w.holders s → IsAccounted w → IsAccounted (set_row w p s)
    new_row_accounted uncollected issued redeemed new h = record {
      equal = λ chosen.
          (λ i. (of_members w chosen (λ x. x.float) + row_new chosen uncollected_row uncollected i) + row_new chosen issued_row issued i)
          ∙ h.equal chosen
          ∙ ap (λ n. of_members w chosen (λ x. x.granted) + n) (sym (row_new chosen redeemed_row redeemed));
      rows = rows_stay new h;
    }

-- ---- an account that changes

module _ (w : World) (p : Name) (r : Row) (b : Holding) (at : fmap.get w.rows p ≡ Some r) (h : IsAccounted w) where
  abbrev changed : Row
  changed = record r { holding = b }

  stays_row : b.redemptions ≡ r.holding.redemptions → IsRow w.holders changed
  stays_row same = record { holder = (h.rows p r at).holder; collected = λ k t. subst (λ m. IsSome (fmap.get m k)) (sym same) ((h.rows p r at).collected k t) }

  same_money : b.redemptions ≡ r.holding.redemptions → left_row changed + redeemed_row r ≡ left_row r + redeemed_row changed
  same_money same = λ i. (sum_entries (λ k n. cond (fmap.contains_key r.collected k) 0 n) (same i) + issued_row r) + sum_values (λ n. n) (sym same i)

  -- a reference that has no redemption isn't collected
  not_collected : (reference : Name) → fmap.get r.holding.redemptions reference ≡ None → (c : Bool) → fmap.contains_key r.collected reference ≡ c → c ≡ false
  not_collected reference gone true t = none_some _ gone ((h.rows p r at).collected reference t)
  not_collected reference gone false t = refl

  more_money : (reference : Name) (amount : ℕ) → fmap.get r.holding.redemptions reference ≡ None → b.redemptions ≡ fmap.insert r.holding.redemptions reference amount → left_row changed + redeemed_row r ≡ left_row r + redeemed_row changed
  more_money reference amount gone is =
      let open_amount : Name → ℕ → ℕ = λ k n. cond (fmap.contains_key r.collected k) 0 n in
      let e1 : uncollected_row changed ≡ uncollected_row r + cond (fmap.contains_key r.collected reference) 0 amount = ap (sum_entries open_amount) is ∙ sum_entries-new open_amount r.holding.redemptions reference amount gone in
      let e2 : cond (fmap.contains_key r.collected reference) 0 amount ≡ amount = ap (λ c. cond c 0 amount) (not_collected reference gone (fmap.contains_key r.collected reference) refl) in
      let e3 : redeemed_row changed ≡ redeemed_row r + amount = ap (sum_values (λ n. n)) is ∙ sum_values-new (λ n. n) r.holding.redemptions reference amount gone in
      omega (arith, e1, e2, e3)

  pub account_accounted : {may : Bool} → Redeems may r.holding b → IsAccounted (set_row w p changed)
  account_accounted (Same same) = set_accounted w p changed r at refl (same_money same) (stays_row same) h
  account_accounted (More may reference amount gone is) =
      set_accounted w p changed r at refl (more_money reference amount gone is)
      (record { holder = (h.rows p r at).holder; collected = λ k t. subst (λ m. IsSome (fmap.get m k)) (sym is) (still_some r.holding.redemptions reference amount k ((h.rows p r at).collected k t)) })
      h

-- ---- a holder is written

module _ (w : World) (h m : Name) (gone : fmap.get w.holders h ≡ None) where
  -- the World with this holder
  abbrev pub with_holder : World
  with_holder = record w { holders = fmap.insert w.holders h m }

  holder_stays : (k : Name) → IsSome (fmap.get w.holders k) → fmap.get with_holder.holders k ≡ fmap.get w.holders k
  holder_stays k there = let x = value_found (fmap.get w.holders k) there in kept_value w.holders h m gone k x.0 x.1 ∙ sym x.1

  purses_stay : IsAccounted w → (chosen : Choice) (f : Row → ℕ) → of_purses with_holder chosen f ≡ of_purses w chosen f
  purses_stay is chosen f = sum_values-same (counted with_holder chosen f) (counted w chosen f) w.rows
      (λ p r at. ap (λ o. cond (is_chosen chosen o) (f r) 0) (holder_stays r.holder (is.rows p r at).holder))

  pub new_holder_accounted : IsAccounted w → IsAccounted with_holder
  new_holder_accounted is = record {
    equal = λ chosen.
        (λ i. (of_members w chosen (λ x. x.float) + purses_stay is chosen uncollected_row i) + purses_stay is chosen issued_row i)
        ∙ is.equal chosen
        ∙ ap (λ n. of_members w chosen (λ x. x.granted) + n) (sym (purses_stay is chosen redeemed_row));
    rows = λ p r at. record { holder = still_some w.holders h m r.holder (is.rows p r at).holder; collected = (is.rows p r at).collected };
  }

-- ---- the start, and one member

pub opening_accounted : (t : Token) → IsAccounted (opening t)
opening_accounted t =
    let members : (chosen : Choice) (f : MemberRow → ℕ) → of_members (opening t) chosen f ≡ 0 = λ chosen f. sum_entries-empty (λ k x. cond (chosen k) (f x) 0) in
    let purses : (chosen : Choice) (f : Row → ℕ) → of_purses (opening t) chosen f ≡ 0 = λ chosen f. sum_values-empty (counted (opening t) chosen f) in
    record {
      equal = λ chosen.
          (λ i. (members chosen (λ x. x.float) i + purses chosen uncollected_row i) + purses chosen issued_row i)
          ∙ sym (λ i. members chosen (λ x. x.granted) i + purses chosen redeemed_row i);
      rows = λ p r at. none_found _ r (fmap.get-empty name_cmp p) at;
    }

one_chosen : (m : Name) (o : Option Name) → is_chosen (is_name m) o ≡ is_of m o
one_chosen m None = refl
one_chosen m (Some x) = refl

member_balanced : (w : World) → IsAccounted w → (m : Name) (row : MemberRow) → fmap.get w.members m ≡ Some row → IsMemberBalanced w m row
member_balanced w h m row at =
    let floats : of_members w (is_name m) (λ x. x.float) ≡ row.float = sum_entries-one (λ x. x.float) w.members m row at in
    let grants : of_members w (is_name m) (λ x. x.granted) ≡ row.granted = sum_entries-one (λ x. x.granted) w.members m row at in
    let purses : (f : Row → ℕ) → of_purses w (is_name m) f ≡ sum_values (λ r. cond (is_of_member w m r) (f r) 0) w.rows =
    λ f. sum_values-same _ _ w.rows (λ p r _. ap (λ b. cond b (f r) 0) (one_chosen m (fmap.get w.holders r.holder))) in
    (λ i. (sym floats i + sym (purses uncollected_row) i) + sym (purses issued_row) i) ∙ h.equal (is_name m) ∙ (λ i. grants i + purses redeemed_row i)

pub is_balanced : (w : World) → IsAccounted w → IsBalanced w
is_balanced w h = record { chosen = h.equal; each = member_balanced w h }
