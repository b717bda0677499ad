-- Each command keeps the balance equation.
use Rattle.std.proofs.Common.{◌≡◌, ℕ, ◌+◌, ◌-◌, ◌≤◌, Bool, true, false, cond, refl, sym, ◌∙◌, ap, subst, Option, Some, None, IsSome, is_some, option_and_then, arith}
use Rattle.std.specs.Prelude.{is_none}
use Rattle.std.specs.FinMap as fmap
use Rattle.mx_pay.specs.Names.{name_cmp}
use Rattle.mx_pay.specs.Details.{Details}
use Rattle.mx_purse.specs.Operations.{load_refusal, credit_refusal}
use Rattle.mx_book.specs.declared.values.Caller.{Caller}
use Rattle.mx_book.specs.declared.values.MemberRow.{MemberRow}
use Rattle.mx_book.specs.Sums.{sum_entries, sum_values}
use Rattle.mx_book.specs.Reads.{uncollected_row, uncollected_of}
use Rattle.mx_book.specs.World.{World, Row, Holding, delivered, Name, is_of, is_of_member, with_collected, all_collected, set_row, new_row}
use Rattle.mx_book.proofs.FoundLemmas.{inside}
use Rattle.mx_book.proofs.MapLemmas.{get-pick}
use Rattle.mx_book.proofs.NameLemmas.{names_total, same_name}
use Rattle.mx_command.specs.declared.values.Command.{Command}
use Rattle.mx_book.specs.Totals.{issued_row, redeemed_row}
use Rattle.mx_office.specs.Balance.{IsBalanced, is_chosen, of_purses}
use Rattle.mx_office.specs.Reachable.{IsReachable}
use Rattle.mx_office.specs.Step.{loaded_holding, loaded_row, settled_holding, base, step}
use Rattle.mx_office.proofs.BalanceLemmas.{Choice, IsAccounted, IsRow, left, right, left_row, account_accounted, counted, is_counted, none_counts, same_change, left_member, right_member, new_member_accounted, left_set, right_set, rows_stay, new_row_accounted, new_holder_accounted, opening_accounted, is_balanced}
use Rattle.mx_office.proofs.CaseLemmas.{by_cond, by_after, by_collected, by_reachable}
use Rattle.mx_office.proofs.MoveCaseLemmas.{IsLoad, with_member, by_moves}
use Rattle.mx_office.proofs.RuleLemmas.{Same, EachKeeps, each_keeps}
use Rattle.mx_office.proofs.EntrySumLemmas.{sum_entries-same, sum_entries-add, sum_entries-empty, sum_values-empty, sum_values-zero, sum_values-remake, sum_values-new, values_are}

-- ---- a load

pub loaded_redemptions : (a : Holding) (amount : ℕ) (reference : Name) → (loaded_holding a amount reference).redemptions ≡ a.redemptions
unfolding loaded_holding
loaded_redemptions a amount reference = by_cond (λ b. b.redemptions ≡ a.redemptions) (is_none (load_refusal a.purse amount)) _ a (λ _. refl) (λ _. refl)

-- the left side has the load, and not the float
load_change : (c : Bool) (l l1 l2 r r1 r2 x y a f g amount : ℕ) → l1 + cond c x 0 ≡ l + cond c y 0 → l2 + cond c f 0 ≡ l1 + cond c (f - amount) 0 → r1 + cond c a 0 ≡ r + cond c a 0 → r2 + cond c g 0 ≡ r1 + cond c g 0
    → y ≡ x + amount → amount ≤ f → l ≡ r → l2 ≡ r2
load_change true l l1 l2 r r1 r2 x y a f g amount row member redeemed granted loaded enough equal = omega arith
load_change false l l1 l2 r r1 r2 x y a f g amount row member redeemed granted loaded enough equal = omega arith

-- the holder of a purse of m counts where m is chosen
counts_as : (chosen : Choice) (m : Name) (o : Option Name) → is_of m o ≡ true → is_chosen chosen o ≡ chosen m
counts_as chosen m None t = absurd (cc)
counts_as chosen m (Some x) t = ap chosen (sym (same_name m x t))

module _ (w : World) (m p : Name) (amount : ℕ) (reference : Name) (load : IsLoad w m p amount reference) (is : IsAccounted w) where
  abbrev new : Row
  new = loaded_row amount reference load.row

  abbrev paid : MemberRow
  paid = record load.member { float = load.member.float - amount }

  abbrev after_load : World
  after_load = with_member (set_row w p new) m paid

  redemptions : new.holding.redemptions ≡ load.row.holding.redemptions
  redemptions = loaded_redemptions load.row.holding amount reference

  new_left : left_row new ≡ left_row load.row + amount
  new_left =
      let e1 : uncollected_row new ≡ uncollected_row load.row = ap (sum_entries (λ k n. cond (fmap.contains_key load.row.collected k) 0 n)) redemptions in
      let e2 : issued_row new ≡ issued_row load.row + amount = sum_values-new (λ n. n) load.row.loads reference amount load.fresh in
      omega (arith, e1, e2)

  new_right : redeemed_row new ≡ redeemed_row load.row
  new_right = ap (sum_values (λ n. n)) redemptions

  loaded_equal : (chosen : Choice) → left after_load chosen ≡ right after_load chosen
  loaded_equal chosen =
      let w1 : World = set_row w p new in
      let counts : is_counted w chosen load.row ≡ chosen m = counts_as chosen m (fmap.get w.holders load.row.holder) load.owned in
      load_change (chosen m) (left w chosen) (left w1 chosen) (left after_load chosen) (right w chosen) (right w1 chosen) (right after_load chosen)
      (left_row load.row) (left_row new) (redeemed_row load.row) load.member.float load.member.granted amount
      (subst (λ c. left w1 chosen + cond c (left_row load.row) 0 ≡ left w chosen + cond c (left_row new) 0) counts (left_set w p new load.row load.at refl chosen))
      (left_member w1 m paid load.member load.there chosen)
      (subst (λ n. right w1 chosen + cond (chosen m) (redeemed_row load.row) 0 ≡ right w chosen + cond (chosen m) n 0) new_right
      (subst (λ c. right w1 chosen + cond c (redeemed_row load.row) 0 ≡ right w chosen + cond c (redeemed_row new) 0) counts (right_set w p new load.row load.at refl chosen)))
      (right_member w1 m paid load.member load.there chosen)
      new_left load.enough (is.equal chosen)

  new_is_row : IsRow w.holders new
  new_is_row = record { holder = (is.rows p load.row load.at).holder; collected = λ k t. subst (λ x. IsSome (fmap.get x k)) (sym redemptions) ((is.rows p load.row load.at).collected k t) }

  loaded_accounted : IsAccounted after_load
  loaded_accounted = record { equal = loaded_equal; rows = rows_stay w p new new_is_row is }

-- ---- a collect

-- each redemption is collected
abbrev mark : ℕ → Option (Unit {0})
mark amount = Some tt

mark_found : (o : Option ℕ) → is_some (option_and_then mark o) ≡ true → IsSome o
mark_found None t = t
mark_found (Some n) t = refl

-- nothing is left to collect of a row that is collected
nothing_left : (r : Row) → uncollected_row (with_collected r) ≡ 0
nothing_left r =
    sum_entries-same (λ k n. cond (fmap.contains_key (with_collected r).collected k) 0 n) (λ k n. 0) r.holding.redemptions
    (λ k n at. ap (λ o. cond (is_some o) 0 n) (get-pick names_total mark r.holding.redemptions k ∙ ap (option_and_then mark) at))
    ∙ sym (values_are (λ n. 0) r.holding.redemptions)
    ∙ sum_values-zero r.holding.redemptions

collect_change : (c : Bool) (l l1 l2 r r1 r2 f g u : ℕ) → l1 + cond c u 0 ≡ l → l2 + cond c f 0 ≡ l1 + cond c (f + u) 0 → r1 ≡ r → r2 + cond c g 0 ≡ r1 + cond c g 0 → l ≡ r → l2 ≡ r2
collect_change true l l1 l2 r r1 r2 f g u rows member redeemed granted equal = omega arith
collect_change false l l1 l2 r r1 r2 f g u rows member redeemed granted equal = omega arith

module _ (w : World) (m : Name) where
  -- the row that stands in the place of another
  abbrev taken : Name → Row → Row
  taken p r = cond (is_of_member w m r) (with_collected r) r

  module _ (chosen : Choice) where
    collected_sum : (f : Row → ℕ) → of_purses (all_collected w m) chosen f ≡ sum_entries (λ p r. counted w chosen f (taken p r)) w.rows
    collected_sum f = sum_values-remake taken (counted w chosen f) w.rows

    same_case : (f : Row → ℕ) (r : Row) (b : Bool) → f (with_collected r) ≡ f r → counted w chosen f (cond b (with_collected r) r) ≡ counted w chosen f r
    same_case f r true same = ap (λ n. cond (is_counted w chosen r) n 0) same
    same_case f r false same = refl

    -- what doesn't look at what is collected
    same_purses_sum : (f : Row → ℕ) → ((r : Row) → f (with_collected r) ≡ f r) → of_purses (all_collected w m) chosen f ≡ of_purses w chosen f
    same_purses_sum f same =
        collected_sum f
        ∙ sum_entries-same (λ p r. counted w chosen f (taken p r)) (λ p r. counted w chosen f r) w.rows (λ p r _. same_case f r (is_of_member w m r) (same r))
        ∙ sym (values_are (counted w chosen f) w.rows)

    -- what the member collects of a row, where the member is chosen
    abbrev gained : Row → ℕ
    gained r = cond (chosen m) (cond (is_of_member w m r) (uncollected_row r) 0) 0

    gained_case : (r : Row) (b : Bool) → is_of_member w m r ≡ b → counted w chosen uncollected_row (cond b (with_collected r) r) + cond (chosen m) (cond b (uncollected_row r) 0) 0 ≡ counted w chosen uncollected_row r
    gained_case r true t =
        let counts : is_counted w chosen r ≡ chosen m = counts_as chosen m (fmap.get w.holders r.holder) t in
        let e1 : counted w chosen uncollected_row (with_collected r) ≡ 0 = ap (λ n. cond (is_counted w chosen r) n 0) (nothing_left r) ∙ none_counts (is_counted w chosen r) in
        let e2 : counted w chosen uncollected_row r ≡ cond (chosen m) (uncollected_row r) 0 = ap (λ c. cond c (uncollected_row r) 0) counts in
        omega (arith, e1, e2)
    gained_case r false t = omega (arith, none_counts (chosen m))

    gained_sum : (b : Bool) → sum_values (λ r. cond b (cond (is_of_member w m r) (uncollected_row r) 0) 0) w.rows ≡ cond b (uncollected_of w m) 0
    gained_sum true = refl
    gained_sum false = sum_values-zero w.rows

    open_sum : of_purses (all_collected w m) chosen uncollected_row + cond (chosen m) (uncollected_of w m) 0 ≡ of_purses w chosen uncollected_row
    open_sum =
        (λ i. collected_sum uncollected_row i + (sym (gained_sum (chosen m)) ∙ values_are gained w.rows) i)
        ∙ sum_entries-add (λ p r. counted w chosen uncollected_row (taken p r)) (λ p r. gained r) w.rows
        ∙ sum_entries-same _ _ w.rows (λ p r _. gained_case r (is_of_member w m r) refl)
        ∙ sym (values_are (counted w chosen uncollected_row) w.rows)

    collected_left_side : left (all_collected w m) chosen + cond (chosen m) (uncollected_of w m) 0 ≡ left w chosen
    collected_left_side =
        let e1 : of_purses (all_collected w m) chosen uncollected_row + cond (chosen m) (uncollected_of w m) 0 ≡ of_purses w chosen uncollected_row = open_sum in
        let e2 : of_purses (all_collected w m) chosen issued_row ≡ of_purses w chosen issued_row = same_purses_sum issued_row (λ r. refl) in
        omega (arith, e1, e2)

    collected_right_side : right (all_collected w m) chosen ≡ right w chosen
    collected_right_side =
        let e1 : of_purses (all_collected w m) chosen redeemed_row ≡ of_purses w chosen redeemed_row = same_purses_sum redeemed_row (λ r. refl) in
        omega (arith, e1)

  collected_rows : IsAccounted w → (p : Name) (y : Row) → fmap.get (all_collected w m).rows p ≡ Some y → IsRow w.holders y
  collected_rows is p = by_collected (λ a b. (y : Row) → b ≡ Some y → IsRow w.holders y) w m p (λ y e. cc) (λ r at.
      let old = is.rows p r at in
      let new : IsRow w.holders (with_collected r) = record { holder = old.holder; collected = λ k t. mark_found (fmap.get r.holding.redemptions k) (sym (ap is_some (get-pick names_total mark r.holding.redemptions k)) ∙ t) } in
      (λ y e. subst (IsRow w.holders) (inside r y e) old, λ y e. subst (IsRow w.holders) (inside (with_collected r) y e) new))

  collected_accounted : (row : MemberRow) → fmap.get w.members m ≡ Some row → IsAccounted w → IsAccounted (with_member (all_collected w m) m (record row { float = row.float + uncollected_of w m }))
  collected_accounted row at is =
      let new : MemberRow = record row { float = row.float + uncollected_of w m } in
      record {
        equal = λ chosen. collect_change (chosen m) _ _ _ _ _ _ row.float row.granted (uncollected_of w m) (collected_left_side chosen) (left_member (all_collected w m) m new row at chosen)
            (collected_right_side chosen) (right_member (all_collected w m) m new row at chosen) (is.equal chosen);
        rows = collected_rows is;
      }

-- ---- a settlement

pub settled_redemptions : (a : Holding) (d : Details) → (settled_holding a d).redemptions ≡ a.redemptions
unfolding settled_holding
settled_redemptions a d = by_cond (λ b. b.redemptions ≡ a.redemptions) (is_none (credit_refusal a.purse d.value)) _ a (λ _. refl) (λ _. refl)

-- ---- each command

base_accounted : (w : World) → IsAccounted w → (caller : Caller) (c : Command) → IsAccounted (base w caller c).state
base_accounted w is = by_moves w (λ _ _ d. IsAccounted d.state) (record {
  told = λ caller c x told. is;
  member = λ m t none free. let new = new_member_accounted w m (record { granted = 0; float = 0 }) none refl refl is in record { equal = new.equal; rows = new.rows };
  grant = λ m amount row at small room.
      let new : MemberRow = record { granted = row.granted + amount; float = row.float + amount } in
      record { equal = λ chosen. same_change (chosen m) _ _ _ _ row.float new.float row.granted new.granted (left_member w m new row at chosen) (right_member w m new row at chosen) (omega arith) (is.equal chosen); rows = is.rows };
  holder = λ m h t row there none free. let new = new_holder_accounted w h m none is in record { equal = new.equal; rows = new.rows };
  purse = λ m p h there none few.
      new_row_accounted w p (new_row h p) none (sum_entries-empty (λ k n. cond (fmap.contains_key fmap.empty k) 0 n)) (sum_values-empty (λ n. n)) (sum_values-empty (λ n. n))
      (record { holder = there; collected = λ k t. absurd (let f : true ≡ false = sym t ∙ ap is_some (fmap.get-empty name_cmp k) in cc) }) is;
  load = λ m p amount reference l. loaded_accounted w m p amount reference l is;
  collect = λ m row at room. collected_accounted w m row at is;
  archive = λ p. record { equal = is.equal; rows = is.rows };
  clear = λ p set may. is;
  settle = λ d s. let new = account_accounted w d.from s.row (settled_holding s.row.holding d) s.at is {may = false} (Same (settled_redemptions s.row.holding d)) in record { equal = new.equal; rows = new.rows };
  own = λ h c p f r e at owned. account_accounted w p r (f r.holding).state at is (subst (EachKeeps c) e (each_keeps c) r.holding).redeems;
})

step_accounted : (w : World) → IsAccounted w → (caller : Caller) (c : Command) → IsAccounted (step w caller c).world
unfolding step
step_accounted w is caller c =
    let d = base w caller c in
    let left = base_accounted w is caller c in
    by_after IsAccounted d left (λ m r e at. account_accounted d.state m.0 r (delivered r.holding m.1) at left {may = false} (Same refl)) (λ v x now e f. record { equal = now.equal; rows = now.rows })

-- ---- Worlds that commands lead to

pub reachable_accounted : (w : World) → IsReachable w → IsAccounted w
reachable_accounted = by_reachable IsAccounted (λ t bytes. opening_accounted t) (λ w c asked is. step_accounted w is c.0 c.1)

pub reachable_balanced : (w : World) → IsReachable w → IsBalanced w
reachable_balanced w r = is_balanced w (reachable_accounted w r)
