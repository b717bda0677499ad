-- The abstract purses have and have lost what the purses hold, what is under way and what is lost.
use Rattle.std.proofs.Common.{◌≡◌, ℕ, ◌+◌, Bool, true, false, cond, not, List, refl, sym, ◌∙◌, ap, Option, Some, None, ◌&&◌, arith, is_some}
use Rattle.std.specs.Prelude.{sum_by}
use Rattle.std.specs.Cmp.{both_ways}
use Rattle.std.specs.FinMap as fmap
use Rattle.mx_pay.specs.Names.{is_name}
use Rattle.mx_pay.specs.Details.{Details}
use Rattle.mx_pay.specs.Log.{Entries, logged}
use Rattle.mx_book.specs.Sums.{sum_entries, sum_values}
use Rattle.mx_book.specs.Totals.{balance_row, of_all, maybe_lost, still_lost, occurring, value_where, transit, lost}
use Rattle.mx_book.specs.World.{World, Row, Name}
use Rattle.mx_book.proofs.NameLemmas.{names_total, names_exact, same_name, name_itself}
use Rattle.mx_book.proofs.SumLemmas.{value_of, total, total_is, total_same, total_swap, total_key}
use Rattle.mx_office.specs.Abstract.{AbstractPurse, AccountsFor, ChosenLost, counts_lost, counts_received, received_by, abstract_purse, abstract_of}
use Rattle.mx_office.specs.Reachable.{IsReachable}
use Rattle.mx_office.proofs.ConservedLemmas.{value_split}
use Rattle.mx_office.proofs.EntrySumLemmas.{two_sums, sum_values-remake, sum_entries-add, values_are}
use Rattle.mx_office.proofs.FateLemmas.{never_received, never_lost, one_of_two}
use Rattle.mx_office.proofs.SaneCommandLemmas.{reachable_sane}
use Rattle.mx_office.proofs.SeenLemmas.{clash}
use Rattle.mx_office.proofs.SeenWorldLemmas.{Invariant, flowing, flow_parts, side_there}

-- ---- the details of each purse are all details

names_turned : (a b : Name) → is_name a b ≡ is_name b a
names_turned a b = both_ways _ _ (λ t. ap (is_name b) (same_name a b t) ∙ name_itself b) (λ t. ap (is_name a) (same_name b a t) ∙ name_itself a)

module _ (rows : fmap.FinMap Rattle.mx_pay.specs.Names.name_cmp Row) (own : Details → Name) (t : Details → Bool) (set : Entries) (there : (d : Details) → t d ≡ true → is_some (fmap.get rows (own d)) ≡ true) where
  abbrev worth : Details → ℕ
  worth d = cond (t d) d.value 0

  key_case : (a b : Bool) (n : ℕ) → cond (a && b) n 0 ≡ cond a (cond b n 0) 0
  key_case true b n = refl
  key_case false b n = refl

  there_value : (d : Details) (b : Bool) (o : Option Row) → (b ≡ true → is_some o ≡ true) → value_of (λ (r : Row). cond b d.value 0) o ≡ cond b d.value 0
  there_value d true None h = clash false (h refl) refl
  there_value d false None h = refl
  there_value d b (Some r) h = refl

  one_row : (d : Details) → total (λ (e : Name × Row). cond (is_name e.0 (own d) && t d) d.value 0) (fmap.entries rows) ≡ worth d
  one_row d =
      total_same _ _ (fmap.entries rows) (λ e. key_case (is_name e.0 (own d)) (t d) d.value ∙ ap (λ b. cond b (worth d) 0) (names_turned e.0 (own d)))
      ∙ total_key names_total names_exact (λ k r. worth d) (own d) rows
      ∙ there_value d (t d) (fmap.get rows (own d)) (there d)

  shared : sum_entries (λ p r. value_where (λ d. is_name p (own d) && t d) set) rows ≡ value_where t set
  unfolding sum_entries
  shared =
      total_is (λ (e : Name × Row). value_where (λ d. is_name e.0 (own d) && t d) set) (fmap.entries rows)
      ∙ total_same _ _ (fmap.entries rows) (λ e. total_is (λ (d : Details). cond (is_name e.0 (own d) && t d) d.value 0) (logged set))
      ∙ total_swap (λ (e : Name × Row) (d : Details). cond (is_name e.0 (own d) && t d) d.value 0) (fmap.entries rows) (logged set)
      ∙ total_same _ _ (logged set) one_row
      ∙ sym (total_is worth (logged set))

-- ---- both sums

module _ (w : World) (i : Invariant w) (c : ChosenLost) where
  flows_case : (d : Details) (t b : Bool) → (b ≡ false → t ≡ false) → t ≡ true → b ≡ true
  flows_case d t true h k = refl
  flows_case d t false h k = clash t k (h refl)

  received_there : (d : Details) → counts_received w c d ≡ true → is_some (fmap.get w.rows d.to) ≡ true
  received_there d h = side_there w i _ d.to d (fmap.get w.rows d.to) refl (flow_parts w d (flows_case d _ (flowing w d) (never_received w i c d) h)).1

  lost_there : (d : Details) → counts_lost w c d ≡ true → is_some (fmap.get w.rows d.from) ≡ true
  lost_there d h = side_there w i _ d.from d (fmap.get w.rows d.from) refl (flow_parts w d (flows_case d _ (flowing w d) (never_lost w i c d) h)).0

  balances_are : sum_values (λ (x : AbstractPurse). x.balance) (abstract_of w c) ≡ of_all w balance_row + value_where (counts_received w c) (occurring w)
  balances_are =
      sum_values-remake (abstract_purse w c) (λ x. x.balance) w.rows
      ∙ sym (sum_entries-add (λ p r. balance_row r) (λ p r. received_by w c p) w.rows)
      ∙ (λ k. sym (values_are balance_row w.rows) k + shared w.rows (λ d. d.to) (counts_received w c) (occurring w) received_there k)

  losses_are : sum_values (λ (x : AbstractPurse). x.lost) (abstract_of w c) ≡ value_where (counts_lost w c) (occurring w)
  losses_are = sum_values-remake (abstract_purse w c) (λ x. x.lost) w.rows ∙ shared w.rows (λ d. d.from) (counts_lost w c) (occurring w) lost_there

  counted_once : (f r l : Bool) (n : ℕ) → (f ≡ true → l ≡ not r) → (f ≡ false → r ≡ false) → (f ≡ false → l ≡ false) → cond r n 0 + cond l n 0 ≡ cond f n 0
  counted_once true true l n h x y = let e : cond l n 0 ≡ 0 = ap (λ b. cond b n 0) (h refl) in omega (arith, e)
  counted_once true false l n h x y = let e : cond l n 0 ≡ n = ap (λ b. cond b n 0) (h refl) in omega (arith, e)
  counted_once false r l n h x y = let e : cond r n 0 ≡ 0 = ap (λ b. cond b n 0) (x refl) in let g : cond l n 0 ≡ 0 = ap (λ b. cond b n 0) (y refl) in omega (arith, e, g)

  accounts : AccountsFor w c
  accounts =
      let all : List Details = logged (occurring w) in
      let e1 : value_where (counts_received w c) (occurring w) + value_where (counts_lost w c) (occurring w) ≡ sum_by (λ d. cond (flowing w d) d.value 0) all =
      two_sums (λ d. cond (counts_received w c d) d.value 0) (λ d. cond (counts_lost w c d) d.value 0) (λ d. cond (flowing w d) d.value 0)
      (λ d. counted_once (flowing w d) (counts_received w c d) (counts_lost w c d) d.value (one_of_two w i c d) (never_received w i c d) (never_lost w i c d)) all in
      let e2 : transit w + lost w ≡ sum_by (λ d. cond (flowing w d) d.value 0) all =
      two_sums (λ d. cond (maybe_lost w d) d.value 0) (λ d. cond (still_lost w d) d.value 0) (λ d. cond (flowing w d) d.value 0) (value_split w i) all in
      let e3 : sum_values (λ (x : AbstractPurse). x.balance) (abstract_of w c) ≡ of_all w balance_row + value_where (counts_received w c) (occurring w) = balances_are in
      let e4 : sum_values (λ (x : AbstractPurse). x.lost) (abstract_of w c) ≡ value_where (counts_lost w c) (occurring w) = losses_are in
      omega (arith, e1, e2, e3, e4)

pub reachable_accounts : (w : World) (c : ChosenLost) → IsReachable w → AccountsFor w c
reachable_accounts w c r = accounts w (reachable_sane w r).invariant c
