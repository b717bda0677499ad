-- Sums of purses that count: the sum over all rows is the sum over the purses of the sums over their rows.
use Rattle.std.proofs.Common.{◌≡◌, ℕ, ◌+◌, Bool, true, cond, List, [], ◌∷◌, refl, sym, ◌∙◌, ap, arith, Option, Some, None, T}
use Rattle.std.specs.declared.cmp.Ordering.{Ordering}
use Rattle.std.specs.declared.cmp.Ordering.TheVariants.{Equal}
use Rattle.std.specs.Cmp.{IsTotalOrder, eq_by_cmp_equiv}
use Rattle.std.specs.FinMap as fmap
use Rattle.std.specs.FinMap.Entries.{find, is_sorted, below_all}
use Rattle.mx_pay.specs.Names.{name_cmp, is_name}
use Rattle.mx_book.specs.declared.values.PurseRow.{PurseRow}
use Rattle.mx_book.specs.declared.values.Redemption.{Redemption}
use Rattle.mx_book.specs.Maps.{pick, picked}
use Rattle.mx_book.specs.Under.{pair_cmp, under, those, remade}
use Rattle.mx_book.specs.Sums.{sum_values, sum_entries}
use Rattle.mx_book.proofs.SumLemmas.{total, total_is}
use Rattle.mx_book.specs.World.{World, Row, Name, is_of_member}
use Rattle.mx_book.specs.Rows.{Rows, world_of, row_of, amount_of, mark_of, IsProper, NoStray}
use Rattle.mx_book.specs.Reads.{uncollected_row}
use Rattle.mx_book.specs.Totals.{issued_row, redeemed_row, balance_row}
use Rattle.mx_book.specs.declared.values.Scope.{Scope}
use Rattle.mx_book.specs.declared.values.Scope.TheVariants.{Scheme, Member}
use Rattle.mx_book.specs.RowReads.{is_counted, counted_of, uncollected_amount, row_uncollected_of}
use Rattle.mx_book.specs.RowTotals.{row_issued_of, row_redeemed_of, counted_balance, row_balances_of}
use Rattle.mx_book.proofs.NameLemmas.{names_total, same_name}
use Rattle.mx_book.proofs.FoundLemmas.{none_found}
use Rattle.mx_book.proofs.MapLemmas.{AllEntries, all_entries, entries-pick, get-pick}
use Rattle.mx_book.proofs.UnderLemmas.{entries-under, entries-remake, pair_total}

-- ---- sums

-- n for each purse of that name
abbrev hits : List (Name × PurseRow) → Name → ℕ → ℕ
hits ps q n = total (λ (p : Name × PurseRow). cond (is_name q p.0) n 0) ps

module _ {K V : Type 0} (f : Name × K → V → ℕ) where
  -- over all rows
  abbrev flat : List ((Name × K) × V) → ℕ
  flat es = total (λ (e : (Name × K) × V). f e.0 e.1) es

  -- over the rows of one purse
  abbrev of_one : Name → List ((Name × K) × V) → ℕ
  of_one p es = total (λ (e : K × V). f (p, e.0) e.1) (those name_cmp p es)

  abbrev by_purse : List (Name × PurseRow) → List ((Name × K) × V) → ℕ
  by_purse ps es = total (λ (p : Name × PurseRow). of_one p.0 es) ps

  one_case : (p : Name) (e : (Name × K) × V) (es : List ((Name × K) × V)) → of_one p (e ∷ es) ≡ cond (is_name e.0.0 p) (f e.0 e.1) 0 + of_one p es
  one_case p e es = grind (arith, same_name p e.0.0, (eq_by_cmp_equiv names_total).symm p e.0.0)

  more : (ps : List (Name × PurseRow)) (e : (Name × K) × V) (es : List ((Name × K) × V)) → by_purse ps (e ∷ es) ≡ hits ps e.0.0 (f e.0 e.1) + by_purse ps es
  more [] e es = omega arith
  more (p ∷ ps) e es = omega (arith, one_case p.0 e es, more ps e es)

  none_of : (ps : List (Name × PurseRow)) → by_purse ps [] ≡ 0
  none_of [] = refl
  none_of (p ∷ ps) = omega (arith, none_of ps)

miss : (ps : List (Name × PurseRow)) (q x : Name) (n : ℕ) → name_cmp q x ≡ Equal → T (below_all name_cmp x ps) → hits ps q n ≡ 0
miss [] q x n t h = refl
miss (p ∷ ps) q x n t h = grind (arith, miss ps q x n t, names_total.congr q x p.0 t)

-- exactly one purse has the name
hit : (ps : List (Name × PurseRow)) (q : Name) (n : ℕ) (x : PurseRow) → T (is_sorted name_cmp ps) → find name_cmp q ps ≡ Some x → hits ps q n ≡ n
hit [] q n x h at = absurd (cc)
hit (p ∷ ps) q n x h at = grind (arith, hit ps q n x, miss ps q p.0 n)

abbrev HasPurse : {K V : Type 0} → List (Name × PurseRow) → Name × K → V → Type 0
HasPurse ps k v = (x : PurseRow) × (find name_cmp k.0 ps ≡ Some x)

flat_is : {K V : Type 0} (f : Name × K → V → ℕ) (ps : List (Name × PurseRow)) (es : List ((Name × K) × V)) → T (is_sorted name_cmp ps) → AllEntries (HasPurse ps) es → flat f es ≡ by_purse f ps es
flat_is f ps [] h all = sym (none_of f ps)
flat_is f ps (e ∷ es) h all =
    let here = hit ps e.0.0 (f e.0 e.1) all.0.0 h all.0.1 in
    let rest = flat_is f ps es h all.1 in
    let step = more f ps e es in
    omega (arith, here, rest, step)

purse_found : {K V : Type 0} (R : K → K → Ordering) (purses : fmap.FinMap name_cmp PurseRow) (m : fmap.FinMap (pair_cmp name_cmp R) V) → NoStray R purses m
    → (q : Name × K) (v : V) (o : Option PurseRow) → fmap.get purses q.0 ≡ o → fmap.get m q ≡ Some v → HasPurse {V = V} (fmap.entries purses) q v
purse_found R purses m none q v None at here = none_found (fmap.get m q) v (none q.0 q.1 at) here
purse_found R purses m none q v (Some x) at here = (x, sym (fmap.get-entries purses q.0) ∙ at)

-- the sum over all rows
sum_under : {K V : Type 0} (R : K → K → Ordering) (t : IsTotalOrder R) (f : Name × K → V → ℕ) (purses : fmap.FinMap name_cmp PurseRow) (m : fmap.FinMap (pair_cmp name_cmp R) V) → NoStray R purses m
    → flat f (fmap.entries m) ≡ by_purse f (fmap.entries purses) (fmap.entries m)
sum_under R t f purses m none = flat_is f (fmap.entries purses) (fmap.entries m) (fmap.entries_sorted purses)
    (all_entries (pair_total names_total t) (HasPurse (fmap.entries purses)) m (λ q v at. purse_found R purses m none q v (fmap.get purses q.0) refl at))

-- ---- the purses that count

abbrev pub row_counts : World → Scope → Row → Bool
row_counts w Scheme row = true
row_counts w (Member m) row = is_of_member w m row

counts_is : (r : Rows) (scope : Scope) (p : Name) (x : PurseRow) → row_counts (world_of r) scope (row_of r p x) ≡ is_counted r.holders scope (Some x)
counts_is r Scheme p x = refl
counts_is r (Member m) p x = refl

scaled : {K V : Type 0} (c : Bool) (g : V → ℕ) (es : List (K × V)) → total (λ (e : K × V). cond c (g e.1) 0) es ≡ cond c (total (λ (e : K × V). g e.1) es) 0
scaled c g [] = grind arith
scaled c g (e ∷ es) = grind (arith, scaled c g es)

module _ (r : Rows) (scope : Scope) where
  -- a number of each purse that counts
  abbrev of_row : (Row → ℕ) → Row → ℕ
  of_row f row = cond (row_counts (world_of r) scope row) (f row) 0

  module _ {V : Type 0} (f : Row → ℕ) (g : V → ℕ) (m : fmap.FinMap (pair_cmp name_cmp name_cmp) V) (each : (p : Name) (x : PurseRow) → f (row_of r p x) ≡ total (λ (e : Name × V). g e.1) (those name_cmp p (fmap.entries m))) where
    abbrev counted : Name × Name → V → ℕ
    counted = counted_of r.purses r.holders scope g

    row_is : (p : Name) (x : PurseRow) → fmap.get r.purses p ≡ Some x → of_row f (row_of r p x) ≡ of_one counted p (fmap.entries m)
    row_is p x at =
        let es = those name_cmp p (fmap.entries m) in
        ap (λ b. cond b (f (row_of r p x)) 0) (counts_is r scope p x)
        ∙ ap (λ n. cond (is_counted r.holders scope (Some x)) n 0) (each p x)
        ∙ sym (scaled (is_counted r.holders scope (Some x)) g es)
        ∙ ap (λ o. total (λ (e : Name × V). cond (is_counted r.holders scope o) (g e.1) 0) es) (sym at)

    rows_are : (ps : List (Name × PurseRow)) → AllEntries (λ p x. fmap.get r.purses p ≡ Some x) ps → total (λ (e : Name × Row). of_row f e.1) (remade (row_of r) ps) ≡ by_purse counted ps (fmap.entries m)
    rows_are [] h = refl
    rows_are (p ∷ ps) h = λ i. row_is p.0 p.1 h.0 i + rows_are ps h.1 i

    -- the sum over the purses that count is the sum over their rows
    sum_is : NoStray name_cmp r.purses m → sum_values (of_row f) (world_of r).rows ≡ sum_entries counted m
    unfolding sum_values sum_entries
    sum_is none =
        total_is (λ (e : Name × Row). of_row f e.1) (fmap.entries (world_of r).rows)
        ∙ ap (total (λ (e : Name × Row). of_row f e.1)) (entries-remake name_cmp (row_of r) r.purses)
        ∙ rows_are (fmap.entries r.purses) (all_entries names_total (λ p x. fmap.get r.purses p ≡ Some x) r.purses (λ p x at. at))
        ∙ sym (total_is (λ (e : (Name × Name) × V). counted e.0 e.1) (fmap.entries m) ∙ sum_under name_cmp names_total counted r.purses m none)

-- ---- what the loads and the redemptions of one purse come to

issued_of : (r : Rows) (p : Name) (x : PurseRow) → issued_row (row_of r p x) ≡ total (λ (e : Name × ℕ). e.1) (those name_cmp p (fmap.entries r.loads))
unfolding sum_values
issued_of r p x =
    total_is (λ (e : Name × ℕ). e.1) (fmap.entries (under name_cmp name_cmp p r.loads))
    ∙ ap (total (λ (e : Name × ℕ). e.1)) (entries-under name_cmp name_cmp names_total p r.loads)

amounts_are : (es : List (Name × Redemption)) → total (λ (e : Name × ℕ). e.1) (picked amount_of es) ≡ total (λ (e : Name × Redemption). e.1.amount) es
amounts_are [] = refl
amounts_are (e ∷ es) = ap (λ n. e.1.amount + n) (amounts_are es)

redeemed_of : (r : Rows) (p : Name) (x : PurseRow) → redeemed_row (row_of r p x) ≡ total (λ (e : Name × Redemption). e.1.amount) (those name_cmp p (fmap.entries r.redemptions))
unfolding sum_values
redeemed_of r p x =
    let u = under name_cmp name_cmp p r.redemptions in
    total_is (λ (e : Name × ℕ). e.1) (fmap.entries (pick amount_of u))
    ∙ ap (total (λ (e : Name × ℕ). e.1)) (entries-pick names_total amount_of u)
    ∙ amounts_are (fmap.entries u)
    ∙ ap (total (λ (e : Name × Redemption). e.1.amount)) (entries-under name_cmp name_cmp names_total p r.redemptions)

module _ (u : fmap.FinMap name_cmp Redemption) where
  abbrev left_at : Name × ℕ → ℕ
  left_at e = cond (fmap.contains_key (pick mark_of u) e.0) 0 e.1

  left_one : (e : Name × Redemption) → fmap.get u e.0 ≡ Some e.1 → left_at (e.0, e.1.amount) ≡ uncollected_amount e.1
  left_one e at = grind (arith, get-pick names_total mark_of u e.0)

  left_all : (es : List (Name × Redemption)) → AllEntries (λ k x. fmap.get u k ≡ Some x) es → total left_at (picked amount_of es) ≡ total (λ (e : Name × Redemption). uncollected_amount e.1) es
  left_all [] h = refl
  left_all (e ∷ es) h = λ i. left_one e h.0 i + left_all es h.1 i

  left_sum : sum_entries (λ ref amount. cond (fmap.contains_key (pick mark_of u) ref) 0 amount) (pick amount_of u) ≡ total (λ (e : Name × Redemption). uncollected_amount e.1) (fmap.entries u)
  unfolding sum_entries
  left_sum = total_is left_at (fmap.entries (pick amount_of u)) ∙ ap (total left_at) (entries-pick names_total amount_of u)
      ∙ left_all (fmap.entries u) (all_entries names_total (λ k x. fmap.get u k ≡ Some x) u (λ k x at. at))

left_under : (r : Rows) (p : Name) (x : PurseRow) → uncollected_row (row_of r p x) ≡ total (λ (e : Name × Redemption). uncollected_amount e.1) (those name_cmp p (fmap.entries r.redemptions))
left_under r p x =
    left_sum (under name_cmp name_cmp p r.redemptions)
    ∙ ap (total (λ (e : Name × Redemption). uncollected_amount e.1)) (entries-under name_cmp name_cmp names_total p r.redemptions)

-- ---- and of all that count

module _ (r : Rows) (scope : Scope) where
  pub issued_is : IsProper r → sum_values (of_row r scope issued_row) (world_of r).rows ≡ row_issued_of r scope
  issued_is h = sum_is r scope issued_row (λ n. n) r.loads (issued_of r) h.loads

  pub redeemed_is : IsProper r → sum_values (of_row r scope redeemed_row) (world_of r).rows ≡ row_redeemed_of r scope
  redeemed_is h = sum_is r scope redeemed_row (λ (x : Redemption). x.amount) r.redemptions (redeemed_of r) h.redemptions

  pub uncollected_is : IsProper r → sum_values (of_row r scope uncollected_row) (world_of r).rows ≡ row_uncollected_of r scope
  uncollected_is h = sum_is r scope uncollected_row uncollected_amount r.redemptions (left_under r) h.redemptions

  balances_listed : (ps : List (Name × PurseRow)) → total (λ (e : Name × Row). of_row r scope balance_row e.1) (remade (row_of r) ps) ≡ total (λ (e : Name × PurseRow). counted_balance r.holders scope e.1) ps
  balances_listed [] = refl
  balances_listed (p ∷ ps) = λ i. cond (counts_is r scope p.0 p.1 i) p.1.purse.balance 0 + balances_listed ps i

  pub balances_are : sum_values (of_row r scope balance_row) (world_of r).rows ≡ row_balances_of r scope
  unfolding sum_values
  balances_are =
      total_is (λ (e : Name × Row). of_row r scope balance_row e.1) (fmap.entries (world_of r).rows)
      ∙ ap (total (λ (e : Name × Row). of_row r scope balance_row e.1)) (entries-remake name_cmp (row_of r) r.purses)
      ∙ balances_listed (fmap.entries r.purses)
      ∙ sym (total_is (λ (e : Name × PurseRow). counted_balance r.holders scope e.1) (fmap.entries r.purses))
