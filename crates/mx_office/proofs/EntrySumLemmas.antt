-- Sums over the entries and the keys of a map.
use Rattle.std.proofs.Common.{◌≡◌, ℕ, ◌+◌, ◌≤◌, Bool, true, false, cond, List, [], ◌∷◌, refl, sym, ◌∙◌, ap, subst, Option, Some, None, option_map, T, arith, map, is_some}
use Rattle.std.specs.Prelude.{sum_by}
use Rattle.std.specs.declared.cmp.Ordering.{Ordering}
use Rattle.std.specs.declared.cmp.Ordering.TheVariants.{Less}
use Rattle.std.specs.Ordering.{eq_by_cmp, is_eq}
use Rattle.std.specs.Cmp.{IsTotalOrder, tied_itself}
use Rattle.std.specs.FinMap as fmap
use Rattle.std.specs.FinMap.{FinMap, IsAntisymmetric, get, insert, entries}
use Rattle.std.specs.FinMap.Entries.{find, put, is_sorted, below_all}
use Rattle.mx_pay.specs.Names.{name_cmp, is_name}
use Rattle.mx_pay.proofs.TestLemmas.{first_true, second_true, is_equal}
use Rattle.mx_book.specs.Sums.{sum_entries, sum_values}
use Rattle.mx_book.specs.Under.{remake, remade}
use Rattle.mx_book.specs.World.{Name}
use Rattle.mx_book.proofs.MapLemmas.{find_below}
use Rattle.mx_book.proofs.NameLemmas.{names_total, names_exact}
use Rattle.mx_book.proofs.SumLemmas.{value_of, total, total_is, total_same, total_zero, total_add, total_map, total_entries, total_key, sum_values-insert}
use Rattle.mx_book.proofs.UnderLemmas.{entries-remake, get-remake, entries_empty}

abbrev pub number : Option ℕ → ℕ
number o = value_of (λ n. n) o

-- ---- a sum by key and value is the sum of a map with new values

remade_total : {K X Y : Type 0} (f : K → X → Y) (g : Y → ℕ) (es : List (K × X)) → total (λ (e : K × Y). g e.1) (remade f es) ≡ total (λ (e : K × X). g (f e.0 e.1)) es
remade_total f g [] = refl
remade_total f g (e ∷ es) = ap (λ n. g (f e.0 e.1) + n) (remade_total f g es)

pub sum_values-remake : {K X Y : Type 0} {R : K → K → Ordering} (f : K → X → Y) (g : Y → ℕ) (m : FinMap R X) → sum_values g (remake f m) ≡ sum_entries (λ k x. g (f k x)) m
unfolding sum_entries sum_values
sum_values-remake {K = K} {X = X} {Y = Y} {R = R} f g m =
    ap (sum_by (λ (e : K × Y). g e.1)) (entries-remake R f m) ∙ total_is _ (remade f (entries m)) ∙ remade_total f g (entries m) ∙ sym (total_is (λ (e : K × X). g (f e.0 e.1)) (entries m))

-- a sum by value is one by key and value
pub values_are : {X : Type 0} (f : X → ℕ) (m : FinMap name_cmp X) → sum_values f m ≡ sum_entries (λ k x. f x) m
unfolding sum_entries sum_values
values_are f m = refl

-- ---- sums of a list

-- two sums that are a third
pub two_sums : {X : Type 0} (f g h : X → ℕ) → ((x : X) → f x + g x ≡ h x) → (xs : List X) → sum_by f xs + sum_by g xs ≡ sum_by h xs
two_sums f g h same xs = (λ i. total_is f xs i + total_is g xs i) ∙ sym (total_add f g xs) ∙ total_same _ h xs same ∙ sym (total_is h xs)

module _ {X : Type 0} where
  -- sums that agree on each entry that is there
  pub sum_entries-same : (f g : Name → X → ℕ) (m : FinMap name_cmp X) → ((k : Name) (x : X) → get m k ≡ Some x → f k x ≡ g k x) → sum_entries f m ≡ sum_entries g m
  unfolding sum_entries
  sum_entries-same f g m same = total_is _ (entries m) ∙ total_entries names_total f g m same ∙ sym (total_is (λ (e : Name × X). g e.0 e.1) (entries m))

  pub sum_values-same : (f g : X → ℕ) (m : FinMap name_cmp X) → ((k : Name) (x : X) → get m k ≡ Some x → f x ≡ g x) → sum_values f m ≡ sum_values g m
  sum_values-same f g m same = values_are f m ∙ sum_entries-same (λ k x. f x) (λ k x. g x) m same ∙ sym (values_are g m)

  pub sum_values-zero : (m : FinMap name_cmp X) → sum_values (λ x. 0) m ≡ 0
  unfolding sum_values
  sum_values-zero m = total_is (λ (e : Name × X). 0) (entries m) ∙ total_zero (entries m)

  pub sum_entries-add : (f g : Name → X → ℕ) (m : FinMap name_cmp X) → sum_entries f m + sum_entries g m ≡ sum_entries (λ k x. f k x + g k x) m
  unfolding sum_entries
  sum_entries-add f g m = two_sums (λ (e : Name × X). f e.0 e.1) (λ e. g e.0 e.1) _ (λ e. refl) (entries m)

  -- ---- a sum of nothing, and of one entry alone

  pub sum_entries-empty : (f : Name → X → ℕ) → sum_entries f (fmap.empty {X = X} {R = name_cmp}) ≡ 0
  unfolding sum_entries
  sum_entries-empty f = ap (sum_by (λ (e : Name × X). f e.0 e.1)) (entries_empty {V = X} name_cmp)

  pub sum_values-empty : (f : X → ℕ) → sum_values f (fmap.empty {X = X} {R = name_cmp}) ≡ 0
  sum_values-empty f = values_are f fmap.empty ∙ sum_entries-empty (λ k x. f x)

  -- the number of the entry at k, and nothing of the others
  abbrev at_key : Name → (X → ℕ) → Name → X → ℕ
  at_key k f q x = cond (is_name k q) (f x) 0

  pub sum_entries-one : (f : X → ℕ) (m : FinMap name_cmp X) (k : Name) (x : X) → get m k ≡ Some x → sum_entries (at_key k f) m ≡ f x
  unfolding sum_entries
  sum_entries-one f m k x at = total_is _ (entries m) ∙ total_key names_total names_exact (λ q y. f y) k m ∙ ap (value_of f) at

  -- ---- a write

  name_below : (k x : Name) (es : List (Name × X)) → name_cmp k x ≡ Less → T (below_all name_cmp x es) → find name_cmp k es ≡ None
  name_below k x [] l h = refl
  name_below k x (e ∷ es) l h = grind (arith, name_below k x es, names_total.trans k x e.0)

  entry-put : (f : Name → X → ℕ) (k : Name) (v : X) (es : List (Name × X)) → T (is_sorted name_cmp es)
      → total (λ (e : Name × X). f e.0 e.1) (put name_cmp k v es) + value_of (f k) (find name_cmp k es) ≡ total (λ (e : Name × X). f e.0 e.1) es + f k v
  entry-put f k v [] h = omega arith
  entry-put f k v (e ∷ es) h = grind (arith, entry-put f k v es, name_below k e.0 es, names_exact k e.0)

  -- a value that is set takes the place of the one before
  pub sum_entries-insert : (f : Name → X → ℕ) (m : FinMap name_cmp X) (k : Name) (v : X) → sum_entries f (insert m k v) + value_of (f k) (get m k) ≡ sum_entries f m + f k v
  unfolding sum_entries
  sum_entries-insert f m k v =
      (λ i. (total_is (λ (e : Name × X). f e.0 e.1) (entries (insert m k v)) ∙ ap (total (λ (e : Name × X). f e.0 e.1)) (fmap.entries-insert names_total m k v)) i + value_of (f k) (fmap.get-entries m k i))
      ∙ entry-put f k v (entries m) (fmap.entries_sorted m) ∙ ap (λ n. n + f k v) (sym (total_is (λ (e : Name × X). f e.0 e.1) (entries m)))

  -- a value under a new key is added
  pub sum_entries-new : (f : Name → X → ℕ) (m : FinMap name_cmp X) (k : Name) (v : X) → get m k ≡ None → sum_entries f (insert m k v) ≡ sum_entries f m + f k v
  sum_entries-new f m k v none = let old : value_of (f k) (get m k) ≡ 0 = ap (value_of (f k)) none in omega (arith, old, sum_entries-insert f m k v)

  pub sum_values-new : (f : X → ℕ) (m : FinMap name_cmp X) (k : Name) (v : X) → get m k ≡ None → sum_values f (insert m k v) ≡ sum_values f m + f v
  sum_values-new f m k v none = values_are f (insert m k v) ∙ sum_entries-new (λ q x. f x) m k v none ∙ ap (λ n. n + f v) (sym (values_are f m))

-- ---- listed keys, beside a map of numbers

pub sum-empty : {K : Type 0} {R : K → K → Ordering} → IsTotalOrder R → sum_values (λ n. n) (fmap.empty {X = ℕ} {R = R}) ≡ 0
unfolding sum_values
sum-empty {K = K} {R = R} o = ap (sum_by (λ (e : K × ℕ). e.1)) (entries_empty {V = ℕ} R)

module _ {K X : Type 0} {R : K → K → Ordering} (o : IsTotalOrder R) where
  -- a map has at least these numbers of entries
  abbrev HasMore : (K → X → ℕ) → List (K × X) → FinMap R ℕ → Type 0
  HasMore g es m = (q : K) (x : X) → find R q es ≡ Some x → g q x ≤ number (get m q)

  more_tail : (g : K → X → ℕ) (e : K × X) (es : List (K × X)) (m : FinMap R ℕ) → T (below_all R e.0 es) → HasMore g (e ∷ es) m
      → (q : K) (x : X) → find R q es ≡ Some x → (b : Bool) → eq_by_cmp R q e.0 ≡ b → g q x ≤ number (cond b (Some 0) (get m q))
  more_tail g e es m h is q x found true t = let none : find R q es ≡ None = find_below o q e.0 es (is_equal _ t) h in absurd (cc)
  more_tail g e es m h is q x found false t = is q x (ap (λ b. cond b (Some e.1) (find R q es)) t ∙ found)

  entries_within : (g : K → X → ℕ) (es : List (K × X)) → T (is_sorted R es) → (m : FinMap R ℕ) → HasMore g es m → total (λ (e : K × X). g e.0 e.1) es ≤ sum_values (λ n. n) m
  entries_within g [] h m is = omega arith
  entries_within g (e ∷ es) h m is =
      let below = first_true (below_all R e.0 es) (is_sorted R es) h in
      let rest : total (λ (x : K × X). g x.0 x.1) es ≤ sum_values (λ n. n) (insert m e.0 0) =
      entries_within g es (second_true (below_all R e.0 es) (is_sorted R es) h) (insert m e.0 0)
      (λ q x found. subst (λ y. g q x ≤ number y) (sym (fmap.get-insert o m e.0 0 q)) (more_tail g e es m below is q x found (eq_by_cmp R q e.0) refl)) in
      let at : g e.0 e.1 ≤ number (get m e.0) = is e.0 e.1 (ap (λ b. cond b (Some e.1) (find R e.0 es)) (ap is_eq (tied_itself o e.0))) in
      let step : sum_values (λ n. n) (insert m e.0 0) + number (get m e.0) ≡ sum_values (λ n. n) m + 0 = sum_values-insert o (λ n. n) m e.0 0 in
      omega (arith, rest, at, step)

module _ {K X : Type 0} {R : K → K → Ordering} (o : IsTotalOrder R) (f : K → ℕ) (s : FinMap R X) (m : FinMap R ℕ) where
  keys_are : sum_by f (map (λ (e : K × X). e.0) (entries s)) ≡ total (λ (e : K × X). f e.0) (entries s)
  keys_are = total_is f _ ∙ total_map f (λ (e : K × X). e.0) (entries s)

  pub sum-keys-within : ((q : K) → is_some (get s q) ≡ true → f q ≤ number (get m q)) → sum_by f (map (λ (e : K × X). e.0) (entries s)) ≤ sum_values (λ n. n) m
  sum-keys-within is =
      let within : total (λ (e : K × X). f e.0) (entries s) ≤ sum_values (λ n. n) m = entries_within o (λ k _. f k) (entries s) (fmap.entries_sorted s) m (λ q x found. is q (ap is_some (fmap.get-entries s q ∙ found))) in
      omega (arith, keys_are, within)

  pub sum-keys : IsAntisymmetric R → ((q : K) → number (get m q) ≡ cond (is_some (get s q)) (f q) 0) → sum_by f (map (λ (e : K × X). e.0) (entries s)) ≡ sum_values (λ n. n) m
  unfolding sum_entries sum_values
  sum-keys exact is =
      let made : FinMap R ℕ = remake (λ k _. f k) s in
      let less : sum_by f (map (λ (e : K × X). e.0) (entries s)) ≤ sum_values (λ n. n) m = sum-keys-within (λ q there. let e : number (get m q) ≡ f q = is q ∙ ap (λ b. cond b (f q) 0) there in omega (arith, e)) in
      let more : total (λ (e : K × ℕ). e.1) (entries m) ≤ sum_values (λ n. n) made = entries_within o (λ _ n. n) (entries m) (fmap.entries_sorted m) made (λ q n found.
      let e : n ≡ number (get made q) = ap number (sym found ∙ sym (fmap.get-entries m q)) ∙ is q ∙ made_number (f q) (get s q) ∙ ap number (sym (get-remake R (λ k _. f k) exact s q)) in omega (arith, e)) in
      let same : sum_values (λ n. n) made ≡ total (λ (e : K × X). f e.0) (entries s) = sum_values-remake (λ k _. f k) (λ n. n) s ∙ total_is _ (entries s) in
      let all : sum_values (λ n. n) m ≡ total (λ (e : K × ℕ). e.1) (entries m) = total_is _ (entries m) in
      omega (arith, less, more, same, all, keys_are)
    where
      made_number : (n : ℕ) (x : Option X) → cond (is_some x) n 0 ≡ number (option_map (λ _. n) x)
      made_number n None = refl
      made_number n (Some x) = refl
