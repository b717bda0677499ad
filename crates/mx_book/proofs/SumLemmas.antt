-- Sums over the values of a map.
use Rattle.std.proofs.Common.{◌≡◌, ℕ, ◌+◌, cond, List, [], ◌∷◌, map, refl, sym, ◌∙◌, ap, Option, Some, None, T, arith}
use Rattle.std.specs.Prelude.{sum_by}
use Rattle.std.specs.declared.cmp.Ordering.{Ordering}
use Rattle.std.specs.declared.cmp.Ordering.TheVariants.{Less, Equal}
use Rattle.std.specs.Ordering.{eq_by_cmp}
use Rattle.std.specs.Cmp.{IsTotalOrder}
use Rattle.std.specs.FinMap.{FinMap, IsAntisymmetric, get, insert, entries, entries_sorted, entries-insert, get-entries}
use Rattle.std.specs.FinMap.Entries.{find, put, is_sorted, below_all}
use Rattle.std.proofs.lemmas.List.Sums.{sum_by-cons}
use Rattle.mx_book.specs.Sums.{sum_values}
use Rattle.mx_book.proofs.MapLemmas.{AllEntries, all_entries}

abbrev pub value_of : {X : Type 0} → (X → ℕ) → Option X → ℕ
value_of f None = 0
value_of f (Some x) = f x

-- a sum, from the front
abbrev pub total : {X : Type 0} → (X → ℕ) → List X → ℕ
total f [] = 0
total f (x ∷ xs) = f x + total f xs

pub total_is : {X : Type 0} (f : X → ℕ) (xs : List X) → sum_by f xs ≡ total f xs
total_is f [] = refl
total_is f (x ∷ xs) = sum_by-cons f x xs ∙ ap (λ n. f x + n) (total_is f xs)

module _ {K X : Type 0} {R : K → K → Ordering} (o : IsTotalOrder R) (f : X → ℕ) where
  -- nothing is found below all
  none_below : (k x : K) (es : List (K × X)) → R k x ≡ Less → T (below_all R x es) → find R k es ≡ None
  none_below k x [] l h = refl
  none_below k x (e ∷ es) l h = grind (arith, none_below k x es, o.trans k x e.0)

  sum-put : (k : K) (v : X) (es : List (K × X)) → T (is_sorted R es) → total (λ e. f e.1) (put R k v es) + value_of f (find R k es) ≡ total (λ e. f e.1) es + f v
  sum-put k v [] h = omega arith
  sum-put k v (e ∷ es) h = grind (arith, sum-put k v es, none_below k e.0 es)

  -- a value that is set takes the place of the one before
  pub sum_values-insert : (m : FinMap R X) (k : K) (v : X) → sum_values f (insert m k v) + value_of f (get m k) ≡ sum_values f m + f v
  unfolding sum_values
  sum_values-insert m k v = grind (arith, total_is (λ (e : K × X). f e.1) (entries m), total_is (λ (e : K × X). f e.1) (entries (insert m k v)), entries-insert o m k v, get-entries m k, sum-put k v (entries m) (entries_sorted m))

-- ---- sums of lists

pub total_same : {X : Type 0} (f g : X → ℕ) (xs : List X) → ((x : X) → f x ≡ g x) → total f xs ≡ total g xs
total_same f g [] same = refl
total_same f g (x ∷ xs) same = λ i. same x i + total_same f g xs same i

pub total_zero : {X : Type 0} (xs : List X) → total (λ x. 0) xs ≡ 0
total_zero [] = refl
total_zero (x ∷ xs) = omega (arith, total_zero xs)

pub total_add : {X : Type 0} (f g : X → ℕ) (xs : List X) → total (λ x. f x + g x) xs ≡ total f xs + total g xs
total_add f g [] = refl
total_add f g (x ∷ xs) = omega (arith, total_add f g xs)

pub total_map : {X Y : Type 0} (f : Y → ℕ) (h : X → Y) (xs : List X) → total f (map h xs) ≡ total (λ x. f (h x)) xs
total_map f h [] = refl
total_map f h (x ∷ xs) = ap (λ n. f (h x) + n) (total_map f h xs)

-- a sum of sums, the other way round
pub total_swap : {X Y : Type 0} (f : X → Y → ℕ) (xs : List X) (ys : List Y) → total (λ x. total (f x) ys) xs ≡ total (λ y. total (λ x. f x y) xs) ys
total_swap f [] ys = sym (total_zero ys)
total_swap f (x ∷ xs) ys = ap (λ n. total (f x) ys + n) (total_swap f xs ys) ∙ sym (total_add (f x) (λ y. total (λ z. f z y) xs) ys)

module _ {K X : Type 0} {R : K → K → Ordering} (o : IsTotalOrder R) where
  entries_same : (f g : K → X → ℕ) (es : List (K × X)) → AllEntries (λ k x. f k x ≡ g k x) es → total (λ (e : K × X). f e.0 e.1) es ≡ total (λ (e : K × X). g e.0 e.1) es
  entries_same f g [] h = refl
  entries_same f g (e ∷ es) h = λ i. h.0 i + entries_same f g es h.1 i

  -- sums that agree on each entry that is there
  pub total_entries : (f g : K → X → ℕ) (m : FinMap R X) → ((k : K) (x : X) → get m k ≡ Some x → f k x ≡ g k x) → total (λ (e : K × X). f e.0 e.1) (entries m) ≡ total (λ (e : K × X). g e.0 e.1) (entries m)
  total_entries f g m same = entries_same f g (entries m) (all_entries o (λ k x. f k x ≡ g k x) m same)

  -- the numbers of the entries with a key, of which there is one at most
  module _ (exact : IsAntisymmetric R) (f : K → X → ℕ) (k : K) where
    abbrev at_key : K × X → ℕ
    at_key e = cond (eq_by_cmp R k e.0) (f e.0 e.1) 0

    key_missed : (x : K) (es : List (K × X)) → R k x ≡ Equal → T (below_all R x es) → total at_key es ≡ 0
    key_missed x [] t h = refl
    key_missed x (e ∷ es) t h = grind (arith, key_missed x es, o.congr k x e.0)

    key_listed : (es : List (K × X)) → T (is_sorted R es) → total at_key es ≡ value_of (f k) (find R k es)
    key_listed [] h = refl
    key_listed (e ∷ es) h = grind (arith, key_listed es, key_missed e.0 es, exact k e.0)

    pub total_key : (m : FinMap R X) → total at_key (entries m) ≡ value_of (f k) (get m k)
    total_key m = key_listed (entries m) (entries_sorted m) ∙ ap (value_of (f k)) (sym (get-entries m k))
