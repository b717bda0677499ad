-- A list of rows whose keys differ, and the map that it makes.
use Rattle.std.proofs.Common.{◌≡◌, inl, inr, ℕ, List, [], ◌∷◌, map, length, filter, IsPermutation, refl, sym, ◌∙◌, ap, subst, Some, None, Bool, true, false, arith}
use Rattle.std.specs.Prelude.{sum_by}
use Rattle.std.specs.declared.cmp.Ordering.{Ordering}
use Rattle.std.specs.Ordering.{eq_by_cmp}
use Rattle.std.specs.Cmp.{IsTotalOrder, tied_itself}
use Rattle.std.specs.List.{AllByRecursion, list_all, list_any}
use Rattle.std.specs.FinMap as fmap
use Rattle.std.specs.FinMap.{FinMap, IsAntisymmetric}
use Rattle.std.specs.FinMap.Entries.{find}
use Rattle.std.proofs.lemmas.Bool.{cases_Bool}
use Rattle.std.proofs.lemmas.List.Sorted.{length_permutation, sum_by-IsPermutation}
use Rattle.sqlite_keyed.proofs.ListLemmas.{IsPermutation-filter}
use Rattle.mx_pay.proofs.TestLemmas.{is_equal}
use Rattle.mx_tables.proofs.MapLists.{AreDistinct, entries_of}
use Rattle.mx_book.proofs.MapLemmas.{AllEntries, all_entries}
use Rattle.mx_audit.specs.Fed.{IsListed}

-- ---- rows that are found

module _ {K V : Type 0} (R : K → K → Ordering) (o : IsTotalOrder R) (exact : IsAntisymmetric R) where
  -- what holds of each row holds of the one that is found
  pub of_found : (P : K × V → Type 0) (es : List (K × V)) (k : K) (v : V) → AllByRecursion P es → find R k es ≡ Some v → P (k, v)
  of_found P [] k v h at = absurd (cc)
  of_found P (e ∷ es) k v h at =
      elim (cases_Bool (eq_by_cmp R k e.0)) [
        | inl t ↦ (let key = exact k e.0 (is_equal _ t) in let value : e.1 ≡ v = grind (arith) in subst P (λ i. (sym key i, value i)) h.0)
        | inr f ↦ of_found P es k v h.1 (rw f at at)
      ]

  -- nothing is found where another key is
  apart_from : (k : K) (e : K × V) (es : List (K × V)) (v : V) → find R e.0 es ≡ None → find R k es ≡ Some v → eq_by_cmp R k e.0 ≡ false
  apart_from k e es v none at =
      elim (cases_Bool (eq_by_cmp R k e.0)) [
        | inl t ↦ absurd (let key = exact k e.0 (is_equal _ t) in let no = ap (λ q. find R q es) key in cc)
        | inr f ↦ f
      ]

  -- what holds of each one that is found holds of each row
  all_found : (P : K × V → Type 0) (es : List (K × V)) → AreDistinct R es
      → ((k : K) (v : V) → find R k es ≡ Some v → P (k, v)) → AllByRecursion P es
  all_found P [] apart h = tt
  all_found P (e ∷ es) apart h = (
    h e.0 e.1 (rw (tied_itself o e.0) refl),
    all_found P es apart.1 (λ k v at. h k v (rw (apart_from k e es v apart.0 at) at)),
  )

  -- some row that passes a test is found, and the other way round
  any_row : (test : K × V → Bool) (es : List (K × V)) → AreDistinct R es → list_any test es ≡ true
      → (k : K) × (v : V) × (find R k es ≡ Some v) × (test (k, v) ≡ true)
  any_row test [] apart h = absurd (cc)
  any_row test (e ∷ es) apart h =
      elim (cases_Bool (test e)) [
        | inl so ↦ (e.0, e.1, rw (tied_itself o e.0) refl, so)
        | inr not_so ↦ (
            let later = any_row test es apart.1 (rw not_so at h) in
            (later.0, later.1, rw (apart_from later.0 e es later.1 apart.0 later.2) later.2, later.3))
      ]

  found_passes : (test : K × V → Bool) (es : List (K × V)) (k : K) (v : V) → find R k es ≡ Some v → test (k, v) ≡ true
      → list_any test es ≡ true
  found_passes test [] k v at so = absurd (cc)
  found_passes test (e ∷ es) k v at so =
      elim (cases_Bool (eq_by_cmp R k e.0)) [
        | inl t ↦ (
            let key = exact k e.0 (is_equal _ t) in
            let value : e.1 ≡ v = grind (arith) in
            let first : test e ≡ true = ap test (λ i. (sym key i, value i)) ∙ so in
            rw first refl)
        | inr f ↦ (let later = found_passes test es k v (rw f at at) so in grind arith)
      ]

  module _ (es : List (K × V)) (m : FinMap R V) (is : IsListed es m) where
    pub get_listed : (k : K) → fmap.get m k ≡ find R k es
    get_listed k = ap (λ n. fmap.get n k) is.map ∙ fmap.get-from_entries o es k

    -- what holds of each row holds of what the map has
    pub of_each : (P : K × V → Type 0) → AllByRecursion P es → (k : K) (v : V) → fmap.get m k ≡ Some v → P (k, v)
    of_each P h k v at = of_found P es k v h (sym (get_listed k) ∙ at)

    -- and the other way round
    pub all_each : (P : K × V → Type 0) → ((k : K) (v : V) → fmap.get m k ≡ Some v → P (k, v)) → AllByRecursion P es
    all_each P h = all_found P es is.apart (λ k v at. h k v (get_listed k ∙ at))

    pub some_row : (test : K × V → Bool) → list_any test es ≡ true → (k : K) × (v : V) × (fmap.get m k ≡ Some v) × (test (k, v) ≡ true)
    some_row test h = let row = any_row test es is.apart h in (row.0, row.1, get_listed row.0 ∙ row.2, row.3)

    pub row_passes : (test : K × V → Bool) (k : K) (v : V) → fmap.get m k ≡ Some v → test (k, v) ≡ true → list_any test es ≡ true
    row_passes test k v at so = found_passes test es k v (sym (get_listed k) ∙ at) so

    permuted : IsPermutation es (fmap.entries m)
    permuted = subst (λ n. IsPermutation es (fmap.entries n)) (sym is.map) (entries_of R o es is.apart)

    -- as many entries as rows pass a test
    pub as_many : (test : K × V → Bool) → length (filter test (fmap.entries m)) ≡ length (filter test es)
    as_many test = length_permutation _ _ (IsPermutation-filter test _ _ permuted)

    -- and a number of each adds up to the same
    pub same_sum : (f : K × V → ℕ) → sum_by f (fmap.entries m) ≡ sum_by f es
    same_sum f = sum_by-IsPermutation f _ _ permuted

-- ---- the values of a map

abbrev pub all_values : {K V : Type 0} {R : K → K → Ordering} → (V → Bool) → FinMap R V → Bool
all_values p m = list_all p (map (λ e. e.1) (fmap.entries m))

module _ {K V : Type 0} {R : K → K → Ordering} (o : IsTotalOrder R) (p : V → Bool) where
  passes_found : (es : List (K × V)) → list_all p (map (λ e. e.1) es) ≡ true → (k : K) (v : V) → find R k es ≡ Some v → p v ≡ true
  passes_found [] h k v at = absurd (cc)
  passes_found (e ∷ es) h k v at = grind (arith, passes_found es, ap p)

  passes_all : (es : List (K × V)) → AllEntries (λ (k : K) (v : V). p v ≡ true) es → list_all p (map (λ e. e.1) es) ≡ true
  passes_all [] h = refl
  passes_all (e ∷ es) h = grind (arith, h.0, passes_all es h.1)

  -- each value of a map passes a test
  pub value_passes : (m : FinMap R V) → all_values p m ≡ true → (k : K) (v : V) → fmap.get m k ≡ Some v → p v ≡ true
  value_passes m h k v at = passes_found (fmap.entries m) h k v (sym (fmap.get-entries m k) ∙ at)

  pub values_pass : (m : FinMap R V) → ((k : K) (v : V) → fmap.get m k ≡ Some v → p v ≡ true) → all_values p m ≡ true
  values_pass m h = passes_all (fmap.entries m) (all_entries o (λ k v. p v ≡ true) m h)
