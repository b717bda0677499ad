-- What a map has under one first key.
use Rattle.std.proofs.Common.{◌≡◌, false, List, [], ◌∷◌, length, refl, sym, ◌∙◌, ap, None, T, arith}
use Rattle.std.specs.Prelude.{option_map}
use Rattle.std.specs.declared.cmp.Ordering.{Ordering}
use Rattle.std.specs.declared.cmp.Ordering.TheVariants.{Equal}
use Rattle.std.specs.Ordering.{eq_by_cmp}
use Rattle.std.specs.Cmp.{IsTotalOrder, tied_itself, then_total, on_total}
use Rattle.std.specs.FinMap.{FinMap, IsAntisymmetric, get, insert, remove, empty, entries, entries_sorted, entries-from_sorted, get-entries, same_map, len, len-entries, len-empty}
use Rattle.std.specs.FinMap.Entries.{find, is_sorted, below_all}
use Rattle.std.proofs.lemmas.Map.Lookups.{exact_pairs}
use Rattle.mx_book.specs.Under.{pair_cmp, under, those, remake, remade}
use Rattle.std.specs.FinMap.{gets}
use Rattle.std.proofs.lemmas.List.{nil_from_length}

pub pair_total : {A K : Type 0} {P : A → A → Ordering} {R : K → K → Ordering} → IsTotalOrder P → IsTotalOrder R → IsTotalOrder (pair_cmp P R)
pair_total o q = then_total (on_total (λ t. t.0) o) (on_total (λ t. t.1) q)

pub pair_exact : {A K : Type 0} {P : A → A → Ordering} {R : K → K → Ordering} → IsAntisymmetric P → IsAntisymmetric R → IsAntisymmetric (pair_cmp P R)
pair_exact {P = P} {R = R} e f = exact_pairs P R e f

module _ {A K V : Type 0} (P : A → A → Ordering) (R : K → K → Ordering) (o : IsTotalOrder P) where
  pub find-those : (p : A) (k : K) (es : List ((A × K) × V)) → find R k (those P p es) ≡ find (pair_cmp P R) (p, k) es
  find-those p k [] = refl
  find-those p k (e ∷ es) = grind (arith, find-those p k es)

  below-those : (p : A) (k : A × K) (es : List ((A × K) × V)) → P p k.0 ≡ Equal → T (below_all (pair_cmp P R) k es) → T (below_all R k.1 (those P p es))
  below-those p k [] at h = tt
  below-those p k (e ∷ es) at h = grind (arith, below-those p k es, o.congr p k.0 e.0.0)

  pub sorted-those : (p : A) (es : List ((A × K) × V)) → T (is_sorted (pair_cmp P R) es) → T (is_sorted R (those P p es))
  sorted-those p [] h = tt
  sorted-those p (e ∷ es) h = grind (arith, below-those p e.0 es, sorted-those p es)

  pub entries-under : (p : A) (m : FinMap (pair_cmp P R) V) → entries (under P R p m) ≡ those P p (entries m)
  unfolding under
  entries-under p m = entries-from_sorted R _ (sorted-those p (entries m) (entries_sorted m))

  pub get-under : (p : A) (m : FinMap (pair_cmp P R) V) (k : K) → get (under P R p m) k ≡ get m (p, k)
  get-under p m k = get-entries (under P R p m) k ∙ ap (find R k) (entries-under p m) ∙ find-those p k (entries m) ∙ sym (get-entries m (p, k))

  pub len-under : (p : A) (m : FinMap (pair_cmp P R) V) → len (under P R p m) ≡ length (those P p (entries m))
  len-under p m = len-entries (under P R p m) ∙ ap length (entries-under p m)

module _ {A K V : Type 0} {P : A → A → Ordering} {R : K → K → Ordering} (o : IsTotalOrder P) (t : IsTotalOrder R) (exact : IsAntisymmetric R) where
  -- a write under the same first key
  pub under-insert : (p : A) (m : FinMap (pair_cmp P R) V) (n : K) (v : V) → under P R p (insert m (p, n) v) ≡ insert (under P R p m) n v
  under-insert p m n v = same_map t exact _ _ (λ k. grind (arith, gets, t, pair_total o t, tied_itself o p, get-under {V = V} P R o))

  pub under-remove : (p : A) (m : FinMap (pair_cmp P R) V) (n : K) → under P R p (remove m (p, n)) ≡ remove (under P R p m) n
  under-remove p m n = same_map t exact _ _ (λ k. grind (arith, gets, t, pair_total o t, tied_itself o p, get-under {V = V} P R o))

  -- a write under another first key
  pub under-insert_other : (p q : A) (m : FinMap (pair_cmp P R) V) (n : K) (v : V) → eq_by_cmp P q p ≡ false → under P R q (insert m (p, n) v) ≡ under P R q m
  under-insert_other p q m n v f = same_map t exact _ _ (λ k. grind (arith, gets, pair_total o t, get-under {V = V} P R o))

  pub under-remove_other : (p q : A) (m : FinMap (pair_cmp P R) V) (n : K) → eq_by_cmp P q p ≡ false → under P R q (remove m (p, n)) ≡ under P R q m
  under-remove_other p q m n f = same_map t exact _ _ (λ k. grind (arith, gets, pair_total o t, get-under {V = V} P R o))

  -- nothing stands under it
  pub under-none : (p : A) (m : FinMap (pair_cmp P R) V) → ((k : K) → get m (p, k) ≡ None) → under P R p m ≡ empty
  under-none p m none = same_map t exact _ _ (λ k. grind (arith, gets, get-under {V = V} P R o))

-- ---- new values

module _ {K X Y : Type 0} (R : K → K → Ordering) (f : K → X → Y) where
  below-remade : (x : K) (es : List (K × X)) → T (below_all R x es) → T (below_all R x (remade f es))
  below-remade x [] h = tt
  below-remade x (e ∷ es) h = grind (arith, below-remade x es)

  pub sorted-remade : (es : List (K × X)) → T (is_sorted R es) → T (is_sorted R (remade f es))
  sorted-remade [] h = tt
  sorted-remade (e ∷ es) h = grind (arith, below-remade e.0 es, sorted-remade es)

  pub entries-remake : (m : FinMap R X) → entries (remake f m) ≡ remade f (entries m)
  unfolding remake
  entries-remake m = entries-from_sorted R _ (sorted-remade (entries m) (entries_sorted m))

  find-remade : IsAntisymmetric R → (q : K) (es : List (K × X)) → find R q (remade f es) ≡ option_map (f q) (find R q es)
  find-remade exact q [] = refl
  find-remade exact q (e ∷ es) = grind (arith, find-remade exact q es, exact q e.0)

  pub get-remake : IsAntisymmetric R → (m : FinMap R X) (q : K) → get (remake f m) q ≡ option_map (f q) (get m q)
  get-remake exact m q = grind (arith, get-entries (remake {R = R} f m) q, entries-remake m, find-remade exact q (entries m), get-entries m q)

module _ {A K X Y : Type 0} {P : A → A → Ordering} {R : K → K → Ordering} (o : IsTotalOrder P) (t : IsTotalOrder R) (first : IsAntisymmetric P) (exact : IsAntisymmetric R) where
  pub under-remake : (f : A × K → X → Y) (p : A) (m : FinMap (pair_cmp P R) X) → under P R p (remake f m) ≡ remake (λ k. f (p, k)) (under P R p m)
  under-remake f p m = same_map t exact _ _ (λ k. grind (arith, get-under P R o p (remake f m) k, get-remake (pair_cmp P R) f (pair_exact first exact) m (p, k), get-under P R o p m k, get-remake R (λ k. f (p, k)) exact (under P R p m) k))

pub entries_empty : {K V : Type 0} (R : K → K → Ordering) → entries (empty {X = V} {R = R}) ≡ []
entries_empty {V = V} R = nil_from_length _ (sym (len-entries (empty {X = V} {R = R})) ∙ len-empty R V)
