-- Lists of rows and the maps that they make.
use Rattle.mx_tables.proofs.Common.{◌≡◌, ◌<◌, ◌+◌, ℕ, length, take, Bool, true, List, [], ◌∷◌, ◌++◌, Some, None, refl, ◌∙◌, filter, arith, IsPermutation, Ordering, is_eq, eq_by_cmp, option_map}
use Rattle.std.proofs.Common.{cond, ◌||◌, map, sym, ap, ap₂, subst, not, get_or}
use Rattle.std.specs.List.{AllByRecursion, list_any}
use Rattle.sqlite_trees.proofs.ListLemmas.{all-get_or}
use Rattle.std.proofs.lemmas.List.{map_more, map-append}
use Rattle.std.proofs.lemmas.List.Sorted.{IsPermutation-refl, IsPermutation-cons, IsPermutation-middle, IsPermutation-trans}
use Rattle.std.specs.declared.cmp.Ordering.TheVariants.{Less, Equal, Greater}
use Rattle.std.specs.Cmp.{IsTotalOrder, eq_by_cmp_equiv}
use Rattle.std.specs.FinMap as fmap
use Rattle.std.specs.FinMap.{IsAntisymmetric}
use Rattle.std.specs.FinMap.Entries.{put, by_order}
use Rattle.mx_book.proofs.UnderLemmas.{entries_empty, get-remake}
use Rattle.mx_book.specs.Under.{remake}

-- each key stands once
abbrev pub AreDistinct : {K V : Type 0} → (K → K → Ordering) → List (K × V) → Type 0
AreDistinct R [] = Unit {0}
AreDistinct R (e ∷ es) = (fmap.find R e.0 es ≡ None) × AreDistinct R es

-- what is so of all is so of each
pub all_at : {X : Type 0} (P : X → Type 0) (xs : List X) (at : ℕ) (x : X) → at < length xs → x ≡ get_or xs at x → AllByRecursion P xs → P x
all_at P xs at x within is h = subst P (sym is) (all-get_or P xs at x h within)

-- a test of some value of a list that was mapped is one of the list
pub any_mapped : {X Y : Type 0} (f : Y → Bool) (show : X → Y) (xs : List X) → list_any f (map show xs) ≡ list_any (λ x. f (show x)) xs
any_mapped f show [] = refl
any_mapped f show (x ∷ xs) = ap (λ b. f (show x) || b) (any_mapped f show xs)

module _ {K V : Type 0} (R : K → K → Ordering) where
  -- a new key is added
  put_adds : (k : K) (v : V) (es : List (K × V)) → fmap.find R k es ≡ None → IsPermutation ((k, v) ∷ es) (put R k v es)
  put_adds k v [] none = IsPermutation-refl ((k, v) ∷ [])
  put_adds k v (e ∷ es) none =
      elim (R k e.0) as (λ o. cond (is_eq o) (Some e.1) (fmap.find R k es) ≡ None → IsPermutation ((k, v) ∷ e ∷ es) (by_order o ((k, v) ∷ e ∷ es) ((e.0, v) ∷ es) (e ∷ put R k v es))) [
        | Less ↦ λ n. IsPermutation-refl ((k, v) ∷ e ∷ es)
        | Equal ↦ λ n. absurd cc
        | Greater ↦ λ n. IsPermutation-trans _ _ _ (IsPermutation-middle ((k, v) ∷ []) e es) (IsPermutation-cons e ((k, v) ∷ es) (put R k v es) (put_adds k v es n))
      ] none

  -- the entries of the map of a list whose keys are distinct are the list's, in another order
  pub entries_of : IsTotalOrder R → (es : List (K × V)) → AreDistinct R es → IsPermutation es (fmap.entries (fmap.from_entries {R = R} es))
  entries_of o [] h = subst (IsPermutation []) (sym (entries_empty {K = K} {V = V} R)) (IsPermutation-refl [])
  entries_of o (e ∷ es) h =
      let m = fmap.from_entries {R = R} es in
      let none : fmap.find R e.0 (fmap.entries m) ≡ None = sym (fmap.get-entries m e.0) ∙ fmap.get-from_entries o es e.0 ∙ h.0 in
      subst (IsPermutation (e ∷ es)) (sym (fmap.entries-insert o m e.0 e.1))
      (IsPermutation-trans (e ∷ es) (e ∷ fmap.entries m) (put R e.0 e.1 (fmap.entries m)) (IsPermutation-cons e es (fmap.entries m) (entries_of o es h.1)) (put_adds e.0 e.1 (fmap.entries m) none))

  -- the last of distinct keys stands nowhere before
  last_found : (q k : K) (v : V) (es : List (K × V)) → eq_by_cmp R q k ≡ true → fmap.find R q (es ++ (k, v) ∷ []) ≡ None → ⊥
  last_found q k v [] same none = grind arith
  last_found q k v (e ∷ es) same none = grind (arith, last_found q k v es)

  last_new : IsTotalOrder R → (es : List (K × V)) (k : K) (v : V) → AreDistinct R (es ++ (k, v) ∷ []) → fmap.find R k es ≡ None
  last_new o [] k v h = refl
  last_new o (e ∷ es) k v h = grind (arith, last_new o es k v h.1, last_found e.0 k v es, (eq_by_cmp_equiv o).symm e.0 k)

  -- a row more, whose key no other row has, is an insert
  pub map_push : IsTotalOrder R → IsAntisymmetric R → (es : List (K × V)) (k : K) (v : V) → AreDistinct R (es ++ (k, v) ∷ []) → fmap.from_entries {R = R} (es ++ (k, v) ∷ []) ≡ fmap.insert (fmap.from_entries es) k v
  map_push o exact es k v h = fmap.from_entries_push o exact es k v (last_new o es k v h)

-- ---- rows that are changed or taken out, in the map of the rows

module _ {K V : Type 0} {R : K → K → Ordering} (o : IsTotalOrder R) (exact : IsAntisymmetric R) where
  -- a row with another value, made from its key and the old one
  abbrev pub anew : (K → V → V) → K × V → K × V
  anew f e = (e.0, f e.0 e.1)

  find_anew : (f : K → V → V) (q : K) (es : List (K × V)) → fmap.find R q (map (anew f) es) ≡ option_map (f q) (fmap.find R q es)
  find_anew f q [] = refl
  find_anew f q (e ∷ es) = grind (arith, find_anew f q es, exact q e.0)

  -- values made anew are the map's made anew
  pub map_anew : (f : K → V → V) (es : List (K × V)) → fmap.from_entries {R = R} (map (anew f) es) ≡ remake f (fmap.from_entries es)
  map_anew f es = fmap.same_map o exact _ _ (λ q.
      fmap.get-from_entries o (map (anew f) es) q ∙ find_anew f q es ∙ ap (option_map (f q)) (sym (fmap.get-from_entries o es q)) ∙ sym (get-remake R f exact (fmap.from_entries es) q))

  find_left : (gone : K → Bool) (q : K) (es : List (K × V)) → fmap.find R q (filter (λ (e : K × V). not (gone e.0)) es) ≡ cond (gone q) None (fmap.find R q es)
  find_left gone q [] = grind arith
  find_left gone q (e ∷ es) = grind (arith, find_left gone q es, exact q e.0)

  -- what is left of a list is what the map keeps
  pub map_left : (gone : K → Bool) (es : List (K × V)) → fmap.from_entries {R = R} (filter (λ (e : K × V). not (gone e.0)) es) ≡ fmap.retain_keys (fmap.from_entries es) (λ k. not (gone k))
  map_left gone es = fmap.same_map o exact _ _ (λ q.
      let kept = fmap.get-retain_keys {R = R} (fmap.from_entries es) (λ k. not (gone k)) q (λ x tie. ap (λ k. not (gone k)) (sym (exact q x tie))) in
      grind (arith, fmap.get-from_entries o (filter (λ (e : K × V). not (gone e.0)) es) q, find_left gone q es, fmap.get-from_entries o es q, kept))

-- ---- a list that is made from one row after another

module _ {X Y : Type 0} (f : X → Y) (rows : List X) (at : ℕ) (row : X) (within : at < length rows) (is : row ≡ get_or rows at row) where
  mapped_more : map f (take (at + 1) rows) ≡ map f (take at rows) ++ f row ∷ []
  mapped_more = map_more f rows at row within ∙ ap (λ x. map f (take at rows) ++ f x ∷ []) (sym is)

  pub grown : (ys : List Y) (y : Y) → ys ≡ map f (take at rows) → y ≡ f row → ys ++ y ∷ [] ≡ map f (take (at + 1) rows)
  grown ys y before same = ap₂ (λ zs z. zs ++ z ∷ []) before same ∙ sym mapped_more

  pub grown_alike : {Z : Type 0} (g : Z → Y) (zs : List Z) (z : Z) → map f (take at rows) ≡ map g zs → f row ≡ g z → map f (take (at + 1) rows) ≡ map g (zs ++ z ∷ [])
  grown_alike g zs z before same = mapped_more ∙ ap₂ (λ ys y. ys ++ y ∷ []) before same ∙ sym (map-append g zs (z ∷ []))
