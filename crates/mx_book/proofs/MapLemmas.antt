-- What a map has where some of its entries are picked.
use Rattle.std.proofs.Common.{◌≡◌, cond, List, [], ◌∷◌, refl, ◌∙◌, ap, Option, Some, None, T, option_and_then, arith}
use Rattle.std.specs.declared.cmp.Ordering.{Ordering}
use Rattle.std.specs.declared.cmp.Ordering.TheVariants.{Equal}
use Rattle.std.specs.Ordering.{is_eq}
use Rattle.std.specs.Cmp.{IsTotalOrder, tied_itself}
use Rattle.mx_pay.proofs.TestLemmas.{second_true}
use Rattle.std.specs.FinMap as fmap
use Rattle.std.specs.FinMap.{gets, FinMap, IsAntisymmetric, get, insert, entries, entries_sorted, entries-from_sorted, get-entries, same_map}
use Rattle.std.specs.FinMap.Entries.{find, is_sorted, below_all}
use Rattle.mx_book.specs.Maps.{picked, pick}

module _ {K X Y : Type 0} (R : K → K → Ordering) (f : X → Option Y) where
  below-picked : (x : K) (es : List (K × X)) → T (below_all R x es) → T (below_all R x (picked f es))
  below-picked x [] h = tt
  below-picked x (e ∷ es) h = grind (arith, below-picked x es)

  sorted-picked : (es : List (K × X)) → T (is_sorted R es) → T (is_sorted R (picked f es))
  sorted-picked [] h = tt
  sorted-picked (e ∷ es) h = grind (arith, below-picked e.0 es, sorted-picked es)

module _ {K X : Type 0} {R : K → K → Ordering} (o : IsTotalOrder R) where
  -- nothing is found at a key below all
  pub find_below : (q x : K) (es : List (K × X)) → R q x ≡ Equal → T (below_all R x es) → find R q es ≡ None
  find_below q x [] t h = refl
  find_below q x (e ∷ es) t h = grind (arith, find_below q x es, o.congr q x e.0)

module _ {K X Y : Type 0} {R : K → K → Ordering} (o : IsTotalOrder R) (f : X → Option Y) where
  find-picked : (q : K) (es : List (K × X)) → T (is_sorted R es) → find R q (picked f es) ≡ option_and_then f (find R q es)
  find-picked q [] h = refl
  find-picked q (e ∷ es) h = grind (arith, find-picked q es, find_below o q e.0 es)

  pub entries-pick : (m : FinMap R X) → entries (pick f m) ≡ picked f (entries m)
  entries-pick m = entries-from_sorted R _ (sorted-picked R f _ (entries_sorted m))

  pub get-pick : (m : FinMap R X) (q : K) → get (pick f m) q ≡ option_and_then f (get m q)
  get-pick m q = grind (arith, get-entries (pick f m) q, entries-pick m, find-picked q (entries m) (entries_sorted m), get-entries m q)

  -- an entry that is picked
  pub pick-insert : IsAntisymmetric R → (m : FinMap R X) (k : K) (v : X) (y : Y) → f v ≡ Some y → pick f (insert m k v) ≡ insert (pick f m) k y
  pick-insert exact m k v y is = same_map o exact _ _ (λ q. grind (arith, gets, o, get-pick))

  -- an entry that isn't picked, as the one before it wasn't
  pub pick-skip : IsAntisymmetric R → (m : FinMap R X) (k : K) (v : X) → f v ≡ None → option_and_then f (get m k) ≡ None → pick f (insert m k v) ≡ pick f m
  pick-skip exact m k v is none = same_map o exact _ _ (λ q. grind (arith, gets, o, get-pick, exact q k))

-- ---- what is found of a map holds of each of its entries

abbrev pub AllEntries : {Q V : Type 0} → (Q → V → Type 0) → List (Q × V) → Type 0
AllEntries P [] = Unit {0}
AllEntries P (e ∷ es) = P e.0 e.1 × AllEntries P es

module _ {Q V : Type 0} {R : Q → Q → Ordering} (o : IsTotalOrder R) (P : Q → V → Type 0) where
  all_listed : (es : List (Q × V)) → T (is_sorted R es) → ((q : Q) (x : V) → find R q es ≡ Some x → P q x) → AllEntries P es
  all_listed [] s h = tt
  all_listed (e ∷ es) s h = (
    h e.0 e.1 (ap (λ r. cond (is_eq r) (Some e.1) (find R e.0 es)) (tied_itself o e.0)),
    all_listed es (second_true _ _ s) (λ q x at. h q x (grind (arith, find_below o q e.0 es))),
  )

  pub all_entries : (m : fmap.FinMap R V) → ((q : Q) (x : V) → fmap.get m q ≡ Some x → P q x) → AllEntries P (fmap.entries m)
  all_entries m h = all_listed (fmap.entries m) (fmap.entries_sorted m) (λ q x at. h q x (fmap.get-entries m q ∙ at))
