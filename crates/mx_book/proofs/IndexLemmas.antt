-- An index: the keys under a name are those of the rows that it is an index of.
use Rattle.std.proofs.Common.{◌≡◌, ℕ, ◌+◌, suc, take, Bool, true, false, not, cond, ◌&&◌, ◌||◌, T, List, [], ◌∷◌, map, refl, sym, ◌∙◌, ap, Option, Some, None, is_some, MatchOption, arith}
use mathlib.Core.Bool.{true≢false}
use Rattle.std.specs.Prelude.{filter, filter_map}
use Rattle.std.specs.declared.cmp.Ordering.{Ordering}
use Rattle.std.specs.Ordering.{eq_by_cmp, is_eq, is_le}
use Rattle.std.specs.List.{prefix_len}
use Rattle.std.specs.Option.{option_cmp}
use Rattle.std.specs.Cmp.{IsTotalOrder, tied_itself, tied_then}
use Rattle.std.specs.Cmp.Lexicographic.{options_total}
use Rattle.std.specs.FinMap as fmap
use Rattle.std.specs.FinMap.{FinMap, IsAntisymmetric, from_sorted, entries, entries_sorted, entries-from_sorted, get, get-from_sorted, get-entries}
use Rattle.std.specs.FinMap.Entries.{find, is_sorted, below_all}
use Rattle.std.specs.FinSet.{FinSet}
use Rattle.mx_pay.specs.Names.{name_cmp, is_name}
use Rattle.mx_book.specs.World.{Name}
use Rattle.mx_sorted.specs.Blocks.{rows_from, first_of}
use Rattle.mx_book.specs.Index.{index_cmp, is_met}
use Rattle.mx_book.specs.RowReads.{of_name}
use Rattle.mx_book.specs.Under.{those, with_second}
use Rattle.mx_book.proofs.FrontLemmas.{rows_under}
use Rattle.mx_book.proofs.LogLemmas.{same_members}
use Rattle.mx_book.proofs.MapLemmas.{find_below}
use Rattle.mx_book.proofs.NameLemmas.{names_total}
use Rattle.mx_book.proofs.ReadLemmas.{those_are}
use Rattle.mx_book.proofs.UnderLemmas.{pair_total, find-those, sorted-those}

-- ---- one key under a name, or none

pub one_more : (b : Bool) (o : Option (Unit {0})) → is_some (cond b (Some tt) o) ≡ (b || is_some o)
one_more true o = refl
one_more false o = refl

pub one_less : (b : Bool) (o : Option (Unit {0})) → is_some (cond b None o) ≡ (is_some o && not b)
one_less true None = refl
one_less true (Some u) = refl
one_less false None = refl
one_less false (Some u) = refl

module _ {K : Type 0} (R : K → K → Ordering) where
  -- whether it is this key
  abbrev pub is_key : Option K → K → Bool
  is_key None k = false
  is_key (Some j) k = eq_by_cmp R j k

  key_is : (q : Option K) (k : K) → is_eq (option_cmp R q (Some k)) ≡ is_key q k
  key_is None k = refl
  key_is (Some j) k = refl

  pair_is : (n h : Name) (q : Option K) (k : K) → eq_by_cmp (index_cmp R) (n, q) (h, Some k) ≡ (is_name n h && is_key q k)
  pair_is n h q k = sym (tied_then (name_cmp n h) (option_cmp R q (Some k))) ∙ ap (λ b. is_name n h && b) (key_is q k)

  pub index_total : IsTotalOrder R → IsTotalOrder (index_cmp R)
  index_total o = pair_total names_total (options_total o)

  module _ (o : IsTotalOrder R) (index : FinSet (index_cmp R)) (n h : Name) (q : Option K) (k : K) where
    -- what an index has where a key is added, and where one is taken out
    pub has-added : fmap.contains_key (fmap.insert index (h, Some k) tt) (n, q) ≡ ((is_name n h && is_key q k) || fmap.contains_key index (n, q))
    has-added = ap is_some (fmap.get-insert (index_total o) index (h, Some k) tt (n, q)) ∙ one_more _ (fmap.get index (n, q)) ∙ ap (λ b. b || fmap.contains_key index (n, q)) (pair_is n h q k)

    pub has-dropped : fmap.contains_key (fmap.remove index (h, Some k)) (n, q) ≡ (fmap.contains_key index (n, q) && not (is_name n h && is_key q k))
    has-dropped = ap is_some (fmap.get-remove (index_total o) index (h, Some k) (n, q)) ∙ one_less _ (fmap.get index (n, q)) ∙ ap (λ b. fmap.contains_key index (n, q) && not b) (pair_is n h q k)

-- ---- the keys of rows

abbrev with_key : {K V : Type 0} → Option K → V → List (K × V) → List (K × V)
with_key None v es = es
with_key (Some k) v es = (k, v) ∷ es

-- the rows that have a key
abbrev keyed : {K V : Type 0} → List (Option K × V) → List (K × V)
keyed [] = []
keyed (e ∷ es) = with_key e.0 e.1 (keyed es)

module _ {K V : Type 0} (R : K → K → Ordering) where
  below-keyed : (k : K) (es : List (Option K × V)) → T (below_all (option_cmp R) (Some k) es) → T (below_all R k (keyed es))
  below-keyed k [] h = tt
  below-keyed k (e ∷ es) h = by_key e.0 (below-keyed k es) h
    where
      by_key : (q : Option K) → (T (below_all (option_cmp R) (Some k) es) → T (below_all R k (keyed es))) → T (below_all (option_cmp R) (Some k) ((q, e.1) ∷ es)) → T (below_all R k (with_key q e.1 (keyed es)))
      by_key None rest h = grind (arith, rest)
      by_key (Some q) rest h = grind (arith, rest)

  sorted-keyed : (es : List (Option K × V)) → T (is_sorted (option_cmp R) es) → T (is_sorted R (keyed es))
  sorted-keyed [] h = tt
  sorted-keyed (e ∷ es) h = by_key e.0 (sorted-keyed es) h
    where
      by_key : (q : Option K) → (T (is_sorted (option_cmp R) es) → T (is_sorted R (keyed es))) → T (is_sorted (option_cmp R) ((q, e.1) ∷ es)) → T (is_sorted R (with_key q e.1 (keyed es)))
      by_key None rest h = grind (arith, rest)
      by_key (Some q) rest h = grind (arith, rest, below-keyed q es)

  find-keyed : (k : K) (es : List (Option K × V)) → find R k (keyed es) ≡ find (option_cmp R) (Some k) es
  find-keyed k [] = refl
  find-keyed k (e ∷ es) = by_key e.0 (find-keyed k es)
    where
      by_key : (q : Option K) → find R k (keyed es) ≡ find (option_cmp R) (Some k) es → find R k (with_key q e.1 (keyed es)) ≡ find (option_cmp R) (Some k) ((q, e.1) ∷ es)
      by_key None rest = rest
      by_key (Some q) rest = ap (cond (eq_by_cmp R k q) (Some e.1)) rest

-- None comes first
none_first : {K : Type 0} (R : K → K → Ordering) (k : Option K) → is_le (option_cmp R None k) ≡ true
none_first R None = refl
none_first R (Some k) = refl

-- under a name
keys_of : {K V : Type 0} (n : Name) (es : List ((Name × Option K) × V)) → filter_map (λ (e : (Name × Option K) × V). e.0.1) (of_name n es) ≡ map (λ (e : K × V). e.0) (keyed (those name_cmp n es))
keys_of n [] = refl
keys_of {K} {V} n (e ∷ es) = by_case (is_name n e.0.0) e.0.1 (keys_of n es)
  where
    by_case : (b : Bool) (q : Option K) → filter_map (λ (e : (Name × Option K) × V). e.0.1) (of_name n es) ≡ map (λ (e : K × V). e.0) (keyed (those name_cmp n es))
        → filter_map (λ (e : (Name × Option K) × V). e.0.1) (cond b (((e.0.0, q), e.1) ∷ of_name n es) (of_name n es)) ≡ map (λ (e : K × V). e.0) (keyed (with_second b ((e.0.0, q), e.1) (those name_cmp n es)))
    by_case true None rest = rest
    by_case true (Some q) rest = ap (λ ks. q ∷ ks) rest
    by_case false q rest = rest

-- ---- the rows that a test passes

module _ {K V : Type 0} {R : K → K → Ordering} (o : IsTotalOrder R) (exact : IsAntisymmetric R) (test : K → V → Bool) where
  -- their keys
  abbrev marked : List (K × V) → List (K × Unit {0})
  marked [] = []
  marked (e ∷ es) = cond (test e.0 e.1) ((e.0, tt) ∷ marked es) (marked es)

  below-marked : (k : K) (es : List (K × V)) → T (below_all R k es) → T (below_all R k (marked es))
  below-marked k [] h = tt
  below-marked k (e ∷ es) h = grind (arith, below-marked k es)

  sorted-marked : (es : List (K × V)) → T (is_sorted R es) → T (is_sorted R (marked es))
  sorted-marked [] h = tt
  sorted-marked (e ∷ es) h = grind (arith, below-marked e.0 es, sorted-marked es)

  has-marked : (k : K) (es : List (K × V)) → T (is_sorted R es) → is_some (find R k (marked es)) ≡ is_met (test k) (find R k es)
  has-marked k [] h = refl
  has-marked k (e ∷ es) h = grind (arith, has-marked k es, find_below o k e.0 es, exact k e.0)

  names-marked : (es : List (K × V)) → map (λ (e : K × Unit {0}). e.0) (marked es) ≡ map (λ (e : K × V). e.0) (filter (λ (e : K × V). test e.0 e.1) es)
  names-marked [] = refl
  names-marked (e ∷ es) = grind (arith, names-marked es)

  module _ (m : FinMap R V) (n : Name) (index : FinSet (index_cmp R)) (is : (k : K) → fmap.contains_key index (n, Some k) ≡ is_met (test k) (fmap.get m k)) where
    abbrev here : List (Option K × Unit {0})
    here = those name_cmp n (entries index)

    here_sorted : T (is_sorted R (keyed here))
    here_sorted = sorted-keyed R here (sorted-those name_cmp (option_cmp R) names_total n (entries index) (entries_sorted index))

    keys_alike : (k : K) → fmap.contains_key (from_sorted {R = R} (keyed here)) k ≡ fmap.contains_key (from_sorted {R = R} (marked (entries m))) k
    keys_alike k =
        ap is_some (get-from_sorted R (keyed here) k here_sorted ∙ find-keyed R k here ∙ find-those name_cmp (option_cmp R) names_total n (Some k) (entries index) ∙ sym (get-entries index (n, Some k)))
        ∙ is k
        ∙ ap (is_met (test k)) (get-entries m k)
        ∙ sym (ap is_some (get-from_sorted R (marked (entries m)) k (sorted-marked (entries m) (entries_sorted m))) ∙ has-marked k (entries m) (entries_sorted m))

    same_keys : keyed here ≡ marked (entries m)
    same_keys =
        sym (entries-from_sorted R (keyed here) here_sorted)
        ∙ ap entries (same_members o exact (from_sorted {R = R} (keyed here)) (from_sorted {R = R} (marked (entries m))) keys_alike)
        ∙ entries-from_sorted R (marked (entries m)) (sorted-marked (entries m) (entries_sorted m))

    -- the keys under a name, from the first on, are those of the rows that the test passes
    pub keys_under : filter_map (λ (e : (Name × Option K) × Unit {0}). e.0.1) (first_of n (rows_from (index_cmp R) (n, None) (entries index))) ≡ map (λ (e : K × V). e.0) (filter (λ (e : K × V). test e.0 e.1) (entries m))
    keys_under =
        ap (filter_map (λ (e : (Name × Option K) × Unit {0}). e.0.1)) (rows_under (option_cmp R) n index None (none_first R))
        ∙ keys_of n (entries index)
        ∙ ap (map (λ (e : K × Unit {0}). e.0)) same_keys
        ∙ names-marked (entries m)

-- ---- the first row under a name

module _ {K V : Type 0} (R : K → K → Ordering) (o : IsTotalOrder R) (n : Name) (index : FinMap (index_cmp R) V) where
  abbrev from_first : List ((Name × Option K) × V)
  from_first = rows_from (index_cmp R) (n, None) (entries index)

  abbrev seconds : List ((Name × Option K) × V) → List (Option K × V)
  seconds = map (λ (e : (Name × Option K) × V). (e.0.1, e.1))

  get_under : (q : Option K) → get index (n, q) ≡ find (option_cmp R) q (seconds (first_of n from_first))
  get_under q =
      get-entries index (n, q) ∙ sym (find-those name_cmp (option_cmp R) names_total n q (entries index))
      ∙ ap (find (option_cmp R) q) (those_are n (entries index))
      ∙ ap (λ es. find (option_cmp R) q (seconds es)) (sym (rows_under (option_cmp R) n index None (none_first R)))

  -- there is none
  pub none_under : from_first ≡ [] → (q : Option K) → get index (n, q) ≡ None
  none_under e q = get_under q ∙ ap (λ es. find (option_cmp R) q (seconds (first_of n es))) e

  -- it is another's
  pub none_there : (e : (Name × Option K) × V) (es : List ((Name × Option K) × V)) → from_first ≡ e ∷ es → is_name n e.0.0 ≡ false → (q : Option K) → get index (n, q) ≡ None
  none_there e es is other q = get_under q ∙ ap (λ xs. find (option_cmp R) q (seconds (first_of n xs))) is ∙ ap (λ b. find (option_cmp R) q (seconds (take (cond b (1 + prefix_len (λ (x : (Name × Option K) × V). is_name n x.0.0) es) 0) (e ∷ es)))) other

  -- it is there
  pub one_there : (e : (Name × Option K) × V) (es : List ((Name × Option K) × V)) → from_first ≡ e ∷ es → is_name n e.0.0 ≡ true → get index (n, e.0.1) ≡ Some e.1
  one_there e es is here =
      let k : ℕ = prefix_len (λ (x : (Name × Option K) × V). is_name n x.0.0) es in
      let step : 1 + k ≡ suc k = omega arith in
      get_under e.0.1 ∙ ap (λ xs. find (option_cmp R) e.0.1 (seconds (first_of n xs))) is
      ∙ ap (λ b. find (option_cmp R) e.0.1 (seconds (take (cond b (1 + k) 0) (e ∷ es)))) here
      ∙ ap (λ i. find (option_cmp R) e.0.1 (seconds (take i (e ∷ es)))) step
      ∙ ap (λ r. cond (is_eq r) (Some e.1) (find (option_cmp R) e.0.1 (seconds (take k es)))) (tied_itself (options_total o) e.0.1)

  -- so it has a key
  pub first_case : (v : V) (q : Option K) → get index (n, q) ≡ Some v → fmap.contains_key index (n, None) ≡ false → MatchOption q ((k : K) → fmap.contains_key index (n, Some k) ≡ false) (λ k. fmap.contains_key index (n, Some k) ≡ true)
  first_case v None at none = absurd (true≢false (sym (ap is_some at) ∙ none))
  first_case v (Some k) at none = ap is_some at
