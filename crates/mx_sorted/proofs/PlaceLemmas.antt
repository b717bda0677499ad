-- Rows before and after a key.
use Rattle.std.proofs.Common.{◌≡◌, ℕ, ◌+◌, ◌<◌, ◌≤◌, false, cond, not, T, List, [], ◌∷◌, ◌++◌, length, take, drop, get_or, Some, None, refl, sym, ◌∙◌, ap, subst, add-one, arith}
use Rattle.std.proofs.lemmas.List.{drop_more, take_more, set_split, take-append-drop}
use Rattle.std.proofs.Math.ListN.{set}
use Rattle.std.proofs.lemmas.Option.{get_or_from_slice_get, slice_get_read}
use Rattle.std.specs.declared.cmp.Ordering.{Ordering}
use Rattle.std.specs.declared.cmp.Ordering.TheVariants.{Less, Equal, Greater}
use Rattle.std.specs.Ordering.{is_lt, is_le, is_eq, is_gt, eq_by_cmp}
use Rattle.std.specs.Cmp.{IsTotalOrder}
use Rattle.std.specs.FinMap.{find, is_sorted}
use Rattle.std.specs.FinMap.Entries.{put, by_order, below_all}
use Rattle.mx_sorted.proofs.PartLemmas.{all_append}
use Rattle.mx_sorted.specs.Blocks.{rows_from}
use Rattle.mx_sorted.specs.Place.{IsAfter, IsBefore, IsAt, IsAhead, without, MatchPlace}
use Rattle.mx_sorted.specs.declared.blocks.Found.TheVariants.{At}
use Rattle.mx_pay.proofs.TestLemmas.{first_true, second_true, both_true, is_less}

module _ {K V : Type 0} (R : K → K → Ordering) where
  -- ---- a list in two parts
  pub put_after : (k : K) (v : V) (es fs : List (K × V)) → IsAfter R k es → put R k v (es ++ fs) ≡ es ++ put R k v fs
  put_after k v [] fs h = refl
  put_after k v (e ∷ es) fs h = ap (λ o. by_order o ((k, v) ∷ e ∷ (es ++ fs)) ((e.0, v) ∷ (es ++ fs)) (e ∷ put R k v (es ++ fs))) h.0 ∙ ap (λ xs. e ∷ xs) (put_after k v es fs h.1)

  pub put_before : (k : K) (v : V) (es fs : List (K × V)) → IsBefore R k fs → put R k v (es ++ fs) ≡ put R k v es ++ fs
  put_before k v [] [] h = refl
  put_before k v [] (f ∷ fs) h = ap (λ o. by_order o ((k, v) ∷ f ∷ fs) ((f.0, v) ∷ fs) (f ∷ put R k v fs)) h.0
  put_before k v (e ∷ es) fs h = grind (arith, put_before k v es fs h)

  pub find_after : (k : K) (es fs : List (K × V)) → IsAfter R k es → find R k (es ++ fs) ≡ find R k fs
  find_after k [] fs h = refl
  find_after k (e ∷ es) fs h = ap (λ o. cond (is_eq o) (Some e.1) (find R k (es ++ fs))) h.0 ∙ find_after k es fs h.1

  pub find_none : (k : K) (es : List (K × V)) → IsBefore R k es → find R k es ≡ None
  find_none k [] h = refl
  find_none k (e ∷ es) h = ap (λ o. cond (is_eq o) (Some e.1) (find R k es)) h.0 ∙ find_none k es h.1

  pub find_before : (k : K) (es fs : List (K × V)) → IsBefore R k fs → find R k (es ++ fs) ≡ find R k es
  find_before k [] fs h = find_none k fs h
  find_before k (e ∷ es) fs h = ap (cond (eq_by_cmp R k e.0) (Some e.1)) (find_before k es fs h)

  pub without_after : (k : K) (es fs : List (K × V)) → IsAfter R k es → without R k (es ++ fs) ≡ es ++ without R k fs
  without_after k [] fs h = refl
  without_after k (e ∷ es) fs h = ap (λ o. cond (not (is_eq o)) (e ∷ without R k (es ++ fs)) (without R k (es ++ fs))) h.0 ∙ ap (λ xs. e ∷ xs) (without_after k es fs h.1)

  pub without_none : (k : K) (es : List (K × V)) → IsBefore R k es → without R k es ≡ es
  without_none k [] h = refl
  without_none k (e ∷ es) h = ap (λ o. cond (not (is_eq o)) (e ∷ without R k es) (without R k es)) h.0 ∙ ap (λ xs. e ∷ xs) (without_none k es h.1)

  pub without_before : (k : K) (es fs : List (K × V)) → IsBefore R k fs → without R k (es ++ fs) ≡ without R k es ++ fs
  without_before k [] fs h = without_none k fs h
  without_before k (e ∷ es) fs h = grind (arith, without_before k es fs h)

  pub from_after : (k : K) (es fs : List (K × V)) → IsAfter R k es → rows_from R k (es ++ fs) ≡ rows_from R k fs
  from_after k [] fs h = refl
  from_after k (e ∷ es) fs h = ap (λ o. cond (is_le o) (e ∷ rows_from R k (es ++ fs)) (rows_from R k (es ++ fs))) h.0 ∙ from_after k es fs h.1

  pub from_all : (k : K) (es : List (K × V)) → IsBefore R k es → rows_from R k es ≡ es
  from_all k [] h = refl
  from_all k (e ∷ es) h = ap (λ o. cond (is_le o) (e ∷ rows_from R k es) (rows_from R k es)) h.0 ∙ ap (λ xs. e ∷ xs) (from_all k es h.1)

  pub from_before : (k : K) (es fs : List (K × V)) → IsBefore R k fs → rows_from R k (es ++ fs) ≡ rows_from R k es ++ fs
  from_before k [] fs h = from_all k fs h
  from_before k (e ∷ es) fs h = grind (arith, from_before k es fs h)

  pub below_right : (x : K) (es fs : List (K × V)) → T (below_all R x (es ++ fs)) → T (below_all R x fs)
  below_right x [] fs h = h
  below_right x (e ∷ es) fs h = below_right x es fs (second_true _ _ h)

  pub below_left : (x : K) (es fs : List (K × V)) → T (below_all R x (es ++ fs)) → T (below_all R x es)
  below_left x [] fs h = tt
  below_left x (e ∷ es) fs h = both_true _ _ (first_true _ _ h) (below_left x es fs (second_true _ _ h))

  pub sorted_right : (es fs : List (K × V)) → T (is_sorted R (es ++ fs)) → T (is_sorted R fs)
  sorted_right [] fs h = h
  sorted_right (e ∷ es) fs h = sorted_right es fs (second_true _ _ h)

  pub sorted_left : (es fs : List (K × V)) → T (is_sorted R (es ++ fs)) → T (is_sorted R es)
  sorted_left [] fs h = tt
  sorted_left (e ∷ es) fs h = both_true _ _ (below_left e.0 es fs (first_true _ _ h)) (sorted_left es fs (second_true _ _ h))

-- ---- what one comparison says of the rows before and after
module _ {K : Type 0} {R : K → K → Ordering} (o : IsTotalOrder R) where
  not_less : (k y x : K) → R x y ≡ Less → is_lt (R k y) ≡ false → R k x ≡ Greater
  not_less k y x h p = grind (arith, o.congr k y x, o.antisymm y x, o.antisymm y k, o.antisymm k x, o.trans x y k)

  not_greater : (k y x : K) → R y x ≡ Less → is_gt (R k y) ≡ false → R k x ≡ Less
  not_greater k y x h p = grind (arith, o.congr k y x, o.trans k y x)

module _ {K V : Type 0} {R : K → K → Ordering} (o : IsTotalOrder R) where
  pub after_left : (k : K) (es : List (K × V)) (f : K × V) (fs : List (K × V)) → T (is_sorted R (es ++ f ∷ fs)) → is_lt (R k f.0) ≡ false → IsAfter R k es
  after_left k [] f fs h p = tt
  after_left k (e ∷ es) f fs h p = (not_less o k f.0 e.0 (is_less _ (first_true _ _ (below_right R e.0 es (f ∷ fs) (first_true _ _ h)))) p, after_left k es f fs (second_true _ _ h) p)

  before_right_of : (k y : K) (fs : List (K × V)) → T (below_all R y fs) → is_gt (R k y) ≡ false → IsBefore R k fs
  before_right_of k y [] h p = tt
  before_right_of k y (f ∷ fs) h p = (not_greater o k y f.0 (is_less _ (first_true _ _ h)) p, before_right_of k y fs (second_true _ _ h) p)

  pub before_right : (k : K) (es : List (K × V)) (f : K × V) (fs : List (K × V)) → T (is_sorted R (es ++ f ∷ fs)) → is_gt (R k f.0) ≡ false → IsBefore R k fs
  before_right k es f fs h p = before_right_of k f.0 fs (first_true _ _ (sorted_right R es (f ∷ fs) h)) p

-- ---- the same of a place in a list
pub around : {X : Type 0} (xs : List X) (i : ℕ) (d : X) → i < length xs → xs ≡ take i xs ++ get_or xs i d ∷ drop (i + 1) xs
around xs i d lt = sym (take-append-drop i xs) ∙ ap (λ ys. take i xs ++ ys) (drop_more xs i d lt)

module _ {K V : Type 0} (R : K → K → Ordering) (key : K) (rows : List (K × V)) (i : ℕ) where
  -- the row at i has the key, and it stands between the rows before and after it
  pub at_from : (d : K × V) → i < length rows → IsAfter R key (take i rows) → R key (get_or rows i d).0 ≡ Equal → IsBefore R key (drop (i + 1) rows) → IsAt R key rows i
  at_from d lt h same g = record {
    within = lt;
    put_is = λ old there v.
        let e : get_or rows i d ≡ old = get_or_from_slice_get rows i old d there in
        ap (put R key v) (around rows i d lt) ∙ put_after R key v (take i rows) _ h
        ∙ ap (λ o. take i rows ++ by_order o ((key, v) ∷ get_or rows i d ∷ drop (i + 1) rows) (((get_or rows i d).0, v) ∷ drop (i + 1) rows) (get_or rows i d ∷ put R key v (drop (i + 1) rows))) same
        ∙ ap (λ x. take i rows ++ (x.0, v) ∷ drop (i + 1) rows) e;
    find_is = λ old there.
        let e : get_or rows i d ≡ old = get_or_from_slice_get rows i old d there in
        ap (find R key) (around rows i d lt) ∙ find_after R key (take i rows) _ h
        ∙ ap (λ o. cond (is_eq o) (Some (get_or rows i d).1) (find R key (drop (i + 1) rows))) same
        ∙ ap (λ x. Some x.1) e;
    without_is =
        ap (without R key) (around rows i d lt) ∙ without_after R key (take i rows) _ h
        ∙ ap (λ o. take i rows ++ cond (not (is_eq o)) (get_or rows i d ∷ without R key (drop (i + 1) rows)) (without R key (drop (i + 1) rows))) same
        ∙ ap (λ xs. take i rows ++ xs) (without_none R key (drop (i + 1) rows) g);
    from_is =
        ap (rows_from R key) (around rows i d lt) ∙ from_after R key (take i rows) _ h
        ∙ ap (λ o. cond (is_le o) (get_or rows i d ∷ rows_from R key (drop (i + 1) rows)) (rows_from R key (drop (i + 1) rows))) same
        ∙ ap (λ xs. get_or rows i d ∷ xs) (from_all R key (drop (i + 1) rows) g) ∙ sym (drop_more rows i d lt);
  }

  pub ahead_from : i ≤ length rows → IsAfter R key (take i rows) → IsBefore R key (drop i rows) → IsAhead R key rows i
  ahead_from lt h g =
      let parts : rows ≡ take i rows ++ drop i rows = sym (take-append-drop i rows) in
      record {
        within = lt;
        put_is = λ v. ap (put R key v) parts ∙ put_after R key v (take i rows) (drop i rows) h ∙ ap (λ xs. take i rows ++ xs) (put_before R key v [] (drop i rows) g);
        find_is = ap (find R key) parts ∙ find_after R key (take i rows) (drop i rows) h ∙ find_none R key (drop i rows) g;
        without_is = ap (without R key) parts ∙ without_after R key (take i rows) (drop i rows) h ∙ ap (λ xs. take i rows ++ xs) (without_none R key (drop i rows) g) ∙ take-append-drop i rows;
        from_is = ap (rows_from R key) parts ∙ from_after R key (take i rows) (drop i rows) h ∙ from_all R key (drop i rows) g;
      }

-- ---- the steps of a search in sorted rows
module _ {K V : Type 0} {R : K → K → Ordering} (o : IsTotalOrder R) (key : K) (rows : List (K × V)) (sorted : T (is_sorted R rows)) (i : ℕ) (d : K × V) (lt : i < length rows) where
  sorted_around : T (is_sorted R (take i rows ++ get_or rows i d ∷ drop (i + 1) rows))
  sorted_around = subst (λ (xs : List (K × V)). T (is_sorted R xs)) (around rows i d lt) sorted

  pub search_less : R key (get_or rows i d).0 ≡ Less → IsBefore R key (drop i rows)
  search_less e =
      subst (λ (xs : List (K × V)). IsBefore R key xs) (sym (drop_more rows i d lt))
      (e, before_right o key (take i rows) (get_or rows i d) (drop (i + 1) rows) sorted_around (ap is_gt e))

  pub search_greater : R key (get_or rows i d).0 ≡ Greater → IsAfter R key (take (i + 1) rows)
  search_greater e =
      subst (λ (xs : List (K × V)). IsAfter R key xs) (sym (take_more rows i d lt))
      (all_append (λ e. R key e.0 ≡ Greater) (take i rows) (get_or rows i d ∷ []) (after_left o key (take i rows) (get_or rows i d) (drop (i + 1) rows) sorted_around (ap is_lt e)) (e, tt))

  pub search_equal : R key (get_or rows i d).0 ≡ Equal → IsAt R key rows i
  search_equal e = at_from R key rows i d lt
      (after_left o key (take i rows) (get_or rows i d) (drop (i + 1) rows) sorted_around (ap is_lt e)) e
      (before_right o key (take i rows) (get_or rows i d) (drop (i + 1) rows) sorted_around (ap is_gt e))

-- a write over the row of the key puts it
pub put_at : {K V : Type 0} (R : K → K → Ordering) (key : K) (ys xs : List (K × V)) (i : ℕ) (x : K × V) (v : V) → ys ≡ xs → MatchPlace R key ys (At i) → x ≡ get_or xs i x → set xs i (x.0, v) ≡ put R key v xs
put_at {K} {V} R key ys xs i x v e is at =
    let is' : MatchPlace R key xs (At i) = subst (λ (zs : List (K × V)). MatchPlace R key zs (At i)) e is in
    set_split xs i (x.0, v) is'.within ∙ ap (λ n. take i xs ++ (x.0, v) ∷ drop n xs) (sym (add-one i)) ∙ sym (is'.put_is x (slice_get_read xs (length xs) i x refl is'.within at) v)
