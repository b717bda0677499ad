-- Logs: how a loop goes over one, which are within one another, and the log of what a purse has in a set of results.
use Rattle.std.proofs.Common.{◌≡◌, ℕ, ◌+◌, ◌<◌, ◌≤◌, zero, suc, Bool, true, false, cond, not, ◌&&◌, ◌||◌, List, [], ◌∷◌, take, length, add-one, refl, sym, ◌∙◌, ap, Option, Some, None, is_some, arith}
use Rattle.std.specs.Prelude.{slice_get, nat_le, option_map, sum_by}
use Rattle.std.proofs.lemmas.Bool.Decides.{nat_tests}
use Rattle.std.specs.List.{list_any}
use Rattle.std.specs.declared.cmp.Ordering.{Ordering}
use Rattle.std.specs.Cmp.{IsTotalOrder}
use Rattle.std.specs.FinMap.{IsAntisymmetric}
use Rattle.std.specs.FinMap as fmap
use Rattle.std.specs.FinSet.{FinSet}
use Rattle.mx_pay.specs.Limits.{most_entries}
use Rattle.mx_pay.specs.Names.{name_cmp}
use Rattle.mx_pay.specs.Details.{Details, details_cmp, is_details}
use Rattle.mx_pay.specs.Orders.{details_exact}
use Rattle.mx_pay.specs.Log.{Entries, logged, log_len, has_logged, with_entry, none_logged, is_within}
use Rattle.mx_pay.proofs.CodeLemmas.{len_logged}
use Rattle.mx_pay.proofs.LogLemmas.{details_total}
use Rattle.mx_pay.proofs.SameLemmas.{all_of, same_details, has-with_entry, len-with_entry, has-none_logged}
use Rattle.mx_book.specs.Under.{under}
use Rattle.mx_book.specs.World.{Name, result_cmp}
use Rattle.mx_book.proofs.NameLemmas.{names_total}
use Rattle.mx_book.proofs.SumLemmas.{total, total_is}
use Rattle.mx_book.proofs.UnderLemmas.{get-under}

-- ---- a loop over a log

any_step : (p : Details → Bool) (ds : List Details) (i : ℕ) (d : Details) → slice_get ds i ≡ Some d → list_any p (take (suc i) ds) ≡ (list_any p (take i ds) || p d)
any_step p [] i d at = absurd (cc)
any_step p (x ∷ ds) zero d at = grind (arith, at)
any_step p (x ∷ ds) (suc i) d at = grind (arith, any_step p ds i d at)

any_past : (p : Details → Bool) (ds : List Details) (i : ℕ) → length ds ≤ i → list_any p (take i ds) ≡ list_any p ds
any_past p [] zero h = refl
any_past p [] (suc i) h = refl
any_past p (x ∷ ds) zero h = absurd (omega arith)
any_past p (x ∷ ds) (suc i) h = ap (λ b. p x || b) (any_past p ds i (omega arith))

-- whether details are among the first entries of a log
abbrev pub is_among : Entries → ℕ → Details → Bool
is_among log i d = list_any (is_details d) (take i (logged log))

pub among_more : (log : Entries) (i : ℕ) (d : Details) → slice_get (logged log) i ≡ Some d → (e : Details) → is_among log (i + 1) e ≡ (is_among log i e || is_details e d)
among_more log i d at e = rw add-one (any_step (is_details e) (logged log) i d at)

pub among_all : (log : Entries) (i : ℕ) → log_len log ≤ i → (d : Details) → is_among log i d ≡ has_logged log d
among_all log i past d = any_past (is_details d) (logged log) i (omega (arith, len_logged log)) ∙ sym (fmap.contains_key-keys log d)

-- ---- a sum over the first entries of a log

sum_step : (f : Details → ℕ) (ds : List Details) (i : ℕ) (d : Details) → slice_get ds i ≡ Some d → total f (take (suc i) ds) ≡ total f (take i ds) + f d
sum_step f [] i d at = absurd (cc)
sum_step f (x ∷ ds) zero d at = grind (arith, at)
sum_step f (x ∷ ds) (suc i) d at = omega (arith, sum_step f ds i d at)

sum_past : (f : Details → ℕ) (ds : List Details) (i : ℕ) → length ds ≤ i → total f (take i ds) ≡ total f ds
sum_past f [] zero h = refl
sum_past f [] (suc i) h = refl
sum_past f (x ∷ ds) zero h = absurd (omega arith)
sum_past f (x ∷ ds) (suc i) h = ap (λ n. f x + n) (sum_past f ds i (omega arith))

pub sum_next : (f : Details → ℕ) (log : Entries) (i : ℕ) (d : Details) → slice_get (logged log) i ≡ Some d → sum_by f (take (i + 1) (logged log)) ≡ sum_by f (take i (logged log)) + f d
sum_next f log i d at = rw add-one (total_is f (take (suc i) (logged log)) ∙ sum_step f (logged log) i d at ∙ ap (λ n. n + f d) (sym (total_is f (take i (logged log)))))

pub sum_all : (f : Details → ℕ) (log : Entries) (i : ℕ) → log_len log ≤ i → sum_by f (take i (logged log)) ≡ sum_by f (logged log)
sum_all f log i past = total_is f (take i (logged log)) ∙ sum_past f (logged log) i (omega (arith, len_logged log)) ∙ sym (total_is f (logged log))

-- ---- those of a log's entries that pass a test

-- a value is found where it is found as another
pub there_still : {X Y : Type 0} (f : X → Y) (o : Option X) → is_some (option_map f o) ≡ is_some o
there_still f None = refl
there_still f (Some x) = refl

abbrev pub added : Entries → Details → Bool → Entries
added log d b = cond b (with_entry log d) log

pub has_added : (log : Entries) (d : Details) → log_len log < most_entries → (e : Details) → has_logged (added log d (not (nat_le most_entries (log_len log) || has_logged log d))) e ≡ (has_logged log e || is_details e d)
has_added log d room e = grind (arith, nat_tests, has-with_entry log d e, same_details e d)

pub len_added : (log : Entries) (d : Details) (b : Bool) → b ≡ not (nat_le most_entries (log_len log) || has_logged log d) → log_len (added log d b) ≤ log_len log + 1
len_added log d true is = grind (arith, nat_tests, len-with_entry log d)
len_added log d false is = omega arith

-- a is among those before and b is the next one: it passes the test x, or fails it
next_passes : (a b x : Bool) → (b ≡ true → x ≡ true) → ((a && x) || b) ≡ ((a || b) && x)
next_passes a true x h = grind (arith, h refl)
next_passes a false x h = grind arith

next_fails : (a b x : Bool) → (b ≡ true → x ≡ false) → (a && x) ≡ ((a || b) && x)
next_fails a true x h = grind (arith, h refl)
next_fails a false x h = grind arith

module _ (log old : Entries) (i : ℕ) (d : Details) (f : Details → Bool) (at : slice_get (logged log) i ≡ Some d) (before : (e : Details) → has_logged old e ≡ (is_among log i e && f e)) where
  pub laid_more : f d ≡ true → (new : Entries) → ((e : Details) → has_logged new e ≡ (has_logged old e || is_details e d)) → (e : Details) → has_logged new e ≡ (is_among log (i + 1) e && f e)
  laid_more passes new more e =
      more e ∙ ap (λ b. b || is_details e d) (before e) ∙ next_passes (is_among log i e) (is_details e d) (f e) (λ t. ap f (same_details e d t) ∙ passes)
      ∙ ap (λ b. b && f e) (sym (among_more log i d at e))

  pub laid_same : f d ≡ false → (e : Details) → has_logged old e ≡ (is_among log (i + 1) e && f e)
  laid_same fails e =
      before e ∙ next_fails (is_among log i e) (is_details e d) (f e) (λ t. ap f (same_details e d t) ∙ fails)
      ∙ ap (λ b. b && f e) (sym (among_more log i d at e))

same_mark : (a b : Option (Unit {0})) → is_some a ≡ is_some b → a ≡ b
same_mark None None e = refl
same_mark None (Some x) e = absurd (cc)
same_mark (Some x) None e = absurd (cc)
same_mark (Some x) (Some y) e = refl

-- sets are those that have the same members
pub same_members : {K : Type 0} {R : K → K → Ordering} → IsTotalOrder R → IsAntisymmetric R → (s t : FinSet R) → ((k : K) → fmap.contains_key s k ≡ fmap.contains_key t k) → s ≡ t
same_members o exact s t is = fmap.same_map o exact s t (λ k. same_mark _ _ (is k))

-- what a set has where some are kept
pub has_kept : {K : Type 0} {R : K → K → Ordering} → IsAntisymmetric R → (s : FinSet R) (f : K → Bool) (k : K) → fmap.contains_key (fmap.retain_keys s f) k ≡ (fmap.contains_key s k && f k)
has_kept exact s f k = grind (arith, fmap.get-retain_keys s f k (λ x tie. ap f (sym (exact k x tie))))

-- none of the empty log's pass
pub laid_none : (f : Details → Bool) → none_logged ≡ fmap.retain_keys none_logged f
laid_none f = same_members details_total details_exact _ _ (λ d. grind (arith, has-none_logged d, has_kept details_exact none_logged f d))

pub laid_all : (log results : Entries) (i : ℕ) (f : Details → Bool) → log_len log ≤ i → ((d : Details) → has_logged results d ≡ (is_among log i d && f d)) → results ≡ fmap.retain_keys log f
laid_all log results i f past is = same_members details_total details_exact _ _ (λ d. grind (arith, is d, among_all log i past d, has_kept details_exact log f d))

-- ---- logs within one another

pub within_from : (a b : Entries) → ((d : Details) → has_logged a d ≡ true → has_logged b d ≡ true) → is_within a b ≡ true
within_from a b each = all_of (has_logged b) (logged a) (λ d there. each d (fmap.contains_key-keys a d ∙ there))

-- the log has the results of the purse
pub under_has : (p : Name) (results : FinSet result_cmp) (d : Details) → has_logged (under name_cmp details_cmp p results) d ≡ fmap.contains_key results (p, d)
under_has p results d = ap is_some (get-under name_cmp details_cmp names_total p results d)
