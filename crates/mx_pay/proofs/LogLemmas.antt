-- The calls of a log as those of its set: each call on the sixteen places gives what the set does.
use Rattle.std.proofs.Common.{◌≡◌, ℕ, ◌-◌, ◌<◌, ◌≤◌, suc, zero, Bool, true, false, ◌&&◌, ◌||◌, List, [], ◌∷◌, ◌++◌, refl, sym, ◌∙◌, ap, subst, Option, Some, None, T, map, length, replicate, arith}
use Rattle.std.proofs.lemmas.Bool.{leb-false}
use Rattle.std.specs.Prelude.{is_some, nat_le, count_by, slice_get, filter}
use Rattle.std.proofs.lemmas.List.Sums.{length-filter}
use Rattle.mx_pay.specs.Limits.{most_entries}
use Rattle.mx_pay.specs.Orders.{logged-log_of}
use Rattle.std.proofs.lemmas.List.{length-map}
use Rattle.std.specs.Option.{some_prefix}
use Rattle.std.specs.List.{list_all, list_any, AllByRecursion}
use Rattle.std.proofs.lemmas.Bool.Decides.{nat_tests}
use Rattle.std.specs.Cmp.{IsTotalOrder}
use Rattle.std.proofs.lemmas.Cmp.{on_total, then_total, nat_list_cmp_total, nat_cmp_total}
use Rattle.std.specs.FinMap as fmap
use Rattle.std.specs.FinMap.Entries.{put, find, is_sorted, is_sorted-put}
use Rattle.mx_pay.specs.Details.{Details, IsDetails, details_cmp}
use Rattle.mx_pay.specs.Log.{logged, Entries, IsLog, marks, places, log_of, log_len, has_logged, with_entry, is_within, entry_at, is_below, all_owned}
use Rattle.mx_pay.specs.Places.{put_in, holds_at, stands_in, option_join, is_behind, owns_place}
use Rattle.mx_pay.proofs.PutLemmas.{put_list, put_in-places, put-marks, length-put_list, put_all}

-- the log of no details is the empty log
pub log_of_none : log_of [] ≡ fmap.empty
log_of_none = fmap.empty_of_len _ (fmap.len-entries _ ∙ ap length (fmap.entries-from_sorted details_cmp [] tt))

-- the order of details is total
pub details_total : IsTotalOrder details_cmp
details_total =
    then_total (on_total (λ (d : Details). d.from) nat_list_cmp_total) (then_total (on_total (λ (d : Details). d.to) nat_list_cmp_total)
    (then_total (on_total (λ (d : Details). d.value) nat_cmp_total) (then_total (on_total (λ (d : Details). d.from_seq) nat_cmp_total) (on_total (λ (d : Details). d.to_seq) nat_cmp_total))))

len-log_of : (ds : List Details) → T (is_sorted details_cmp (marks ds)) → log_len (log_of ds) ≡ length ds
len-log_of ds h = fmap.len-entries (log_of ds) ∙ ap length (fmap.entries-from_sorted details_cmp (marks ds) h) ∙ length-map ds _

prefix_of : (ds : List Details) (n : ℕ) → some_prefix (map Some ds ++ replicate n None) ≡ ds
prefix_of [] zero = refl
prefix_of [] (suc n) = refl
prefix_of (d ∷ ds) n = ap (λ xs. d ∷ xs) (prefix_of ds n)

-- what a test says of the places of details, with nothing behind them
tested : (p : Option Details → Bool) (ds : List Details) (n : ℕ) → list_all p (map Some ds ++ replicate n None) ≡ (list_all (λ d. p (Some d)) ds && (nat_le n 0 || p None))
tested p [] zero = refl
tested p [] (suc n) = grind (arith, nat_tests, tested p [] n)
tested p (d ∷ ds) n = grind (arith, tested p ds n)

any_none : (d : Details) (n : ℕ) → list_any (holds_at d) (replicate n None) ≡ false
any_none d zero = refl
any_none d (suc n) = any_none d n

any_place : (d : Details) (ds : List Details) (n : ℕ) → list_any (holds_at d) (map Some ds ++ replicate n None) ≡ is_some (find details_cmp d (marks ds))
any_place d [] n = any_none d n
any_place d (e ∷ es) n = grind (arith, any_place d es n)

-- a place has details where there are more than those before it
some_at : (ds : List Details) (i : ℕ) → is_some (slice_get ds i) ≡ nat_le (suc i) (length ds)
some_at [] zero = grind (arith, nat_tests)
some_at [] (suc i) = grind (arith, nat_tests)
some_at (d ∷ ds) zero = grind (arith, nat_tests)
some_at (d ∷ ds) (suc i) = grind (arith, nat_tests, some_at ds i)

pub full_is : (log : Entries) → is_some (entry_at log (most_entries - 1)) ≡ nat_le most_entries (log_len log)
full_is log = some_at (logged log) (most_entries - 1) ∙ ap (nat_le most_entries) (length-map (fmap.entries log) _ ∙ sym (fmap.len-entries log))

-- whether details are there, of the fields
pub has_is : (entries : List (Option Details)) → IsLog entries → (d : Details) → list_any (holds_at d) entries ≡ has_logged (log_of (some_prefix entries)) d
has_is entries h d =
    ap (list_any (holds_at d)) (sym h.exact) ∙ any_place d (some_prefix entries) (most_entries - length (some_prefix entries))
    ∙ ap is_some (sym (fmap.get-from_sorted details_cmp (marks (some_prefix entries)) d h.rises))

-- the log after details that are new, where there is room
pub record IsPut (entries : List (Option Details)) (d : Details) : Type 0 where
  pub fields : IsLog (put_in d entries)
  pub view : log_of (some_prefix (put_in d entries)) ≡ with_entry (log_of (some_prefix entries)) d

pub is_put : (entries : List (Option Details)) → IsLog entries → (d : Details) → IsDetails d → nat_le most_entries (log_len (log_of (some_prefix entries))) ≡ false → has_logged (log_of (some_prefix entries)) d ≡ false → IsPut entries d
is_put entries h d valid full there =
    let ds : List Details = some_prefix entries in
    let short : nat_le most_entries (length ds) ≡ false = ap (nat_le most_entries) (sym (len-log_of ds h.rises)) ∙ full in
    let room : length ds < most_entries = leb-false most_entries (length ds) short in
    let none : find details_cmp d (marks ds) ≡ None = grind (arith, fmap.get-from_sorted details_cmp (marks ds) d h.rises) in
    let k : ℕ = most_entries - suc (length ds) in
    let one_more : most_entries - length ds ≡ suc k = omega arith in
    let before : entries ≡ map Some ds ++ None ∷ replicate k None = sym h.exact ∙ ap (λ m. map Some ds ++ replicate m None) one_more in
    let after : put_in d entries ≡ map Some (put_list d ds) ++ replicate k None = ap (put_in d) before ∙ put_in-places d ds (replicate k None) h.rises none in
    let prefix : some_prefix (put_in d entries) ≡ put_list d ds = ap some_prefix after ∙ prefix_of (put_list d ds) k in
    let longer : length (put_list d ds) ≡ suc (length ds) = length-put_list d ds none in
    let rises : T (is_sorted details_cmp (marks (put_list d ds))) = subst (λ es. T (is_sorted details_cmp es)) (put-marks d ds none) (is_sorted-put details_cmp details_total d tt (marks ds) h.rises) in
    let left : most_entries - length (put_list d ds) ≡ k = omega arith in
    record {
      fields = record {
        room = subst (λ xs. length xs ≤ most_entries) (sym prefix) (omega arith);
        exact = ap places prefix ∙ ap (λ m. map Some (put_list d ds) ++ replicate m None) left ∙ sym after;
        rises = subst (λ xs. T (is_sorted details_cmp (marks xs))) (sym prefix) rises;
        each = subst (AllByRecursion IsDetails) (sym prefix) (put_all IsDetails d ds valid h.each);
      };
      view = ap log_of prefix ∙ fmap.same_entries_map _ _ (fmap.entries-from_sorted details_cmp (marks (put_list d ds)) rises ∙ sym (put-marks d ds none)
          ∙ ap (put details_cmp d tt) (sym (fmap.entries-from_sorted details_cmp (marks ds) h.rises)) ∙ sym (fmap.entries-insert details_total (log_of ds) d tt));
    }

-- the other calls, of the fields
filter_places : (ds : List Details) (n : ℕ) → length (filter is_some (map Some ds ++ replicate n None)) ≡ length ds
filter_places [] zero = refl
filter_places [] (suc n) = filter_places [] n
filter_places (d ∷ ds) n = ap suc (filter_places ds n)

count_places : (ds : List Details) (n : ℕ) → count_by is_some (map Some ds ++ replicate n None) ≡ length ds
count_places ds n = sym (length-filter is_some (map Some ds ++ replicate n None)) ∙ filter_places ds n

pub len_is : (entries : List (Option Details)) → IsLog entries → count_by is_some entries ≡ log_len (log_of (some_prefix entries))
len_is entries h = ap (count_by is_some) (sym h.exact) ∙ count_places (some_prefix entries) _ ∙ sym (len-log_of _ h.rises)

slot_none : (n i : ℕ) → option_join (slice_get (replicate n None) i) ≡ None
slot_none zero zero = refl
slot_none zero (suc i) = refl
slot_none (suc n) zero = refl
slot_none (suc n) (suc i) = slot_none n i

slot_place : (ds : List Details) (n i : ℕ) → option_join (slice_get (map Some ds ++ replicate n None) i) ≡ slice_get ds i
slot_place [] n zero = slot_none n zero
slot_place [] n (suc i) = slot_none n (suc i)
slot_place (d ∷ ds) n zero = refl
slot_place (d ∷ ds) n (suc i) = slot_place ds n i

pub at_is : (entries : List (Option Details)) → IsLog entries → (i : ℕ) → option_join (slice_get entries i) ≡ entry_at (log_of (some_prefix entries)) i
at_is entries h i = ap (λ es. option_join (slice_get es i)) (sym h.exact) ∙ slot_place (some_prefix entries) _ i ∙ ap (λ ds. slice_get ds i) (sym (logged-log_of _ h.rises))

-- a test that nothing passes holds of the places where it holds of the details
places_all : (p : Option Details → Bool) → p None ≡ true → (entries : List (Option Details)) → IsLog entries → list_all p entries ≡ list_all (λ d. p (Some d)) (logged (log_of (some_prefix entries)))
places_all p none entries h =
    let ds : List Details = some_prefix entries in
    let log : logged (log_of ds) ≡ ds = logged-log_of ds h.rises in
    ap (list_all p) (sym h.exact) ∙ tested p ds _ ∙ grind arith

pub within_is : (entries : List (Option Details)) → IsLog entries → (s : Entries) → list_all (stands_in s) entries ≡ is_within (log_of (some_prefix entries)) s
within_is entries h s = places_all (stands_in s) refl entries h

pub below_is : (entries : List (Option Details)) → IsLog entries → (x : Details) → list_all (is_behind x) entries ≡ is_below x (log_of (some_prefix entries))
below_is entries h x = places_all (is_behind x) refl entries h

pub owned_is : (entries : List (Option Details)) → IsLog entries → (x : List ℕ) (k : ℕ) → list_all (owns_place x k) entries ≡ all_owned x k (log_of (some_prefix entries))
owned_is entries h x k = places_all (owns_place x k) refl entries h

pub room_is : (entries : List (Option Details)) → IsLog entries → log_len (log_of (some_prefix entries)) ≤ most_entries
room_is entries h = subst (λ (n : ℕ). n ≤ most_entries) (sym (len-log_of _ h.rises)) h.room
