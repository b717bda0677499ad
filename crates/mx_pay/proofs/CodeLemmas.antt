-- The laws of code texts, of all entries.
use Rattle.std.proofs.Common.{◌≡◌, ◌≢◌, ℕ, ◌+◌, ◌^◌, ◌<◌, ◌≤◌, suc, zero, true, false, ◌==◌, List, [], ◌∷◌, ◌++◌, refl, sym, ◌∙◌, ap, subst, Option, Some, None, T, map, length, arith, append_assoc, length-append}
use Rattle.std.proofs.lemmas.Bool.{lt-leb}
use Rattle.mx_pay.proofs.TestLemmas.{first_true, second_true}
use Rattle.std.proofs.lemmas.List.{append-nil, length-map, nil_from_length, drop_all}
use Rattle.std.proofs.lemmas.Option.{slice_get_cases}
use Rattle.std.specs.Prelude.{decimal, slice_get, drop}
use Rattle.std.proofs.lemmas.Bool.Decides.{nat_tests}
use Rattle.std.specs.Option.{option_and_then, IfSome}
use Rattle.std.specs.List.{list_all, list_any, AllByRecursion}
use Rattle.std.specs.Ordering.{is_lt, eq_by_cmp}
use Rattle.std.specs.FinMap as fmap
use Rattle.std.specs.FinMap.Entries.{put, is_sorted, below_all}
use Rattle.mx_pay.specs.Limits.{most_amount, most_number, most_entries}
use Rattle.mx_pay.specs.Details.{Details, IsDetails, details_cmp}
use Rattle.mx_pay.specs.Log.{IsLogValue, Entries, logged, log_len, with_entry, none_logged, is_below, marks}
use Rattle.mx_pay.specs.Orders.{logged-log_of}
use Rattle.std.specs.Int.{IsInRange}
use Rattle.mx_pay.specs.Codes.{entry_text, entry_texts, code}
use Rattle.mx_pay.specs.Reading.{lead, cut, entry_of, put_last, with_text, after_cut, entries_of}
use Rattle.mx_pay.proofs.LogLemmas.{details_total, log_of_none}
use Rattle.mx_pay.proofs.SameLemmas.{each_logged, logged_each}
use Rattle.mx_pay.proofs.EntryLemmas.{NoByte, bind_some, cut_parts, cut_none, cut_at, entry_takes, entry_again, name_lacks, number_lacks_at}

-- the last entry
keys_put : (d : Details) (es : List (Details × Unit {0})) → list_all (λ e. is_lt (details_cmp e d)) (map (λ (e : Details × Unit {0}). e.0) es) ≡ true
    → map (λ (e : Details × Unit {0}). e.0) (put details_cmp d tt es) ≡ map (λ (e : Details × Unit {0}). e.0) es ++ d ∷ []
keys_put d [] h = refl
keys_put d (e ∷ es) h = grind (arith, keys_put d es, details_total.antisymm e.0 d)

pub logged_last : (log : Entries) (d : Details) → is_below d log ≡ true → logged (with_entry log d) ≡ logged log ++ d ∷ []
logged_last log d h = ap (map (λ (e : Details × Unit {0}). e.0)) (fmap.entries-insert details_total log d tt) ∙ keys_put d (fmap.entries log) h

-- what is read is spelled so
pub record IsOneMore (log s : Entries) (t : List ℕ) : Type 0 where
  pub entry : Details
  pub is : IsDetails entry
  pub text : t ≡ entry_text entry
  pub logs : logged s ≡ logged log ++ entry ∷ []

pub text_takes : (log : Entries) (t : List ℕ) (s : Entries) → with_text log t ≡ Some s → IsOneMore log s t
unfolding with_text
text_takes log t s h =
    let b = bind_some (put_last log) (entry_of t) s h in
    let p : (is_below b.0 log ≡ true) × (with_entry log b.0 ≡ s) = grind (arith, b.1.1) in
    let e = entry_takes t b.0 b.1.0 in
    record { entry = b.0; is = e.0; text = e.1; logs = ap logged (sym p.1) ∙ logged_last log b.0 p.0 }

-- a text was read with at most n turns: it is that of entries within their limits, and they stand at the end
pub record IsRead (n : ℕ) (log s : Entries) (t : List ℕ) : Type 0 where
  pub first : Details
  pub rest : List Details
  pub few : length rest < n
  pub valid : AllByRecursion IsDetails (first ∷ rest)
  pub text : t ≡ entry_texts (first ∷ rest)
  pub logs : logged s ≡ logged log ++ first ∷ rest

cut_takes : (n : ℕ) (t : List ℕ) (log s : Entries) (r : Option (List ℕ × List ℕ)) → cut 59 t ≡ r
    → ((u : List ℕ) (m : Entries) → entries_of n u m ≡ Some s → IsRead n m s u)
    → after_cut (entries_of n) t log r ≡ Some s → IsRead (suc n) log s t
cut_takes n t log s None is again h =
    let one = text_takes log t s h in
    record { first = one.entry; rest = []; few = omega arith; valid = (one.is, tt); text = one.text; logs = one.logs }
cut_takes n t log s (Some p) is again h =
    let b = bind_some (entries_of n p.1) (with_text log p.0) s h in
    let one = text_takes log p.0 b.0 b.1.0 in
    let more = again p.1 b.0 b.1.1 in
    record {
      first = one.entry;
      rest = more.first ∷ more.rest;
      few = let k : length more.rest < n = more.few in omega arith;
      valid = (one.is, more.valid);
      text = cut_parts 59 t p is ∙ ap (λ u. u ++ 59 ∷ p.1) one.text ∙ ap (λ u. entry_text one.entry ++ 59 ∷ u) more.text;
      logs = more.logs ∙ ap (λ ds. ds ++ more.first ∷ more.rest) one.logs ∙ append_assoc (logged log) (one.entry ∷ []) (more.first ∷ more.rest);
    }

pub entries_take : (n : ℕ) (t : List ℕ) (log s : Entries) → entries_of n t log ≡ Some s → IsRead n log s t
entries_take zero t log s h = cc
entries_take (suc n) t log s h = cut_takes n t log s (cut 59 t) refl (λ u m e. entries_take n u m s e) h

-- what is spelled so is read
lacks_join : (c x : ℕ) (a b : List ℕ) → x ≢ c → NoByte c a → NoByte c b → NoByte c (a ++ x ∷ b)
lacks_join c x [] b apart ha hb zero l e = apart e
lacks_join c x [] b apart ha hb (suc i) l e = hb i (omega arith) e
lacks_join c x (y ∷ a) b apart ha hb zero l e = ha 0 (omega arith) e
lacks_join c x (y ∷ a) b apart ha hb (suc i) l e = lacks_join c x a b apart (λ j m. ha (suc j) (omega arith)) hb i (omega arith) e

entry_lacks : (d : Details) → IsDetails d → NoByte 59 (entry_text d)
entry_lacks d h =
    let apart : ◌≢◌ {A = ℕ} 44 59 = λ e. omega arith in
    let vs : d.value < 2 ^ 64 = (let k : d.value ≤ most_amount = h.value in omega arith) in
    let ms : d.from_seq < 2 ^ 64 = (let k : d.from_seq ≤ most_number = h.from_seq in omega arith) in
    let ns : d.to_seq < 2 ^ 64 = (let k : d.to_seq ≤ most_number = h.to_seq in omega arith) in
    lacks_join 59 44 _ _ apart (name_lacks 59 refl d.from h.from)
    (lacks_join 59 44 _ _ apart (name_lacks 59 refl d.to h.to)
    (lacks_join 59 44 _ _ apart (number_lacks_at 59 outside d.value vs)
    (lacks_join 59 44 _ _ apart (number_lacks_at 59 outside d.from_seq ms) (number_lacks_at 59 outside d.to_seq ns))))
  where
    outside : IsInRange 48 57 59 → ⊥
    outside r = let k : 59 ≤ 57 = r.1 in omega arith

below_at : (x : Details) (xs : List Details) (d : Details) (ys : List Details) → T (below_all details_cmp x (marks (xs ++ d ∷ ys))) → T (is_lt (details_cmp x d))
below_at x [] d ys h = first_true _ _ h
below_at x (y ∷ xs) d ys h = below_at x xs d ys (second_true (is_lt (details_cmp x y)) _ h)

sorted_below : (xs : List Details) (d : Details) (ys : List Details) → T (is_sorted details_cmp (marks (xs ++ d ∷ ys))) → list_all (λ e. is_lt (details_cmp e d)) xs ≡ true
sorted_below [] d ys h = refl
sorted_below (x ∷ xs) d ys h = grind (arith, below_at x xs d ys, sorted_below xs d ys)

none_tied : (d : Details) (xs : List Details) → list_all (λ e. is_lt (details_cmp e d)) xs ≡ true → list_any (eq_by_cmp details_cmp d) xs ≡ false
none_tied d [] h = refl
none_tied d (e ∷ es) h = grind (arith, none_tied d es, details_total.antisymm e d)

pub len_logged : (log : Entries) → log_len log ≡ length (logged log)
len_logged log = fmap.len-entries log ∙ sym (length-map (fmap.entries log) _)

put_again : (log : Entries) (d : Details) → is_below d log ≡ true → length (logged log) < most_entries → put_last log d ≡ Some (with_entry log d)
put_again log d below room =
    grind (arith, fmap.contains_key-keys log d, none_tied d (logged log) below, len_logged log, lt-leb most_entries (log_len log))

text_again : (log : Entries) (d : Details) → IsDetails d → is_below d log ≡ true → length (logged log) < most_entries → with_text log (entry_text d) ≡ Some (with_entry log d)
unfolding with_text
text_again log d h below room = ap (option_and_then (put_last log)) (entry_again d h) ∙ put_again log d below room

pub record IsFound (n : ℕ) (t : List ℕ) (log : Entries) (ds : List Details) : Type 0 where
  pub value : Entries
  pub read : entries_of n t log ≡ Some value
  pub logs : logged value ≡ logged log ++ ds

pub entries_again : (n : ℕ) (d : Details) (ds : List Details) (log : Entries) → length ds < n → length (logged log) + length ds < most_entries → AllByRecursion IsDetails (d ∷ ds)
    → T (is_sorted details_cmp (marks (logged log ++ d ∷ ds))) → IsFound n (entry_texts (d ∷ ds)) log (d ∷ ds)
entries_again zero d ds log turns room valid sorted = absurd (omega arith)
entries_again (suc n) d [] log turns room valid sorted =
    let below : is_below d log ≡ true = sorted_below (logged log) d [] sorted in
    record {
      value = with_entry log d;
      read = ap (after_cut (entries_of n) (entry_text d) log) (cut_none 59 (entry_text d) (entry_lacks d valid.0)) ∙ text_again log d valid.0 below (omega arith);
      logs = logged_last log d below;
    }
entries_again (suc n) d (e ∷ es) log turns room valid sorted =
    let below : is_below d log ≡ true = sorted_below (logged log) d (e ∷ es) sorted in
    let last : logged (with_entry log d) ≡ logged log ++ d ∷ [] = logged_last log d below in
    let regrouped : logged (with_entry log d) ++ e ∷ es ≡ logged log ++ d ∷ e ∷ es = ap (λ ds. ds ++ e ∷ es) last ∙ append_assoc (logged log) (d ∷ []) (e ∷ es) in
    let longer : length (logged (with_entry log d)) ≡ length (logged log) + 1 = ap length last ∙ length-append (logged log) (d ∷ []) in
    let more : IsFound n (entry_texts (e ∷ es)) (with_entry log d) (e ∷ es) =
    entries_again n e es (with_entry log d) (omega arith) (omega arith) valid.1 (subst (λ ds. T (is_sorted details_cmp (marks ds))) (sym regrouped) sorted) in
    record {
      value = more.value;
      read = ap (after_cut (entries_of n) (entry_texts (d ∷ e ∷ es)) log) (cut_at 59 (entry_text d) (entry_texts (e ∷ es)) (entry_lacks d valid.0))
          ∙ ap (option_and_then (entries_of n (entry_texts (e ∷ es)))) (text_again log d valid.0 below (omega arith)) ∙ more.read;
      logs = more.logs ∙ regrouped;
    }

-- whole logs
marks_keys : (es : List (Details × Unit {0})) → marks (map (λ (e : Details × Unit {0}). e.0) es) ≡ es
marks_keys [] = refl
marks_keys (e ∷ es) = ap (λ xs. e ∷ xs) (marks_keys es)

pub same_logged : (s t : Entries) → logged s ≡ logged t → s ≡ t
same_logged s t h = fmap.same_entries_map s t (sym (marks_keys (fmap.entries s)) ∙ ap marks h ∙ marks_keys (fmap.entries t))

logged_sorted : (s : Entries) → T (is_sorted details_cmp (marks (logged s)))
logged_sorted s = subst (λ es. T (is_sorted details_cmp es)) (sym (marks_keys (fmap.entries s))) (fmap.entries_sorted s)

pub none_is : logged none_logged ≡ []
none_is = ap logged (sym log_of_none) ∙ logged-log_of [] tt

pub found_in : (t : List ℕ) (r : Option Entries) → r ≡ entries_of most_entries t none_logged → IfSome r (λ log. t ≡ code log)
found_in t None h = tt
found_in t (Some s) h =
    let f = entries_take most_entries t none_logged s (sym h) in
    let e : logged s ≡ f.first ∷ f.rest = f.logs ∙ ap (λ ds. ds ++ f.first ∷ f.rest) none_is in
    f.text ∙ ap entry_texts (sym e)

pub valid_in : (t : List ℕ) (r : Option Entries) → r ≡ entries_of most_entries t none_logged → IfSome r IsLogValue
valid_in t None h = tt
valid_in t (Some s) h =
    let f = entries_take most_entries t none_logged s (sym h) in
    let e : logged s ≡ f.first ∷ f.rest = f.logs ∙ ap (λ ds. ds ++ f.first ∷ f.rest) none_is in
    let few : length f.rest < most_entries = f.few in
    let len : log_len s ≡ length (f.first ∷ f.rest) = len_logged s ∙ ap length e in
    record { room = omega arith; entries = each_logged s (subst (AllByRecursion IsDetails) (sym e) f.valid) }

pub only_in : (t : List ℕ) (r : Option Entries) → r ≡ entries_of most_entries t none_logged → (t ≡ [] → ⊥) → (log : Entries) → IsLogValue log → t ≡ code log → r ≡ Some log
only_in t r h nonempty log valid is = by_list (logged log) refl
  where
    by_list : (ds : List Details) → logged log ≡ ds → r ≡ Some log
    by_list [] e = absurd (nonempty (is ∙ ap entry_texts e))
    by_list (d ∷ ds) e =
        let len : log_len log ≡ length (d ∷ ds) = len_logged log ∙ ap length e in
        let room : log_len log ≤ most_entries = valid.room in
        let start : logged none_logged ++ d ∷ ds ≡ d ∷ ds = ap (λ xs. xs ++ d ∷ ds) none_is in
        let nothing : length (logged none_logged) ≡ 0 = ap length none_is in
        let f : IsFound most_entries (entry_texts (d ∷ ds)) none_logged (d ∷ ds) =
        entries_again most_entries d ds none_logged (omega arith) (omega arith) (subst (AllByRecursion IsDetails) e (logged_each log valid.entries))
        (subst (λ xs. T (is_sorted details_cmp (marks xs))) (e ∙ sym start) (logged_sorted log)) in
        h ∙ ap (λ u. entries_of most_entries u none_logged) (is ∙ ap entry_texts e) ∙ f.read ∙ ap Some (same_logged f.value log (f.logs ∙ start ∙ sym e))

joined_some : (a : List ℕ) (x : ℕ) (b : List ℕ) → a ++ x ∷ b ≡ [] → ⊥
joined_some [] x b e = cc
joined_some (y ∷ a) x b e = cc

pub none_only : (t : List ℕ) → t ≡ [] → (log : Entries) → t ≡ code log → none_logged ≡ log
none_only t empty log is = by_list (logged log) refl
  where
    by_list : (ds : List Details) → logged log ≡ ds → none_logged ≡ log
    by_list [] e = same_logged none_logged log (none_is ∙ sym e)
    by_list (d ∷ []) e = absurd (joined_some _ _ _ (sym (ap entry_texts e) ∙ sym is ∙ empty))
    by_list (d ∷ c ∷ ds) e = absurd (joined_some _ _ _ (sym (ap entry_texts e) ∙ sym is ∙ empty))

pub empty_of : (xs : List ℕ) → (length xs == 0) ≡ true → xs ≡ []
empty_of xs h = nil_from_length xs (grind (arith, nat_tests))

pub nonempty_of : (xs : List ℕ) → (length xs == 0) ≡ false → xs ≡ [] → ⊥
nonempty_of xs h e = grind (arith, nat_tests, ap length e)

-- the rest of a text, behind a first entry or not
abbrev pub rest_text : List Details → List ℕ
rest_text [] = []
rest_text (d ∷ ds) = 59 ∷ (entry_text d ++ rest_text ds)

abbrev pub text_from : ℕ → List Details → List ℕ
text_from zero ds = entry_texts ds
text_from (suc n) ds = rest_text ds

code_rest : (d : Details) (ds : List Details) → entry_texts (d ∷ ds) ≡ entry_text d ++ rest_text ds
code_rest d [] = sym (append-nil (entry_text d))
code_rest d (e ∷ es) = ap (λ ys. entry_text d ++ 59 ∷ ys) (code_rest e es)

five : (t a b c d e : List ℕ) → ((((t ++ (a ++ 44 ∷ [])) ++ (b ++ 44 ∷ [])) ++ (c ++ 44 ∷ [])) ++ (d ++ 44 ∷ [])) ++ e ≡ t ++ (a ++ 44 ∷ (b ++ 44 ∷ (c ++ 44 ∷ (d ++ 44 ∷ e))))
five t a b c d e = simp append_assoc

pub pushed : (t0 t1 t2 t3 t4 : List ℕ) (x : Details) {t5 a b c d e : List ℕ}
    → t1 ≡ t0 ++ (a ++ 44 ∷ []) → t2 ≡ t1 ++ (b ++ 44 ∷ []) → t3 ≡ t2 ++ (c ++ 44 ∷ []) → t4 ≡ t3 ++ (d ++ 44 ∷ []) → t5 ≡ t4 ++ e
    → a ≡ x.from → b ≡ x.to → c ≡ decimal x.value → d ≡ decimal x.from_seq → e ≡ decimal x.to_seq → t5 ≡ t0 ++ entry_text x
pushed t0 t1 t2 t3 t4 x {t5 = t5} {a = a} {b = b} {c = c} {d = d} {e = e} p q r s u v w m n k =
    let joined : t5 ≡ ((((t0 ++ (a ++ 44 ∷ [])) ++ (b ++ 44 ∷ [])) ++ (c ++ 44 ∷ [])) ++ (d ++ 44 ∷ [])) ++ e = cc in
    let all = five t0 a b c d e in
    joined ∙ all ∙ fields
  where
    fields : t0 ++ (a ++ 44 ∷ (b ++ 44 ∷ (c ++ 44 ∷ (d ++ 44 ∷ e)))) ≡ t0 ++ entry_text x
    fields = cc

drop_get : (k : ℕ) (ds : List Details) (d : Details) → slice_get ds k ≡ Some d → drop k ds ≡ d ∷ drop (suc k) ds
drop_get zero [] d h = cc
drop_get zero (e ∷ es) d h = cc
drop_get (suc k) [] d h = cc
drop_get (suc k) (e ∷ es) d h = drop_get k es d h

lead_step : (k : ℕ) (t : List ℕ) (d : Details) (ds : List Details) → t ++ text_from k (d ∷ ds) ≡ ((t ++ lead k) ++ entry_text d) ++ rest_text ds
lead_step zero t d ds = ap (λ ys. t ++ ys) (code_rest d ds) ∙ sym (append_assoc t (entry_text d) (rest_text ds)) ∙ ap (λ xs. (xs ++ entry_text d) ++ rest_text ds) (sym (append-nil t))
lead_step (suc k) t d ds = simp append_assoc

pub text_step : (k : ℕ) (t u : List ℕ) (log : Entries) (d : Details) → slice_get (logged log) k ≡ Some d → u ≡ (t ++ lead k) ++ entry_text d
    → t ++ text_from k (drop k (logged log)) ≡ code log → u ++ text_from (k + 1) (drop (k + 1) (logged log)) ≡ code log
text_step k t u log d h p inv =
    let e : k + 1 ≡ suc k = omega arith in
    ap (λ n. u ++ text_from n (drop n (logged log))) e ∙ ap (λ xs. xs ++ rest_text (drop (suc k) (logged log))) p
    ∙ sym (lead_step k t d (drop (suc k) (logged log))) ∙ ap (λ ds. t ++ text_from k ds) (sym (drop_get k (logged log) d h)) ∙ inv

pub no_gap : (log : Entries) (k : ℕ) → k < log_len log → slice_get (logged log) k ≡ None → ⊥
no_gap log k l h = grind (arith, len_logged log, slice_get_cases (logged log) k)

from_none : (k : ℕ) → text_from k [] ≡ []
from_none zero = refl
from_none (suc k) = refl

pub text_end : (t : List ℕ) (log : Entries) (k : ℕ) → log_len log ≤ k → t ++ text_from k (drop k (logged log)) ≡ code log → t ≡ code log
text_end t log k l inv =
    let e : log_len log ≡ length (logged log) = len_logged log in
    sym (append-nil t) ∙ ap (λ ys. t ++ ys) (sym (from_none k) ∙ ap (text_from k) (sym (drop_all k (logged log) (omega arith)))) ∙ inv
