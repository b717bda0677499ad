-- What compares alike is the same, and what a log has after an entry.
use Rattle.std.proofs.Common.{◌≡◌, ℕ, ◌+◌, ◌<◌, Bool, true, false, ◌||◌, List, [], ◌∷◌, refl, sym, ◌∙◌, ap, subst, arith, Option}
use Rattle.std.proofs.lemmas.Bool.{or_left, or_right, and_from, false_from_ne_true}
use Rattle.std.specs.Prelude.{is_some, IsTrue, ◌↔◌}
use Rattle.std.specs.List.{list_all, list_any, AllByRecursion}
use Rattle.std.specs.Option.{some_prefix}
use Rattle.std.specs.Ordering.{is_eq}
use Rattle.std.specs.Cmp.{tied_itself, first_so, second_so, eq_by_cmp_equiv}
use Rattle.std.proofs.lemmas.Cmp.{nat_list_cmp_total}
use Rattle.std.specs.FinMap.{slice_cmp-IsAntisymmetric, nat_cmp-IsAntisymmetric}
use Rattle.std.specs.FinMap as fmap
use Rattle.mx_pay.specs.Names.{is_name}
use Rattle.mx_pay.specs.Details.{Details, IsDetails, details_cmp, is_details}
use Rattle.mx_pay.specs.Limits.{most_entries}
use Rattle.mx_pay.specs.Orders.{logged-log_of, details_exact}
use Rattle.mx_pay.specs.Log.{Entries, IsLog, IsLogValue, log_of, log_len, has_logged, with_entry, none_logged, is_same_log, is_within, logged}
use Rattle.mx_pay.proofs.LogLemmas.{details_total, room_is}
use Rattle.mx_pay.proofs.TestLemmas.{is_equal}

pub same_name : (a b : List ℕ) → is_name a b ≡ true → a ≡ b
same_name a b h = slice_cmp-IsAntisymmetric nat_cmp-IsAntisymmetric a b (is_equal _ h)

pub same_details : (a b : Details) → is_details a b ≡ true → a ≡ b
same_details a b h = details_exact a b (is_equal _ h)

pub details_itself : (a : Details) → is_details a a ≡ true
details_itself a = ap is_eq (tied_itself details_total a)

pub name_itself : (a : List ℕ) → is_name a a ≡ true
name_itself a = ap is_eq (tied_itself nat_list_cmp_total a)

pub names_alike : (a b : List ℕ) → a ≡ b → is_name a b ≡ true
names_alike a b e = ap (is_name a) (sym e) ∙ name_itself a

-- the tests of names and of details answer the same either way
pub names_turned : (a b : List ℕ) → is_name a b ≡ is_name b a
names_turned a b = (eq_by_cmp_equiv nat_list_cmp_total).symm a b

pub details_turned : (a b : Details) → is_details a b ≡ is_details b a
details_turned a b = (eq_by_cmp_equiv details_total).symm a b

pub has-with_entry : (s : Entries) (d e : Details) → has_logged (with_entry s d) e ≡ (is_details e d || has_logged s e)
has-with_entry s d e = grind (arith, fmap.get-insert details_total s d tt e)

pub len-with_entry : (s : Entries) (d : Details) → has_logged s d ≡ false → log_len (with_entry s d) ≡ log_len s + 1
len-with_entry s d h = grind (arith, fmap.len-insert details_total s d tt)

pub has-none_logged : (e : Details) → has_logged none_logged e ≡ false
has-none_logged e = ap is_some (fmap.get-empty details_cmp e)

pub len-none_logged : log_len none_logged ≡ 0
len-none_logged = fmap.len-empty details_cmp (Unit {0})

-- what a test of all details that passed says of one that is among them
pub one_of : (f : Details → Bool) (d : Details) (ds : List Details) → list_all f ds ≡ true → list_any (is_details d) ds ≡ true → f d ≡ true
one_of f d [] all any = cc
one_of f d (e ∷ es) all any = grind (arith, same_details d e, one_of f d es)

-- a test that each of the details passes
pub all_of : (f : Details → Bool) (ds : List Details) → ((d : Details) → list_any (is_details d) ds ≡ true → f d ≡ true) → list_all f ds ≡ true
all_of f [] h = refl
all_of f (e ∷ es) h =
    and_from _ _ (h e (or_left _ _ (details_itself e))) (all_of f es (λ d there. h d (or_right _ _ there)))

-- what a log that is within another says of details
pub within_means : (a b : Entries) → is_within a b ≡ true → (d : Details) → has_logged a d ≡ true → has_logged b d ≡ true
within_means a b h d there = one_of (has_logged b) d (logged a) h (sym (fmap.contains_key-keys a d) ∙ there)

-- a log is within itself
within_itself : (a : Entries) → is_within a a ≡ true
within_itself a = all_of (has_logged a) (logged a) (λ d there. fmap.contains_key-keys a d ∙ there)

-- two logs that have the same details are one
pub same_logs : (a b : Entries) → is_same_log a b ≡ true → a ≡ b
same_logs a b h =
    fmap.same_map details_total details_exact a b (λ d. grind (arith, within_means a b (first_so _ _ h) d, within_means b a (second_so (is_within a b) _ h) d))

-- a log has the same details as itself
pub log_itself : (a : Entries) → is_same_log a a ≡ true
log_itself a = and_from _ _ (within_itself a) (within_itself a)

-- what the test of logs answers is true exactly where they are one
pub same_log_iff : (a b : Entries) (answer : Bool) → answer ≡ is_same_log a b → IsTrue answer ↔ (a ≡ b)
same_log_iff a b answer is =
    (λ h. same_logs a b (sym is ∙ h), λ e. is ∙ ap (is_same_log a) (sym e) ∙ log_itself a)

-- the test of names says whether they are one
pub names_differ : (a b : List ℕ) → is_name a b ≡ false → a ≡ b → ⊥
names_differ a b apart e = let same : is_name a b ≡ true = names_alike a b e in cc

pub names_unlike : (a b : List ℕ) → (a ≡ b → ⊥) → is_name a b ≡ false
names_unlike a b apart = false_from_ne_true _ (λ same. apart (same_name a b same))

-- what holds of each of some details, by recursion and of those that are among them
pub each_of : (P : Details → Type 0) (ds : List Details) → AllByRecursion P ds → (d : Details) → list_any (is_details d) ds ≡ true → P d
each_of P [] all d any = cc
each_of P (e ∷ es) all d any = grind (arith, same_details d e, each_of P es all.1 d)

pub of_each : (P : Details → Type 0) (ds : List Details) → ((d : Details) → list_any (is_details d) ds ≡ true → P d) → AllByRecursion P ds
of_each P [] h = tt
of_each P (e ∷ es) h =
    (h e (or_left _ _ (details_itself e)), of_each P es (λ d there. h d (or_right _ _ there)))

pub each_logged : (log : Entries) → AllByRecursion IsDetails (logged log) → (d : Details) → has_logged log d ≡ true → IsDetails d
each_logged log all d there = each_of IsDetails (logged log) all d (sym (fmap.contains_key-keys log d) ∙ there)

pub logged_each : (log : Entries) → ((d : Details) → has_logged log d ≡ true → IsDetails d) → AllByRecursion IsDetails (logged log)
logged_each log h = of_each IsDetails (logged log) (λ d there. h d (fmap.contains_key-keys log d ∙ there))

-- the places of a log are those of a log within its limits
pub log_value : (entries : List (Option Details)) → IsLog entries → IsLogValue (log_of (some_prefix entries))
log_value entries h = record {
  room = room_is entries h;
  entries = each_logged _ (subst (AllByRecursion IsDetails) (sym (logged-log_of _ h.rises)) h.each);
}

-- the empty log is within its limits, and so is a log with details that are new, where there is room
pub none_valid : IsLogValue none_logged
none_valid = record {
  room = omega (arith, len-none_logged);
  entries = λ d there. let no = has-none_logged d in cc;
}

pub with_entry_valid : (log : Entries) (d : Details) → IsLogValue log → IsDetails d → has_logged log d ≡ false → log_len log < most_entries → IsLogValue (with_entry log d)
with_entry_valid log d h valid absent room = record {
  room = omega (arith, len-with_entry log d absent);
  entries = λ e there. grind (arith, has-with_entry log d e, same_details e d, h.entries e);
}
