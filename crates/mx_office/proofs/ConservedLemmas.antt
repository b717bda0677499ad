-- What is under way and what is lost, and the scheme's equation of each World that commands lead to.
use Rattle.std.proofs.Common.{◌≡◌, ℕ, ◌+◌, ◌≤◌, Bool, true, false, cond, not, List, [], ◌∷◌, ◌++◌, refl, sym, ◌∙◌, ap, subst, Option, Some, None, ◌&&◌, ◌||◌, arith, map, is_some, option_map}
use Rattle.std.specs.Prelude.{flat_map}
use Rattle.std.specs.List.{list_any}
use Rattle.std.specs.Ordering.{eq_by_cmp}
use Rattle.std.specs.FinMap as fmap
use Rattle.std.specs.FinMap.Entries.{find, is_some-find}
use Rattle.std.proofs.lemmas.Bool.{or_left}
use Rattle.std.proofs.lemmas.List.Folds.{list_any-append}
use Rattle.mx_pay.specs.Names.{name_cmp}
use Rattle.mx_pay.specs.Details.{Details, details_cmp, is_details}
use Rattle.mx_pay.specs.Log.{Entries, has_logged, logged, marks}
use Rattle.mx_pay.specs.Orders.{details_exact, keys-marks}
use Rattle.mx_pay.proofs.LogLemmas.{details_total}
use Rattle.mx_pay.proofs.SameLemmas.{details_itself, has-with_entry}
use Rattle.mx_purse.specs.declared.status.Status.{Status}
use Rattle.mx_purse.specs.declared.status.Status.TheVariants.{EaFrom, EaTo, Epr, Epv, Epa}
use Rattle.mx_purse.specs.Operations.{pending, with_pending, aborted, expects_val, expects_ack}
use Rattle.mx_book.specs.Reads.{from_row, is_archived, is_settled}
use Rattle.mx_book.specs.Sums.{sum_values}
use Rattle.mx_book.specs.Totals.{of_all, balance_row, issued_row, redeemed_row, from_logged, to_logged, from_in_epa, to_in_epv, still_lost, maybe_lost, occurring, value_where, transit, lost}
use Rattle.mx_book.specs.Under.{remake}
use Rattle.mx_book.specs.World.{World, Row, Name, result_cmp}
use Rattle.mx_book.proofs.FoundLemmas.{inside}
use Rattle.mx_book.proofs.ResultLemmas.{same_result}
use Rattle.mx_book.proofs.UnderLemmas.{get-remake}
use Rattle.mx_office.specs.Conservation.{IsConserved}
use Rattle.mx_office.specs.Reachable.{IsReachable}
use Rattle.mx_office.proofs.EntrySumLemmas.{number, two_sums, sum-keys, sum-keys-within}
use Rattle.mx_office.proofs.SeenLemmas.{clash, either_true, neither, or_cases}
use Rattle.mx_office.proofs.SoundLemmas.{IsPresent, details_turned, expects_val_is}
use Rattle.mx_office.proofs.SeenWorldLemmas.{Invariant, seen, side, has_status, flowing, flow_parts, waits_open}
use Rattle.mx_office.proofs.DeedLemmas.{not_some}
use Rattle.mx_office.proofs.SaneLemmas.{Sane}
use Rattle.mx_office.proofs.SaneCommandLemmas.{reachable_sane}

-- ---- transit and lost, for one payment

pub split_side : (f : Status → Details → Bool) (o : Option Row) (a : Bool) (d : Details)
    → side f o a d ≡ (from_row false (λ (r : Row). f r.holding.purse.status d) o || (from_row false (λ (r : Row). has_logged r.holding.purse.log d) o || a))
split_side f None a d = refl
split_side f (Some r) a d = refl

waits_as : (f : Status → Details → Bool) (o : Option Row) (d : Details) → has_status f o d ≡ from_row false (λ (r : Row). f r.holding.purse.status d) o
waits_as f None d = refl
waits_as f (Some r) d = refl

-- what is waited for isn't an entry
not_both : (w : World) → Invariant w → (d : Details) (o : Option Row) → fmap.get w.rows d.to ≡ o → from_row false (λ (r : Row). expects_val r.holding.purse.status d) o ≡ true
    → (from_row false (λ (r : Row). has_logged r.holding.purse.log d) o || is_archived w d.to d) ≡ false
not_both w i d None at h = clash false h refl
not_both w i d (Some r) at h = let x : IsPresent r.holding.purse (is_archived w d.to) (Epv d) = subst (IsPresent r.holding.purse (is_archived w d.to)) (expects_val_is r.holding.purse.status d h) (i.sound d.to r at).present in x.fresh

maybe_case : (g c d s : Bool) → (c ≡ true → s ≡ false) → (g && c) ≡ (((g && (c || d)) && not s) && c)
maybe_case false c d s h = refl
maybe_case true true d s h = ap (λ x. not x && true) (sym (h refl))
maybe_case true false d s h = sym (neither (d && not s) false refl)

lost_case : (g c d s : Bool) → (c ≡ true → d ≡ false) → ((d && g) && not s) ≡ (((g && (c || d)) && not s) && not c)
lost_case false c d s h = ap (λ x. x && not s) (neither d false refl)
lost_case true true d s h = ap (λ x. (x && true) && not s) (h refl) ∙ sym (neither (not s) false refl)
lost_case true false true true h = refl
lost_case true false true false h = refl
lost_case true false false s h = refl

pub or_turned : (a b : Bool) → (a || b) ≡ (b || a)
or_turned true b = sym (either_true b true refl)
or_turned false true = refl
or_turned false false = refl

-- what is maybe lost and what is still lost, by what is under way and what is waited for
module _ (w : World) (i : Invariant w) (d : Details) where
  parts : (flowing w d ≡ (((from_in_epa w d || from_logged w d) && (to_in_epv w d || to_logged w d)) && not (is_settled w d))) × ((seen w).epv d ≡ to_in_epv w d)
  parts = (
    (λ k. (split_side expects_ack (fmap.get w.rows d.from) (is_archived w d.from d) d k && split_side expects_val (fmap.get w.rows d.to) (is_archived w d.to d) d k) && not (is_settled w d)),
    waits_as expects_val (fmap.get w.rows d.to) d,
  )

  pub maybe_is : maybe_lost w d ≡ (flowing w d && (seen w).epv d)
  maybe_is = maybe_case (from_in_epa w d || from_logged w d) (to_in_epv w d) (to_logged w d) (is_settled w d) (λ t. waits_open w i d (parts.1 ∙ t)) ∙ (λ k. sym parts.0 k && sym parts.1 k)

  pub lost_is : still_lost w d ≡ (flowing w d && not ((seen w).epv d))
  lost_is =
      ap (λ b. (to_logged w d && b) && not (is_settled w d)) (or_turned (from_logged w d) (from_in_epa w d))
      ∙ lost_case (from_in_epa w d || from_logged w d) (to_in_epv w d) (to_logged w d) (is_settled w d) (not_both w i d (fmap.get w.rows d.to) refl)
      ∙ (λ k. sym parts.0 k && not (sym parts.1 k))

  pub value_split : cond (maybe_lost w d) d.value 0 + cond (still_lost w d) d.value 0 ≡ cond (flowing w d) d.value 0
  value_split = (λ k. cond (maybe_is k) d.value 0 + cond (lost_is k) d.value 0) ∙ both_halves (flowing w d) ((seen w).epv d) d.value
    where
      both_halves : (f x : Bool) (n : ℕ) → cond (f && x) n 0 + cond (f && not x) n 0 ≡ cond f n 0
      both_halves false x n = refl
      both_halves true true n = omega arith
      both_halves true false n = omega arith

-- ---- a payment under way occurs

-- what a purse has logged after an abort, and the details that are archived
abbrev entries_of : Name × Row → List Details
entries_of e = logged (aborted e.1.holding.purse).log

abbrev shelved_list : World → List Details
shelved_list w = map (λ (result : Name × Details). result.1) (fmap.keys w.archive)

abbrev occurring_list : World → List Details
occurring_list w = flat_map entries_of (fmap.entries w.rows) ++ shelved_list w

occurs : (w : World) (d : Details) → is_some (fmap.get (occurring w) d) ≡ list_any (is_details d) (occurring_list w)
unfolding occurring
occurs w d = ap is_some (fmap.get-from_entries details_total (marks (occurring_list w)) d) ∙ is_some-find details_cmp d (marks (occurring_list w)) ∙ ap (list_any (is_details d)) (keys-marks (occurring_list w))

entry_found_case : (x : Name) (r : Row) (test : Details → Bool) (e : Name × Row) (es : List (Name × Row)) (b : Bool) → cond b (Some e.1) (find name_cmp x es) ≡ Some r → list_any test (entries_of (x, r)) ≡ true
    → (find name_cmp x es ≡ Some r → list_any test (flat_map entries_of es) ≡ true) → list_any test (entries_of e ++ flat_map entries_of es) ≡ true
entry_found_case x r test e es true h any rest = list_any-append test (entries_of e) _ ∙ or_left _ _ (ap (λ y. list_any test (entries_of (x, y))) (inside e.1 r h) ∙ any)
entry_found_case x r test e es false h any rest = list_any-append test (entries_of e) _ ∙ either_true (list_any test (entries_of e)) _ (rest h)

found : (x : Name) (r : Row) (test : Details → Bool) → list_any test (entries_of (x, r)) ≡ true → (es : List (Name × Row)) → find name_cmp x es ≡ Some r → list_any test (flat_map entries_of es) ≡ true
found x r test any [] h = not_some r h
found x r test any (e ∷ es) h = entry_found_case x r test e es (eq_by_cmp name_cmp x e.0) h any (found x r test any es)

shelved : (x : Name) (d : Details) (ps : List (Name × Details)) → list_any (eq_by_cmp result_cmp (x, d)) ps ≡ true → list_any (is_details d) (map (λ (result : Name × Details). result.1) ps) ≡ true
shelved x d [] h = clash false h refl
shelved x d (p ∷ ps) h =
    or_cases (eq_by_cmp result_cmp (x, d) p) _ (λ t. or_left _ _ (ap (λ (q : Name × Details). is_details d q.1) (sym (same_result (x, d) p t)) ∙ details_itself d)) (λ t. either_true (is_details d p.1) _ (shelved x d ps t)) h

-- what a purse waits for in epv, or has logged, is in the log that an abort leaves
pending_logged : (log : Entries) (d : Details) (s : Status) → (expects_val s d || has_logged log d) ≡ true → has_logged (with_pending log (pending s)) d ≡ true
pending_logged log d EaFrom h = h
pending_logged log d EaTo h = h
pending_logged log d (Epr e) h = h
pending_logged log d (Epv e) h = has-with_entry log e d ∙ ap (λ b. b || has_logged log d) (details_turned d e) ∙ h
pending_logged log d (Epa e) h = has-with_entry log e d ∙ either_true (is_details d e) _ h

or_parts : (a b c : Bool) → (a || (b || c)) ≡ ((a || b) || c)
or_parts true b c = refl
or_parts false b c = refl

pub due_occurs : (w : World) (d : Details) → (seen w).due d ≡ true → is_some (fmap.get (occurring w) d) ≡ true
due_occurs w d h = occurs w d ∙ list_any-append (is_details d) (flat_map entries_of (fmap.entries w.rows)) _ ∙ place (fmap.get w.rows d.to) refl h
  where
    shelf : is_archived w d.to d ≡ true → (list_any (is_details d) (flat_map entries_of (fmap.entries w.rows)) || list_any (is_details d) (shelved_list w)) ≡ true
    shelf t = either_true (list_any (is_details d) (flat_map entries_of (fmap.entries w.rows))) (list_any (is_details d) (shelved_list w)) (shelved d.to d (fmap.keys w.archive) (sym (fmap.contains_key-keys w.archive (d.to, d)) ∙ t))

    row : (r : Row) → fmap.get w.rows d.to ≡ Some r → (expects_val r.holding.purse.status d || has_logged r.holding.purse.log d) ≡ true → (list_any (is_details d) (flat_map entries_of (fmap.entries w.rows)) || list_any (is_details d) (shelved_list w)) ≡ true
    row r at t = or_left _ (list_any (is_details d) (shelved_list w))
        (found d.to r (is_details d) (sym (fmap.contains_key-keys (aborted r.holding.purse).log d) ∙ pending_logged r.holding.purse.log d r.holding.purse.status t) (fmap.entries w.rows) (sym (fmap.get-entries w.rows d.to) ∙ at))

    place : (o : Option Row) → fmap.get w.rows d.to ≡ o → side expects_val o (is_archived w d.to d) d ≡ true → (list_any (is_details d) (flat_map entries_of (fmap.entries w.rows)) || list_any (is_details d) (shelved_list w)) ≡ true
    place None at h = shelf h
    place (Some r) at h = or_cases _ _ (row r at) shelf (sym (or_parts (expects_val r.holding.purse.status d) (has_logged r.holding.purse.log d) _) ∙ h)

-- ---- the value of the details of a set that meet a test

module _ (f : Details → Bool) (x : Entries) (there : (d : Details) → f d ≡ true → is_some (fmap.get x d) ≡ true) where
  worth_there : (n : ℕ) (b c : Bool) → (b ≡ true → c ≡ true) → cond b n 0 ≡ cond c (cond b n 0) 0
  worth_there n true c h = ap (λ z. cond z n 0) (sym (h refl))
  worth_there n false true h = refl
  worth_there n false false h = refl

  -- where all that meet it are in the set, it is the sum of a map that has their values
  pub where_is : (m : fmap.FinMap details_cmp ℕ) → ((d : Details) → number (fmap.get m d) ≡ cond (f d) d.value 0) → value_where f x ≡ sum_values (λ n. n) m
  where_is m is = sum-keys details_total (λ d. cond (f d) d.value 0) x m details_exact (λ d. is d ∙ worth_there d.value (f d) _ (there d))

  -- such a map
  abbrev pub worths : fmap.FinMap details_cmp ℕ
  worths = remake (λ d _. cond (f d) d.value 0) x

  made_case : (n : ℕ) (b : Bool) (o : Option (Unit {0})) → (b ≡ true → is_some o ≡ true) → number (option_map (λ _. cond b n 0) o) ≡ cond b n 0
  made_case n true None h = clash false (h refl) refl
  made_case n false None h = refl
  made_case n b (Some u) h = refl

  pub worths_are : (d : Details) → number (fmap.get worths d) ≡ cond (f d) d.value 0
  worths_are d = ap number (get-remake details_cmp (λ c _. cond (f c) c.value 0) details_exact x d) ∙ made_case d.value (f d) (fmap.get x d) (there d)

-- what the details of a set come to that meet a test is at most what those of another come to, where they meet a test
-- there and are in it
pub value_within : (f g : Details → Bool) (x y : Entries) → ((d : Details) → f d ≡ true → g d ≡ true) → ((d : Details) → g d ≡ true → is_some (fmap.get y d) ≡ true) → value_where f x ≤ value_where g y
value_within f g x y more there =
    let all : value_where g y ≡ sum_values (λ n. n) (worths g y there) = where_is g y there (worths g y there) (worths_are g y there) in
    let within : value_where f x ≤ sum_values (λ n. n) (worths g y there) =
    sum-keys-within details_total (λ d. cond (f d) d.value 0) x (worths g y there) (λ d _. subst (λ n. cond (f d) d.value 0 ≤ n) (sym (worths_are g y there d)) (less_case d.value (f d) (g d) (more d))) in
    omega (arith, all, within)
  where
    less_case : (n : ℕ) (b c : Bool) → (b ≡ true → c ≡ true) → cond b n 0 ≤ cond c n 0
    less_case n true c h = let e : cond c n 0 ≡ n = ap (λ z. cond z n 0) (h refl) in omega (arith, e)
    less_case n false c h = omega arith

-- ---- the equation

-- transit and lost come to the value of the payments under way
pub out_is : (w : World) → (s : Sane w) → transit w + lost w ≡ sum_values (λ n. n) s.books.out
out_is w s =
    two_sums (λ d. cond (maybe_lost w d) d.value 0) (λ d. cond (still_lost w d) d.value 0) (λ d. cond (flowing w d) d.value 0) (value_split w s.invariant) (logged (occurring w))
    ∙ where_is (flowing w) (occurring w) (λ d t. due_occurs w d (flow_parts w d t).1) s.books.out s.books.covers

pub conserved : (w : World) → Sane w → IsConserved w
conserved w s =
    let parts : transit w + lost w ≡ sum_values (λ n. n) s.books.out = out_is w s in
    let equal : (of_all w balance_row + sum_values (λ n. n) s.books.out) + of_all w redeemed_row ≡ of_all w issued_row = s.books.equal in
    omega (arith, parts, equal)

pub reachable_conserved : (w : World) → IsReachable w → IsConserved w
reachable_conserved w r = conserved w (reachable_sane w r)
