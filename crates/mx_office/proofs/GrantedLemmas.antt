-- The sum of all grants, member by member.
use Rattle.std.proofs.Common.{◌≡◌, ℕ, ◌+◌, ◌-◌, ◌^◌, ◌<◌, ◌≤◌, List, [], ◌∷◌, refl, sym, ◌∙◌, ap, arith, length, take, get_or, map, option_map}
use Rattle.mx_pay.specs.Limits.{most_number}
use Rattle.std.specs.Prelude.{sum_by, min, unwrap_or}
use Rattle.std.specs.FinMap as fmap
use Rattle.std.proofs.lemmas.List.{take_more, take_all}
use Rattle.std.proofs.lemmas.List.Sums.{sum_by-cons, sum_by-append, sum_by-take-le}
use Rattle.mx_book.specs.declared.values.MemberRow.{MemberRow}
use Rattle.mx_book.specs.Sums.{sum_entries}
use Rattle.mx_book.specs.World.{World, Name}
use Rattle.mx_book.specs.Conditions.{IsWorld, all_granted}
use Rattle.mx_book.specs.Reads.{members_of}
use Rattle.mx_office.specs.Decides.{granted_to}
use Rattle.mx_office.proofs.EntrySumLemmas.{values_are, sum_entries-same}

sum_keys : {X : Type 0} (f : Name → ℕ) (es : List (Name × X)) → sum_by f (map (λ (e : Name × X). e.0) es) ≡ sum_by (λ (e : Name × X). f e.0) es
sum_keys f [] = refl
sum_keys {X} f (e ∷ es) = let rest = sum_keys f es in omega (arith, rest, sum_by-cons f e.0 (map (λ (x : Name × X). x.0) es), sum_by-cons (λ (x : Name × X). f x.0) e es)

-- what the members were granted comes to all grants
pub granted_sum : (w : World) → sum_by (granted_to w) (members_of w) ≡ all_granted w
unfolding sum_entries
granted_sum w =
    sum_keys (granted_to w) (fmap.entries w.members)
    ∙ sum_entries-same (λ m row. granted_to w m) (λ m row. row.granted) w.members (λ m row at. ap (λ o. unwrap_or (option_map (λ (x : MemberRow). x.granted) o) 0) at)
    ∙ sym (values_are (λ (row : MemberRow). row.granted) w.members)

capped_sum : (n a : ℕ) → n ≡ min a (2 ^ 128 - 1) → a ≤ most_number → n ≡ a
capped_sum n a is le = grind (arith, is, le)

-- one member more: the sum stays within the numbers of 128 bits, since all grants are at most 10^15
pub granted_more : (w : World) (i : ℕ) (m : Name) (members : List Name) (old n new : ℕ) → IsWorld w → members ≡ members_of w → i < length members → m ≡ get_or members i m
    → old ≡ sum_by (granted_to w) (take i members) → n ≡ granted_to w m → new ≡ min (old + n) (2 ^ 128 - 1) → new ≡ sum_by (granted_to w) (take (i + 1) members)
granted_more w i m members old n new is all lt here old_is n_is new_is =
    let f : Name → ℕ = granted_to w in
    let last : sum_by f (m ∷ []) ≡ f m = let cons = sum_by-cons f m [] in omega (arith, cons) in
    let next : sum_by f (take (i + 1) members) ≡ sum_by f (take i members) + sum_by f (m ∷ []) =
    ap (sum_by f) (take_more members i m lt) ∙ sum_by-append f (take i members) (get_or members i m ∷ []) ∙ ap (λ x. sum_by f (take i members) + sum_by f (x ∷ [])) (sym here) in
    let most : sum_by f members ≡ all_granted w = ap (sum_by f) all ∙ granted_sum w in
    let part = sum_by-take-le f members (i + 1) in
    let bound = is.members.granted in
    let sum : new ≡ old + n = capped_sum new (old + n) new_is (omega (arith, old_is, n_is, last, next, most, part, bound)) in
    omega (arith, sum, old_is, n_is, last, next)

pub granted_all : (w : World) (i : ℕ) (members : List Name) (sum : ℕ) → members ≡ members_of w → length members ≤ i → sum ≡ sum_by (granted_to w) (take i members) → sum ≡ all_granted w
granted_all w i members sum all ge is = is ∙ ap (sum_by (granted_to w)) (take_all i members ge) ∙ ap (sum_by (granted_to w)) all ∙ granted_sum w
