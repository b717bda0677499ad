-- Lines with numbers from 1 to their count are numbered without gaps, and the other way round.
use Rattle.std.proofs.Common.{◌≡◌, ℕ, ◌+◌, ◌≤◌, ◌<◌, List, [], ◌∷◌, length, map, refl, subst, Some, T, arith}
use Rattle.std.specs.Ordering.{nat_cmp}
use Rattle.std.specs.FinMap as fmap
use Rattle.std.specs.FinMap.Entries.{find, is_sorted, below_all}
use Rattle.std.proofs.lemmas.Bool.Decides.{nat_tests}
use Rattle.mx_pay.proofs.TestLemmas.{first_true, second_true}
use Rattle.mx_book.specs.declared.values.LineRow.{LineRow}
use Rattle.mx_book.specs.Rows.{line_at, lines_from}
use Rattle.mx_book.specs.Conditions.{AreNumbered}
use Rattle.mx_book.proofs.MapLemmas.{AllEntries}

-- each number is at least n, and each is below u
abbrev pub From : ℕ → List (ℕ × LineRow) → Type 0
From n = AllEntries (λ (k : ℕ) (l : LineRow). n ≤ k)

abbrev pub Below : ℕ → List (ℕ × LineRow) → Type 0
Below u = AllEntries (λ (k : ℕ) (l : LineRow). k < u)

-- what comes after a number in order is above it
above : (k : ℕ) (es : List (ℕ × LineRow)) → T (below_all nat_cmp k es) → From (k + 1) es
above k [] h = tt
above k (e ∷ es) h = grind (arith, nat_tests, above k es)

-- what comes after a line is in order, and above it
later : (e : ℕ × LineRow) (es : List (ℕ × LineRow)) → T (is_sorted nat_cmp (e ∷ es)) → T (is_sorted nat_cmp es) × From (e.0 + 1) es
later e es s = (second_true _ _ s, above e.0 es (first_true _ _ s))

-- between n and u there is room for as many numbers as rise there
room : (n u : ℕ) (es : List (ℕ × LineRow)) → T (is_sorted nat_cmp es) → From n es → Below u es → n ≤ u → n + length es ≤ u
room n u [] s f b le = omega arith
room n u (e ∷ es) s f b le =
    let rest = later e es s in
    omega (arith, f.0, room (e.0 + 1) u es rest.0 rest.1 b.1 (omega (arith, b.0)))

numbered : (n u : ℕ) (es : List (ℕ × LineRow)) → T (is_sorted nat_cmp es) → From n es → Below u es → u ≡ n + length es
    → AreNumbered n (map line_at es)
numbered n u [] s f b is = tt
numbered n u (e ∷ es) s f b is =
    let rest = later e es s in
    let at : e.0 ≡ n = omega (arith, f.0, room (e.0 + 1) u es rest.0 rest.1 b.1 (omega (arith, b.0))) in
    (at, numbered (n + 1) u es rest.0 (subst (λ k. From (k + 1) es) at rest.1) b.1 (omega (arith, is)))

pub are_numbered : (m : fmap.FinMap nat_cmp LineRow) → From 1 (fmap.entries m) → Below (1 + length (fmap.entries m)) (fmap.entries m)
    → AreNumbered 1 (lines_from m)
are_numbered m f b = numbered 1 (1 + length (fmap.entries m)) (fmap.entries m) (fmap.entries_sorted m) f b refl

-- the number of a line that is found is one of those
pub within : (n : ℕ) (es : List (ℕ × LineRow)) → AreNumbered n (map line_at es) → (k : ℕ) (l : LineRow) → find nat_cmp k es ≡ Some l
    → (n ≤ k) × (k < n + length es)
within n [] h k l at = absurd (cc)
within n (e ∷ es) h k l at = grind (arith, fmap.nat_cmp-IsAntisymmetric k e.0, within (n + 1) es h.1 k l)
