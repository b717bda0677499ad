-- What was looked up, one result after another.
use Rattle.std.proofs.Common.{◌≡◌, ◌↔◌, ◌<◌, ◌≤◌, ℕ, ◌+◌, Bool, true, false, ◌&&◌, List, length, take, get_or, ap, sym, subst, ◌∙◌, arith}
use Rattle.std.proofs.lemmas.List.{take_all}
use Rattle.std.proofs.lemmas.List.Folds.{list_all_more}
use Rattle.std.specs.List.{list_all}

-- nothing was found exactly where each of these is as it has to be
abbrev pub IsFound : {X : Type 0} → (X → Bool) → List X → ℕ → Type 0
IsFound p xs n = n ≡ 0 ↔ list_all p xs ≡ true

module _ {X : Type 0} (p : X → Bool) (xs : List X) where
  -- one more of them is so, or isn't
  with_one : (i : ℕ) (x : X) (b : Bool) → i < length xs → x ≡ get_or xs i x → p x ≡ b → list_all p (take (i + 1) xs) ≡ (list_all p (take i xs) && b)
  with_one i x b within here is = list_all_more p xs i x within ∙ ap (λ c. list_all p (take i xs) && c) (ap p (sym here) ∙ is)

  pub one_well : (i : ℕ) (x : X) (n : ℕ) → i < length xs → x ≡ get_or xs i x → p x ≡ true → IsFound p (take i xs) n → IsFound p (take (i + 1) xs) n
  one_well i x n within here is so = let same = with_one i x true within here is in (λ none. grind (arith, same, so.0 none), λ all. so.1 (grind (arith, same, all)))

  pub one_wrong : (i : ℕ) (x : X) (n : ℕ) → i < length xs → x ≡ get_or xs i x → p x ≡ false → 0 < n → IsFound p (take (i + 1) xs) n
  one_wrong i x n within here is some = let same = with_one i x false within here is in (λ none. absurd (omega arith), λ all. absurd (grind (arith, same, all)))

  -- all of them
  pub all_found : (i : ℕ) (n : ℕ) → length xs ≤ i → IsFound p (take i xs) n → IsFound p xs n
  all_found i n past so = subst (λ ys. IsFound p ys n) (take_all i xs past) so
