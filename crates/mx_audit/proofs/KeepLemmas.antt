-- What is kept of a log, entry by entry.
use Rattle.std.proofs.Common.{◌≡◌, ℕ, ◌+◌, ◌≤◌, ◌<◌, List, [], ◌∷◌, ◌++◌, Some, None, length, take, map, sym, ◌∙◌, ap, arith, slice_get, get_or, zero, suc}
use Rattle.std.proofs.lemmas.List.{take_more, take_all, map-append, append_assoc}
use Rattle.std.proofs.lemmas.Option.{slice_get_within, unwrap_or-slice_get}
use Rattle.std.specs.Prelude.{unwrap_or}

one_more : {X Y : Type 0} (f : X → Y) (xs : List X) (n : ℕ) (x : X) → slice_get xs n ≡ Some x → map f (take (n + 1) xs) ≡ map f (take n xs) ++ f x ∷ []
one_more f xs n x h =
    ap (map f) (take_more xs n x (slice_get_within xs n x h))
    ∙ map-append f (take n xs) (get_or xs n x ∷ [])
    ∙ ap (λ y. map f (take n xs) ++ f y ∷ []) (sym (unwrap_or-slice_get xs n x) ∙ ap (λ o. unwrap_or o x) h)

-- none is missing before the end
pub none_missing : {X : Type 0} (xs : List X) (n : ℕ) → slice_get xs n ≡ None → n < length xs → ⊥
none_missing [] n is within = omega (arith, within)
none_missing (x ∷ xs) zero is within = cc
none_missing (x ∷ xs) (suc n) is within = none_missing xs n is (omega (arith, within))

-- all of them
pub all_taken : {X Y : Type 0} (f : X → Y) (log : List X) (n : ℕ) → length log ≤ n → map f (take n log) ≡ map f log
all_taken f log n past = ap (map f) (take_all n log past)

-- one entry more is kept
pub kept_one : {X Y : Type 0} (f : X → Y) (xs : List X) (n : ℕ) (x : X) (start old new : List Y) → slice_get xs n ≡ Some x → old ≡ start ++ map f (take n xs) → new ≡ old ++ f x ∷ [] → new ≡ start ++ map f (take (n + 1) xs)
kept_one f xs n x start old new at before after =
    after ∙ ap (λ l. l ++ f x ∷ []) before ∙ append_assoc start (map f (take n xs)) (f x ∷ []) ∙ ap (λ l. start ++ l) (sym (one_more f xs n x at))
