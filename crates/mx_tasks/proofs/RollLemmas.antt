-- Bytes that are read up to one more than a roll may have.
use Rattle.std.proofs.Common.{◌≡◌, ◌∙◌, ◌+◌, ◌≤◌, ◌<◌, ℕ, List, length, take, ap, arith}
use Rattle.std.proofs.lemmas.List.{length-take, take_all}
use Rattle.std.specs.Prelude.{Option, None, Some, IfSome}

-- no more than so many were read of one more, so they are all
pub read_whole : (n : ℕ) (items : List ℕ) (known : Option (List ℕ)) → IfSome known (λ xs. items ≡ take (n + 1) xs) → length items ≤ n → IfSome known (λ xs. items ≡ xs)
read_whole n items None read few = tt
read_whole n items (Some xs) read few =
    let short : length xs ≤ n + 1 = omega (arith, ap length read, length-take (n + 1) xs) in
    read ∙ take_all (n + 1) xs short

-- more were read, so there are more
pub read_more : (P : Type 0) (n : ℕ) (items : List ℕ) (known : Option (List ℕ)) → IfSome known (λ xs. items ≡ take (n + 1) xs) → n < length items → IfSome known (λ xs. P → n < length xs)
read_more P n items None read many = tt
read_more P n items (Some xs) read many = λ _. omega (arith, ap length read, length-take (n + 1) xs)
