-- What has the same word is the same.
use Rattle.std.proofs.Common.{◌≡◌, ℕ, List, ◌∷◌, refl, ap, arith}
use Rattle.mx_book.specs.declared.values.LineKind.{LineKind}
use Rattle.mx_book.specs.declared.values.LineKind.TheVariants.{Loaded, Redeemed, Sent, Received, Logged, Settled}
use Rattle.mx_book.specs.Words.{kind_text}

-- the words differ in their third bytes
abbrev third : List ℕ → ℕ
third (a ∷ b ∷ c ∷ t) = c
third t = 0

pub same_kind : (k l : LineKind) → kind_text k ≡ kind_text l → k ≡ l
same_kind Loaded Loaded w = refl
same_kind Redeemed Redeemed w = refl
same_kind Sent Sent w = refl
same_kind Received Received w = refl
same_kind Logged Logged w = refl
same_kind Settled Settled w = refl
same_kind k l w = absurd (let n = ap third w in omega (arith, n))
