-- What follows of doubt, and attempts after attempts.
use Rattle.std.proofs.Common.{◌≡◌, ◌≤◌, ℕ, List, [], ◌∷◌, ◌++◌, refl, arith}
use Rattle.mx_book.specs.World.{World}
use Rattle.mx_book.specs.Stands.{Attempt, attempt_one, attempt_all}

-- ---- doubt

-- before what isn't doubted nothing was
pub sure_before : {a b : ℕ} → a ≤ b → b ≡ 0 → a ≡ 0
sure_before later sure = omega (arith, later, sure)

-- before a store that told no lie there was none
pub low_before : {a b : ℕ} → a ≤ b → b ≤ 1 → a ≤ 1
low_before later low = omega (arith, later, low)

-- without doubt no lie was told
pub low_sure : {a : ℕ} → a ≡ 0 → a ≤ 1
low_sure sure = omega (arith, sure)

pub later_then : {a b c : ℕ} → a ≤ b → b ≤ c → a ≤ c
later_then one two = omega (arith, one, two)

-- ---- attempts

pub attempt_all-append : (w : World) (ts us : List Attempt) → attempt_all w (ts ++ us) ≡ attempt_all (attempt_all w ts) us
attempt_all-append w [] us = refl
attempt_all-append w (t ∷ ts) us = attempt_all-append (attempt_one w t) ts us
