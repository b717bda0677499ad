-- Clients, and what is told of their connections.
use Rattle.std.specs.Prelude.{◌≡◌, ◌⊎◌, ℕ, ◌+◌, List, [], ◌∷◌, ◌++◌, Option, Some, None, ⊤, All, Contains, length}
use Rattle.mx_desk.specs.Clients.{Exchange}

-- what is known is this
abbrev pub IsKnown : {T : Type 0} → Option T → T → Type 0
IsKnown None x = ⊤
IsKnown (Some y) x = y ≡ x

-- how many clients will come, and of each whose connection has ended what came and what was written, where that is known
pub record Clients : Type 0 where
  pub coming : Option ℕ
  pub ended : Option (List Exchange)

abbrev pub unknown : Clients
unknown = record { coming = None; ended = None }

-- so many have come
abbrev pub AreFewer : ℕ → Option ℕ → Option ℕ → Type 0
AreFewer n None new = new ≡ None
AreFewer n (Some m) None = ⊥
AreFewer n (Some m) (Some k) = m ≡ k + n

-- one has, of whom nothing was read and to whom nothing was written
abbrev pub Comes : Clients → Option (List ℕ) → Option (List ℕ) → Clients → Type 0
Comes old received written new = AreFewer 1 old.coming new.coming × (new.ended ≡ old.ended) × IsKnown received [] × IsKnown written []

-- one more has ended, of whom this came and to whom so much was written; or there was no memory to keep that
abbrev pub TellsOne : Option (List Exchange) → Option (List ℕ) → Option (List ℕ) → Option (List Exchange) → Type 0
TellsOne None received written new = new ≡ None
TellsOne (Some all) received written None = ⊤
TellsOne (Some all) (Some bytes) (Some text) (Some more) = more ≡ all ++ record { came = bytes; answer = text } ∷ []
TellsOne (Some all) _ _ (Some more) = ⊥

abbrev pub Tells : Clients → Option (List ℕ) → Option (List ℕ) → Clients → Type 0
Tells old received written new = (new.coming ≡ old.coming) × TellsOne old.ended received written new.ended

-- these bytes begin with those
abbrev pub IsPrefix : List ℕ → List ℕ → Type 0
IsPrefix xs ys = (rest : List ℕ) × (ys ≡ xs ++ rest)

-- nothing was written to a client; or the first bytes of one of these answers, which is that to the first bytes that came of it
abbrev pub IsToldOf : List Exchange → Exchange → Type 0
IsToldOf xs e = (e.answer ≡ []) ⊎ ((x : Exchange) × Contains xs x × IsPrefix x.came e.came × IsPrefix e.answer x.answer)

-- so many have ended, each of them told so
abbrev pub EndSo : List Exchange → ℕ → Option (List Exchange) → Option (List Exchange) → Type 0
EndSo xs n None new = new ≡ None
EndSo xs n (Some all) None = ⊤
EndSo xs n (Some all) (Some more) = (es : List Exchange) × (more ≡ all ++ es) × (length es ≡ n) × All (IsToldOf xs) es
