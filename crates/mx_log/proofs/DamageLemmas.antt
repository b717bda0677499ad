use Rattle.std.proofs.Common.{◌≡◌, ◌⊎◌, ◌↔◌, ℕ, ◌+◌, ◌*◌, ◌<◌, ◌≤◌, Bool, false, IsTrue, List, length, subst, sym, ◌∙◌, inl, inr, arith}
use Rattle.std.proofs.lemmas.Bool.{cases_order, false≢true}
use Rattle.sqlite_wal.specs.Recovery.{frames_len}
use Rattle.mx_log.specs.Damage.{Commits, HasLaterCommit, IsIn, IsWhole, Stands, StopsAt}

-- the number of a frame of the log is no more than its length
pub number_fits : (size i : ℕ) (log : List ℕ) → IsIn size log i → i ≤ length log
unfolding frames_len
number_fits size i log within =
    let wide : i * 1 ≤ i * (24 + size) = grind arith in
    omega (arith, wide, within)

-- no commit is whole behind the last frame
pub none_past : (size count from : ℕ) (log : List ℕ) → ((i : ℕ) → (IsIn size log i ↔ i < count)) → count ≤ from → IsWhole size log from → ⊥
none_past size count from log are past whole =
    let stands = whole.each from (omega arith) whole.ahead in
    let below : from < count = (are from).0 stands.within in
    omega (arith, below)

-- a recovery stops at one frame
pub stops_once : (size a b : ℕ) (log : List ℕ) → StopsAt size log a → StopsAt size log b → a ≡ b
stops_once size a b log first second = elim (cases_order a b) [
  | inl same ↦ same
  | inr (inl below) ↦ absurd (first.stops (second.sound a below))
  | inr (inr above) ↦ absurd (second.stops (first.sound b above))
]

stands_at : (size i j : ℕ) (log : List ℕ) → i ≡ j → Stands size log i → Stands size log j
stands_at size i j log same stands = subst (Stands size log) same stands

-- frames are whole from one that stands, and commits or is before such frames
pub whole_here : (size i : ℕ) (log : List ℕ) → Stands size log i → IsWhole size log (i + 1) ⊎ Commits size log i → IsWhole size log i
whole_here size i log stands goes = elim goes [
  | inl rest ↦ record {
    last = rest.last;
    ahead = omega (arith, rest.ahead);
    each = λ j from to. elim (cases_order i j) [
      | inl same ↦ stands_at size i j log same stands
      | inr (inl below) ↦ rest.each j (omega arith) to
      | inr (inr above) ↦ absurd (omega arith)
    ];
    ends = rest.ends;
  }
  | inr commits ↦ record {
    last = i;
    ahead = omega arith;
    each = λ j from to. stands_at size i j log (omega arith) stands;
    ends = commits;
  }
]

pub whole_then : (size i : ℕ) (log : List ℕ) → IsWhole size log i → Stands size log i × (IsWhole size log (i + 1) ⊎ Commits size log i)
whole_then size i log whole = (
  whole.each i (omega arith) whole.ahead,
  elim (cases_order i whole.last) [
    | inl same ↦ inr (subst (Commits size log) (sym same) whole.ends)
    | inr (inl below) ↦ inl (record {
      last = whole.last;
      ahead = omega arith;
      each = λ j from to. whole.each j (omega arith) to;
      ends = whole.ends;
    })
    | inr (inr above) ↦ absurd (let under = whole.ahead in omega arith)
  ],
)

pub whole_at : (r : Bool) (size a b : ℕ) (log : List ℕ) → a ≡ b → (IsTrue r ↔ IsWhole size log a) → (IsTrue r ↔ IsWhole size log b)
whole_at r size a b log same is =
    let P : ℕ → Type 0 = λ i. IsTrue r ↔ IsWhole size log i in
    subst P same is

pub later_at : (r : Bool) (a b : ℕ) (log : List ℕ) → a ≡ b → (IsTrue r ↔ HasLaterCommit a log) → (IsTrue r ↔ HasLaterCommit b log)
later_at r a b log same is =
    let P : ℕ → Type 0 = λ size. IsTrue r ↔ HasLaterCommit size log in
    subst P same is

-- a test that failed
pub denied : {P : Type 0} (r : Bool) → r ≡ false → (IsTrue r ↔ P) → P → ⊥
denied r failed is there = false≢true (sym failed ∙ is.1 there)
