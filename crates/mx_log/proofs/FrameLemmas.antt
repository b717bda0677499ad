use Rattle.std.proofs.Common.{◌≡◌, ◌≢◌, ◌↔◌, ℕ, zero, suc, ◌+◌, ◌-◌, ◌*◌, ◌/◌, ◌<◌, ◌≤◌, ◌==◌, Bool, IsTrue, List, length, take, drop, slice_index, length-take, subst, sym, refl, ◌∙◌, ap, arith}
use Rattle.std.proofs.Math.Nat.{le-div_iff_mul-le}
use Rattle.sqlite_wal.specs.Format.{part, be32, stored_sum, is_big, frame_sum, IsFrame}
use Rattle.sqlite_wal.specs.Recovery.{frames_len, frame_at, header, frame, sum_before}
use Rattle.sqlite_wal.proofs.FormatLemmas.{be32-part}
use Rattle.sqlite_wal.proofs.PartLemmas.{frames_len-le, frames_len-suc, slice_index-part}
use Rattle.mx_log.specs.Damage.{IsIn, due_before}

-- the frames that are in the log are those below a number
pub in_below : (size i len rest : ℕ) → rest ≡ len - 32 → (frame_at size i + (24 + size) ≤ len) ↔ (i < rest / (24 + size))
unfolding frames_len
in_below size i len rest is =
    let some : 0 < 24 + size = omega arith in
    let by_end = le-div_iff_mul-le {k = 24 + size} {x = suc i} {y = rest} some in
    let next = frames_len-suc size i in (
      λ within. let fits : suc i * (24 + size) ≤ rest = omega (arith, next) in omega (arith, by_end.1 fits),
      λ below. let up : suc i ≤ rest / (24 + size) = omega arith in omega (arith, by_end.0 up, next),
    )

-- the bytes between the ends of a frame
pub frame_range : (size i start : ℕ) (log : List ℕ) → start ≡ 32 + i * (24 + size) → take (start + 24 + size - start) (drop start log) ≡ frame size log i
unfolding part frames_len
frame_range size i start log is =
    let whole : start + 24 + size - start ≡ 24 + size = omega arith in
    ap (λ n. take n (drop start log)) whole ∙ ap (λ at. take (24 + size) (drop at log)) is

-- a frame before one that is in the log is in it
pub in_before : (size i j : ℕ) (log : List ℕ) → IsIn size log i → j ≤ i → IsIn size log j
in_before size i j log within below = omega (arith, frames_len-le size j i below)

pub frame_same : (h k : List ℕ) (a b : ℕ × ℕ) (f g : List ℕ) → h ≡ k → a ≡ b → f ≡ g → IsFrame h a f → IsFrame k b g
frame_same h k a b f g heads sums frames is =
    let P : List ℕ → Type 0 = λ head. IsFrame head a f in
    let Q : ℕ × ℕ → Type 0 = λ sum. IsFrame k sum f in
    let R : List ℕ → Type 0 = λ bytes. IsFrame k b bytes in
    subst R frames (subst Q sums (subst P heads is))

-- a test of a frame's bytes is one of the frame
pub frame_test : (r : Bool) (h k : List ℕ) (a b : ℕ × ℕ) (f g : List ℕ) → h ≡ k → a ≡ b → f ≡ g → (IsTrue r ↔ IsFrame h a f) → (IsTrue r ↔ IsFrame k b g)
frame_test r h k a b f g heads sums frames is = (
  λ yes'. frame_same h k a b f g heads sums frames (is.0 yes'),
  λ there. is.1 (frame_same k h b a g f (sym heads) (sym sums) (sym frames) there),
)

-- the header is the front of the log
pub header_front : (log : List ℕ) → take 32 log ≡ header log
unfolding part
header_front log = refl

pub header_sum : (log : List ℕ) → stored_sum log 24 ≡ stored_sum (header log) 24
header_sum log =
    let first = be32-part log 0 32 24 (omega arith) in
    let second = be32-part log 0 32 28 (omega arith) in
    let both : ℕ → ℕ → ℕ × ℕ = λ x y. (x, y) in
    sym (ap (λ x. both x (be32 (header log) 28)) first ∙ ap (both (be32 log 24)) second)

pub header_big : (log : List ℕ) → (slice_index log 3 == 0x83) ≡ is_big (header log)
header_big log =
    let third = slice_index-part log 0 32 3 (omega arith) in
    sym (ap (λ (x : ℕ). x == 0x83) third)

-- a log with a frame has a header
pub header_length : (size i : ℕ) (log : List ℕ) → IsIn size log i → 32 ≡ length (take 32 log)
header_length size i log within = omega (arith, length-take 32 log)

pub header_fits : (size i : ℕ) (log : List ℕ) → IsIn size log i → 32 ≤ length (take 32 log)
header_fits size i log within = omega (arith, length-take 32 log)

pub sum_first : (size : ℕ) (log : List ℕ) (i : ℕ) → i ≡ 0 → stored_sum log 24 ≡ sum_before size log i
sum_first size log zero none = header_sum log
sum_first size log (suc i) none = absurd (let no : suc i ≡ 0 → ⊥ = λ e. omega (arith, e) in no none)

pub sum_next : (size : ℕ) (log : List ℕ) (i : ℕ) → i ≢ 0 → stored_sum (frame size log (i - 1)) 16 ≡ sum_before size log i
sum_next size log zero some = absurd (some refl)
sum_next size log (suc i) some =
    let back : suc i - 1 ≡ i = omega arith in
    ap (λ j. stored_sum (frame size log j) 16) back

pub due_first : (size : ℕ) (log : List ℕ) (i : ℕ) → i ≡ 0 → stored_sum log 24 ≡ due_before size log i
due_first size log zero none = header_sum log
due_first size log (suc i) none = absurd (let no : suc i ≡ 0 → ⊥ = λ e. omega (arith, e) in no none)

pub due_next : (size : ℕ) (log : List ℕ) (i : ℕ) → i ≢ 0 → frame_sum (slice_index log 3 == 0x83) (sum_before size log (i - 1)) (frame size log (i - 1)) ≡ due_before size log i
due_next size log zero some = absurd (some refl)
due_next size log (suc i) some =
    let back : suc i - 1 ≡ i = omega arith in
    ap (λ big. frame_sum big (sum_before size log (suc i - 1)) (frame size log (suc i - 1))) (header_big log)
    ∙ ap (λ j. frame_sum (is_big (header log)) (sum_before size log j) (frame size log j)) back
