use Rattle.std.proofs.Common.{◌≡◌, ℕ, ◌<◌, ◌↔◌, Bool, IsTrue, List, length, slice_index, ext_get_or, subst, sym, ◌∙◌, ap, arith, zero-add}
use Rattle.sqlite_disk.specs.Disk.{Holds}
use Rattle.mx_log.specs.Damage.{IsDamaged}

-- a file that holds as many bytes as it has is those bytes
pub held_whole : (file bytes : List ℕ) → length bytes ≡ length file → (0 < length bytes → Holds file 0 bytes) → bytes ≡ file
held_whole file bytes len held =
    ext_get_or 0 bytes file len λ i low.
    let holds = held (omega arith) in
    sym (holds.each i low) ∙ ap (slice_index file) (zero-add i)

pub damaged_at : (r : Bool) (a b : List ℕ) → a ≡ b → (IsTrue r ↔ IsDamaged a) → (IsTrue r ↔ IsDamaged b)
damaged_at r a b same is =
    let P : List ℕ → Type 0 = λ log. IsTrue r ↔ IsDamaged log in
    subst P same is
