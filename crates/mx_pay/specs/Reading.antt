-- What each step of reading a code text gives. `read_code` itself is told by `Codes` alone.
use Rattle.std.specs.Prelude.{ℕ, suc, zero, ◌^◌, nat_le, nat_lt, ◌==◌, ◌&&◌, ◌||◌, not, Bool, List, [], ◌∷◌, if◌then◌else◌, Option, Some, None, decimal}
use Rattle.std.specs.Option.{option_and_then}
use Rattle.std.specs.Str.Parse.{digits_value}
use Rattle.mx_pay.specs.Limits.{most_amount, most_number, most_entries}
use Rattle.mx_pay.specs.Names.{is_name_text, is_name}
use Rattle.mx_pay.specs.Details.{Details}
use Rattle.mx_pay.specs.Log.{Entries, log_len, with_entry, has_logged, is_below}
use Rattle.std.specs.Cmp.Lexicographic.{pointwise}
use Rattle.std.proofs.Math.Dec.{eqb}

-- a byte put before the first of two texts
abbrev pub onto : ℕ → Option (List ℕ × List ℕ) → Option (List ℕ × List ℕ)
onto b None = None
onto b (Some p) = Some (b ∷ p.0, p.1)

-- what stands before the first byte c of a text, and behind it
abbrev pub cut : ℕ → List ℕ → Option (List ℕ × List ℕ)
cut c [] = None
cut c (b ∷ bs) = if b == c then Some ([], bs) else onto b (cut c bs)

-- whether two texts have the same bytes
abbrev pub same_bytes : List ℕ → List ℕ → Bool
same_bytes = pointwise eqb

-- the number, of 64 bits, whose decimal text this is
unfoldable pub number_of : List ℕ → Option ℕ
number_of t =
    if nat_lt (digits_value 10 t) (2 ^ 64) && same_bytes t (decimal (digits_value 10 t)) then Some (digits_value 10 t) else None

-- a number, if it is at most so much
abbrev pub up_to : ℕ → ℕ → Option ℕ
up_to most n = if nat_le n most then Some n else None

-- the number, at most so much, whose decimal text this is
abbrev pub limited : ℕ → List ℕ → Option ℕ
limited most t = option_and_then (up_to most) (number_of t)

-- the name that is spelled so
abbrev pub name_of : List ℕ → Option (List ℕ)
name_of t = if is_name_text t then Some t else None

-- details, if their names differ
abbrev pub apart : Details → Option Details
apart d = if is_name d.from d.to then None else Some d

-- the details of these five texts
unfoldable pub made_of : List ℕ → List ℕ → List ℕ → List ℕ → List ℕ → Option Details
made_of a b c d e =
    option_and_then (λ from. option_and_then (λ to. option_and_then (λ value. option_and_then (λ from_seq. option_and_then (λ to_seq.
    apart (record { from = from; to = to; value = value; from_seq = from_seq; to_seq = to_seq }))
    (limited most_number e)) (limited most_number d)) (limited most_amount c)) (name_of b)) (name_of a)

-- the details whose entry this text is
unfoldable pub entry_of : List ℕ → Option Details
entry_of t =
    option_and_then (λ a. option_and_then (λ b. option_and_then (λ c. option_and_then (λ d.
    made_of a.0 b.0 c.0 d.0 d.1) (cut 44 c.1)) (cut 44 b.1)) (cut 44 a.1)) (cut 44 t)

-- a log with details at its end, where they come behind all of it and there is room
abbrev pub put_last : Entries → Details → Option Entries
put_last log d =
    if is_below d log then
    (if not (nat_le most_entries (log_len log) || has_logged log d) then Some (with_entry log d) else None) else None

-- a log with the entry of a text at its end
unfoldable pub with_text : Entries → List ℕ → Option Entries
with_text log t = option_and_then (put_last log) (entry_of t)

-- the last entry, or the first of several and then the rest of them
abbrev pub after_cut : (List ℕ → Entries → Option Entries) → List ℕ → Entries → Option (List ℕ × List ℕ) → Option Entries
after_cut rest t log None = with_text log t
after_cut rest t log (Some p) = option_and_then (rest p.1) (with_text log p.0)

-- a log with the entries of a text at its end, of which there are at most so many
abbrev pub entries_of : ℕ → List ℕ → Entries → Option Entries
entries_of zero t log = None
entries_of (suc n) t log = after_cut (entries_of n) t log (cut 59 t)

-- what stands before the entry at a place: a semicolon, but for the first
abbrev pub lead : ℕ → List ℕ
lead zero = []
lead (suc n) = 59 ∷ []
