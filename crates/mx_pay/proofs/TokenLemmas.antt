-- Hexadecimal digits that were read are written again in lower case.
use Rattle.std.proofs.Common.{◌≡◌, ℕ, zero, suc, ◌+◌, ◌*◌, ◌/◌, ◌%◌, ◌<◌, ◌==◌, Bool, true, ◌&&◌, List, [], ◌∷◌, length, Option, Some, None, Result, Ok, Err, slice_index, unwrap_or, refl, sym, ◌∙◌, ap, subst, arith, inl, inr}
use Rattle.std.specs.Prelude.{IsAscii, IsErr, IsOk, IsSome, IfSome, MatchResult, ◌↔◌}
use Rattle.std.specs.Char.{to_ascii_lowercase}
use Rattle.std.specs.Result.{result_ok, result_unwrap_or}
use Rattle.std.proofs.lemmas.Bool.{and_parts, cases_lt, eqb-true}
use Rattle.hex.specs.Hex.{decode_pairs, decode_sized, digit_or_error, encode_lower, encode_with, hex_digit_value, lower_digits, pair_value, value_at, ◌>>=◌}
use Rattle.hex.specs.declared.error.FromHexError.{FromHexError}
use Rattle.hex.proofs.HexLemmas.{IsAscii-encode_with, IsOk-decode_sized, decode_of-even, decode_of-ok, decode_sized-ok, decode_sized-twice}
use Rattle.mx_pay.specs.Limits.{token_bytes}
use Rattle.mx_pay.proofs.Texts.{IsAscii-name_bytes}
use Rattle.mx_pay.specs.Tokens.{IsToken, token_of, IsTokenText, lower_case}

-- the test of one digit: the table's digit of its value is the digit in lower case
abbrev comes_back : ℕ → Option ℕ → Bool
comes_back c (Some v) = slice_index lower_digits v == to_ascii_lowercase c
comes_back c None = true

-- the test of every byte below n
abbrev all_come_back : ℕ → Bool
all_come_back zero = true
all_come_back (suc n) = comes_back n (hex_digit_value n) && all_come_back n

-- a byte below n passed the test
all_come_back-at : (n c : ℕ) → all_come_back n ≡ true → c < n → comes_back c (hex_digit_value c) ≡ true
all_come_back-at zero c h lt = absurd (omega arith)
all_come_back-at (suc n) c h lt =
    let parts = and_parts (comes_back n (hex_digit_value n)) (all_come_back n) h in
    elim (cases_lt c n) [
      | inl below ↦ all_come_back-at n c parts.1 below
      | inr top ↦
          let e : c ≡ n = omega arith in
          rw e parts.0
    ]

-- no digit is above `f`
hex_digit_value-below : (c v : ℕ) → hex_digit_value c ≡ Some v → c < 103
hex_digit_value-below c v h = grind (arith)

-- a digit's value is below 16
hex_digit_value-small : (c v : ℕ) → hex_digit_value c ≡ Some v → v < 16
hex_digit_value-small c v h = grind (arith)

-- a digit's value is written as the digit in lower case
digit_comes_back : (c v : ℕ) → hex_digit_value c ≡ Some v → slice_index lower_digits v ≡ to_ascii_lowercase c
digit_comes_back c v h =
    let passed = all_come_back-at 103 c refl (hex_digit_value-below c v h) in
    eqb-true (slice_index lower_digits v) (to_ascii_lowercase c) (rw h at passed)

-- what an `Ok` after `>>=` shows
bind_ok : {A B : Type 0} (r : Result A FromHexError) (f : A → Result B FromHexError) (y : B)
    → (r >>= f) ≡ Ok y → (x : A) × (r ≡ Ok x) × (f x ≡ Ok y)
bind_ok (Ok x) f y h = (x, refl, h)
bind_ok (Err e) f y h = cc h

-- the value of a digit that was read
digit_read : (c i : ℕ) (o : Option ℕ) (v : ℕ) → digit_or_error c i o ≡ Ok v → o ≡ Some v
digit_read c i (Some w) v h = ap Some (ap (λ (r : Result ℕ FromHexError). result_unwrap_or r 0) h)
digit_read c i None v h = cc h

-- a byte of two digits is written as the two in lower case
pair_comes_back : (a b x y : ℕ) (bytes rest : List ℕ) → hex_digit_value a ≡ Some x → hex_digit_value b ≡ Some y
    → encode_with lower_digits bytes ≡ lower_case rest
    → encode_with lower_digits ((x * 16 + y) ∷ bytes) ≡ lower_case (a ∷ b ∷ rest)
unfolding encode_with
pair_comes_back a b x y bytes rest ha hb h =
    let below : y < 16 = hex_digit_value-small b y hb in
    let high : (x * 16 + y) / 16 ≡ x = omega arith in
    let low : (x * 16 + y) % 16 ≡ y = omega arith in
    rw (high, low, digit_comes_back a x ha, digit_comes_back b y hb, h) refl

-- the bytes that pairs of digits were read as are written as the digits in lower case
pub encode_lower-decode_pairs : (i : ℕ) (s bytes : List ℕ) → decode_pairs i s ≡ Ok bytes
    → encode_with lower_digits bytes ≡ lower_case s
unfolding decode_pairs encode_with
encode_lower-decode_pairs i [] bytes h =
    let e : [] ≡ bytes = ap (λ (r : Result (List ℕ) FromHexError). result_unwrap_or r []) h in
    rw (← e) refl
encode_lower-decode_pairs i (a ∷ []) bytes h = cc h
encode_lower-decode_pairs i (a ∷ b ∷ rest) bytes h =
    let p0 = bind_ok (pair_value a b i) _ bytes h in
    let p1 = bind_ok (value_at a i) _ p0.0 p0.1 in
    let p2 = bind_ok (value_at b (i + 1)) _ p0.0 p1.2 in
    let p3 = bind_ok (decode_pairs (i + 2) rest) _ bytes p0.2 in
    let byte : p1.0 * 16 + p2.0 ≡ p0.0 = ap (λ (r : Result ℕ FromHexError). result_unwrap_or r 0) p2.2 in
    let whole : p0.0 ∷ p3.0 ≡ bytes = ap (λ (r : Result (List ℕ) FromHexError). result_unwrap_or r []) p3.2 in
    let e : (p1.0 * 16 + p2.0) ∷ p3.0 ≡ bytes = ap (λ v. v ∷ p3.0) byte ∙ whole in
    ap (encode_with lower_digits) (sym e)
    ∙ pair_comes_back a b p1.0 p2.0 p3.0 rest (digit_read a i _ _ p1.1) (digit_read b (i + 1) _ _ p2.1)
    (encode_lower-decode_pairs (i + 2) rest p3.0 p3.1)

-- the same of a result: what was read, if anything was
result_comes_back : (s : List ℕ) (n : ℕ) (r : Result (List ℕ) FromHexError) → decode_sized s n ≡ r
    → IfSome (result_ok r) (λ bytes. encode_lower bytes ≡ lower_case s)
result_comes_back s n (Err e) h = tt
result_comes_back s n (Ok bytes) h =
    let twice : length s ≡ 2 * n = decode_sized-ok s n bytes h in
    encode_lower-decode_pairs 0 s bytes
    (sym (decode_of-even s (omega arith)) ∙ sym (decode_sized-twice s n twice) ∙ h)

-- the text of a token that was read is the text that it was read from, in lower case
pub IfSome-token_of : (text : List ℕ) → IfSome (token_of text) (λ token. encode_lower token ≡ lower_case text)
IfSome-token_of text = result_comes_back text token_bytes (decode_sized text token_bytes) refl

-- what is read is a token
pub token_of-is : (text token : List ℕ) → token_of text ≡ Some token → IsToken token
token_of-is text token = by_result (decode_sized text token_bytes) refl
  where
    by_result : (r : Result (List ℕ) FromHexError) → decode_sized text token_bytes ≡ r → result_ok r ≡ Some token → IsToken token
    by_result (Err e) is found = cc
    by_result (Ok bytes) is found =
        let twice : length text ≡ 2 * token_bytes = decode_sized-ok text token_bytes bytes is in
        let whole = decode_of-ok text bytes (sym (decode_sized-twice text token_bytes twice) ∙ is) in
        let long : length text ≡ 2 * length bytes = whole.2 in
        let same : bytes ≡ token = ap (λ o. unwrap_or o []) found in
        subst IsToken same (record { count = omega (arith, twice, long); bytes = whole.3 })

-- the texts that are tokens are 32 hexadecimal digits
pub IsSome-token_of : (text : List ℕ) → IsSome (token_of text) ↔ IsTokenText text
IsSome-token_of text = by_result (decode_sized text token_bytes) (IsOk-decode_sized text token_bytes)
  where
    by_result : (r : Result (List ℕ) FromHexError) → IsOk r ↔ IsTokenText text → IsSome (result_ok r) ↔ IsTokenText text
    by_result (Ok bytes) h = (λ _. h.0 refl, λ _. refl)
    by_result (Err e) h = (λ some. cc, λ digits. let ok = h.1 digits in cc)

-- what decoding into sixteen bytes that succeeds writes is the token
pub token_of-written : (text out : List ℕ) (r : Result Unit FromHexError)
    → MatchResult (decode_sized text token_bytes) (λ bytes. (r ≡ Ok tt) × (out ≡ bytes)) (λ e. r ≡ Err e) → IsOk r
    → token_of text ≡ Some out
token_of-written text out r = by_result (decode_sized text token_bytes)
  where
    by_result : (d : Result (List ℕ) FromHexError)
        → MatchResult d (λ bytes. (r ≡ Ok tt) × (out ≡ bytes)) (λ e. r ≡ Err e) → IsOk r → result_ok d ≡ Some out
    by_result (Ok bytes) h ok = ap Some (sym h.1)
    by_result (Err e) h ok = cc (rw h at ok)

-- where decoding into sixteen bytes fails there is no token
pub token_of-refused : (text out : List ℕ) (r : Result Unit FromHexError)
    → MatchResult (decode_sized text token_bytes) (λ bytes. (r ≡ Ok tt) × (out ≡ bytes)) (λ e. r ≡ Err e) → IsErr r
    → token_of text ≡ None
token_of-refused text out r = by_result (decode_sized text token_bytes)
  where
    by_result : (d : Result (List ℕ) FromHexError)
        → MatchResult d (λ bytes. (r ≡ Ok tt) × (out ≡ bytes)) (λ e. r ≡ Err e) → IsErr r → result_ok d ≡ None
    by_result (Ok bytes) h err = cc (rw h.0 at err)
    by_result (Err e) h err = refl

-- the text of a token is ASCII
pub IsAscii-encode_lower : (bytes : List ℕ) → IsAscii (encode_lower bytes)
IsAscii-encode_lower bytes = IsAscii-encode_with lower_digits bytes (IsAscii-name_bytes lower_digits refl)
