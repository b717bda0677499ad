-- Tokens: 16 bytes, written as 32 hexadecimal digits.
use Rattle.std.specs.Prelude.{◌≡◌, ℕ, ◌<◌, Bool, List, Option, map, length, slice_index}
use Rattle.std.specs.Result.{result_ok}
use Rattle.std.specs.List.{AllPass}
use Rattle.std.specs.Char.{to_ascii_lowercase}
use Rattle.std.specs.Ordering.{nat_cmp, eq_by_cmp}
use Rattle.std.specs.declared.cmp.Ordering.{Ordering}
use Rattle.std.specs.Cmp.Lexicographic.{slice_cmp}
use Rattle.mx_pay.specs.Limits.{token_bytes}
use Rattle.hex.specs.Hex.{decode_sized, is_hex_digit}

-- a token has 16 bytes
pub record IsToken (token : List ℕ) : Type 0 where
  pub count : length token ≡ token_bytes
  pub bytes : (place : ℕ) → slice_index token place < 256

-- the 16 bytes that a text spells, if it is 32 hexadecimal digits of either case
abbrev pub token_of : List ℕ → Option (List ℕ)
token_of text = result_ok (decode_sized text token_bytes)

-- a text is 32 hexadecimal digits, of either case
abbrev pub IsTokenText : List ℕ → Type 0
IsTokenText text = (length text ≡ 32) × AllPass is_hex_digit text

-- a text with A to Z put in lower case
abbrev pub lower_case : List ℕ → List ℕ
lower_case text = map to_ascii_lowercase text

-- the order of tokens: that of their bytes
abbrev pub token_cmp : List ℕ → List ℕ → Ordering
token_cmp = slice_cmp nat_cmp

-- whether two tokens are the same
abbrev pub is_token : List ℕ → List ℕ → Bool
is_token = eq_by_cmp token_cmp
