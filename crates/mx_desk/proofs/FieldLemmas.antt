-- The values of fields, one field after another.
use Rattle.std.proofs.Common.{◌≡◌, ℕ, ◌+◌, ◌<◌, ◌≤◌, Bool, true, false, List, [], ◌∷◌, ◌++◌, length, take, get_or, map, refl, ap, arith}
use Rattle.std.specs.Prelude.{if◌then◌else◌, Ok, Err, nat_le, nat_lt, codes, IsTrue, ◌↔◌}
use Rattle.std.specs.Char.{to_ascii_lowercase}
use Rattle.std.proofs.lemmas.Slice.Eq.{bytes_eq-Decides}
use Rattle.std.proofs.lemmas.Bool.Decides.{same_from_decides}
use Rattle.std.specs.Str.{str_eq_ignore_ascii_case}
use Rattle.std.specs.Str.Parse.{digits_value}
use Rattle.mx_desk.specs.declared.head.Reason.TheVariants.{TransferCoding, BadLength, TooLarge}
use Rattle.std.proofs.lemmas.Bool.{leb-true}
use Rattle.std.proofs.lemmas.List.{map_more}
use Rattle.httparse.specs.Spans.{header_bytes}
use Rattle.httparse.specs.declared.spans.HeaderSpan.{HeaderSpan}
use Rattle.mx_desk.specs.Fields.{IsOnly}
use Rattle.mx_desk.specs.declared.fields.Only.{Only}
use Rattle.mx_desk.specs.Requests.{values_of, announced, length_of, framing, is_number}

-- the value, where the field has that name
abbrev pub value_if : List ℕ → List ℕ × List ℕ → List (List ℕ)
value_if name f = if str_eq_ignore_ascii_case f.0 name then f.1 ∷ [] else []

pub values_of-snoc : (name : List ℕ) (fs : List (List ℕ × List ℕ)) (f : List ℕ × List ℕ)
    → values_of name (fs ++ f ∷ []) ≡ values_of name fs ++ value_if name f
values_of-snoc name [] f = refl
values_of-snoc name (g ∷ fs) f = by (str_eq_ignore_ascii_case g.0 name) (values_of-snoc name fs f)
  where
    by : (b : Bool) → values_of name (fs ++ f ∷ []) ≡ values_of name fs ++ value_if name f
        → (if b then g.1 ∷ values_of name (fs ++ f ∷ []) else values_of name (fs ++ f ∷ []))
        ≡ (if b then g.1 ∷ values_of name fs else values_of name fs) ++ value_if name f
    by true e = ap (λ (x : List (List ℕ)). g.1 ∷ x) e
    by false e = e

pub named : (r : Bool) (a name : List ℕ) → IsTrue r ↔ (map to_ascii_lowercase a ≡ map to_ascii_lowercase name)
    → str_eq_ignore_ascii_case a name ≡ r
named r a name e = same_from_decides _ r (bytes_eq-Decides (map to_ascii_lowercase a) (map to_ascii_lowercase name)) e

announced_small : (v : List ℕ) (n : ℕ) → announced v ≡ Ok n → n ≤ 4096
announced_small v n e = by (is_number v) (nat_le (digits_value 10 v) 4096) refl e
  where
    by : (a b : Bool) → nat_le (digits_value 10 v) 4096 ≡ b → (if a then (if b then Ok (digits_value 10 v) else Err TooLarge) else Err BadLength) ≡ Ok n → n ≤ 4096
    by true true f e = let le : digits_value 10 v ≤ 4096 = leb-true _ _ f in let same : digits_value 10 v ≡ n = cc in omega arith
    by true false f e = absurd (cc)
    by false b f e = absurd (cc)

length_small : (vs : List (List ℕ)) (n : ℕ) → length_of vs ≡ Ok n → n ≤ 4096
length_small [] n e = let z : 0 ≡ n = cc in omega arith
length_small (v ∷ []) n e = announced_small v n e
length_small (v ∷ w ∷ vs) n e = absurd (cc)

pub framing_small : (fields : List (List ℕ × List ℕ)) (n : ℕ) → framing fields ≡ Ok n → n ≤ 4096
framing_small fields n e = by (nat_lt 0 (length (values_of (codes "transfer-encoding") fields))) e
  where
    by : (b : Bool) → (if b then Err TransferCoding else length_of (values_of (codes "content-length") fields)) ≡ Ok n → n ≤ 4096
    by true f = absurd (cc)
    by false f = length_small (values_of (codes "content-length") fields) n f

-- what a place past the end of the fields has
abbrev pub no_span : HeaderSpan
no_span = record { name = record { start = 0; end = 0 }; value = record { start = 0; end = 0 } }

pub values_step : (name bytes : List ℕ) (fields : List HeaderSpan) (i : ℕ) (r : Bool) (found : Only)
    → i < length fields → str_eq_ignore_ascii_case (header_bytes bytes (get_or fields i no_span)).0 name ≡ r
    → IsOnly found (values_of name (map (header_bytes bytes) (take i fields)) ++ (if r then (header_bytes bytes (get_or fields i no_span)).1 ∷ [] else []))
    → IsOnly found (values_of name (map (header_bytes bytes) (take (i + 1) fields)))
values_step name bytes fields i r found below test is =
    let grown = map_more (header_bytes bytes) fields i no_span below in
    rw (grown, values_of-snoc name (map (header_bytes bytes) (take i fields)) (header_bytes bytes (get_or fields i no_span)), test) is
