-- The laws of code texts, of one entry.
use Rattle.std.proofs.Common.{◌≡◌, ◌≢◌, ℕ, ◌^◌, ◌<◌, ◌≤◌, suc, zero, true, false, cond, ◌&&◌, List, [], ◌∷◌, ◌++◌, refl, sym, ◌∙◌, ap, subst, Option, Some, None, length, get_or, arith}
use Rattle.std.specs.Prelude.{nat_lt, decimal}
use Rattle.std.specs.Option.{option_and_then, option_map, IsNone, IfSome}
use Rattle.std.proofs.lemmas.Str.Pattern.{IsSplitOnceResult, split_parts}
use Rattle.std.proofs.Common.{Bor}
use Rattle.std.specs.Str.Parse.{digits_value}
use Rattle.std.proofs.lemmas.Fmt.{decimal_is_IsNumeral, digits_decimal}
use Rattle.std.proofs.Common.{lit<}
use Rattle.std.proofs.lemmas.Option.{cond_some}
use Rattle.std.proofs.lemmas.Bool.Decides.{nat_tests}
use Rattle.std.proofs.Math.Dec.{eqb}
use Rattle.std.proofs.lemmas.Bool.{leb-true, le-leb, ltb-true, lt-ltb}
use Rattle.std.specs.Cmp.Lexicographic.{pointwise}
use Rattle.mx_pay.specs.Limits.{most_amount, most_number}
use Rattle.mx_pay.specs.Names.{is_name_text, is_name_byte}
use Rattle.std.specs.List.{list_all}
use Rattle.std.specs.Int.{IsInRange}
use Rattle.std.specs.Str.Parse.{AllDigits}
use Rattle.std.proofs.lemmas.Str.Parse.{IsNumeralModel, numerals_by_value, tells_digits, not_in_digits}
use Rattle.mx_pay.specs.Details.{Details, IsDetails}
use Rattle.mx_pay.specs.Codes.{entry_text}
use Rattle.mx_pay.specs.Reading.{cut, same_bytes, number_of, up_to, limited, name_of, apart, made_of, entry_of}
use Rattle.std.specs.Cmp.{first_so, second_so}
use Rattle.mx_pay.proofs.Texts.{name_bytes}
use Rattle.mx_pay.proofs.SameLemmas.{same_name, names_alike, names_unlike}

-- the steps of a reading that gave something
pub bind_some : {A B : Type 0} (f : A → Option B) (o : Option A) (y : B) → option_and_then f o ≡ Some y → (x : A) × ((o ≡ Some x) × (f x ≡ Some y))
bind_some f None y h = cc
bind_some f (Some x) y h = (x, (refl, h))

pub texts_same : (xs ys : List ℕ) → pointwise eqb xs ys ≡ true → xs ≡ ys
texts_same [] [] h = refl
texts_same [] (y ∷ ys) h = cc
texts_same (x ∷ xs) [] h = cc
texts_same (x ∷ xs) (y ∷ ys) h = grind (arith, nat_tests, texts_same xs ys)

pub texts_itself : (xs : List ℕ) → pointwise eqb xs xs ≡ true
texts_itself [] = refl
texts_itself (x ∷ xs) = grind (arith, nat_tests, texts_itself xs)

-- numbers
pub number_takes : (t : List ℕ) (n : ℕ) → number_of t ≡ Some n → (t ≡ decimal n) × (n < 2 ^ 64)
unfolding number_of
number_takes t n h =
    let s = cond_some _ _ _ h in
    let e : digits_value 10 t ≡ n = s.1 in
    let low : nat_lt (digits_value 10 t) (2 ^ 64) ≡ true = first_so _ _ s.0 in
    (texts_same _ _ (second_so (nat_lt (digits_value 10 t) (2 ^ 64)) _ s.0) ∙ ap decimal e, subst (λ (k : ℕ). k < 2 ^ 64) e (ltb-true _ _ low))

pub number_again : (n : ℕ) → n < 2 ^ 64 → number_of (decimal n) ≡ Some n
unfolding number_of
number_again n h =
    let v : digits_value 10 (decimal n) ≡ n = (decimal_is_IsNumeral n h).1 in
    ap (λ (k : ℕ). cond (nat_lt k (2 ^ 64) && same_bytes (decimal n) (decimal k)) (Some k) None) v
    ∙ ap (λ b. cond (b && same_bytes (decimal n) (decimal n)) (Some n) None) (lt-ltb _ _ h)
    ∙ ap (λ b. cond b (Some n) None) (texts_itself (decimal n))

pub number_none : (t : List ℕ) → ((n : ℕ) → n < 2 ^ 64 → t ≡ decimal n → ⊥) → number_of t ≡ None
number_none t h = none_or (number_of t) (λ n e. let k = number_takes t n e in h n k.1 k.0)
  where
    none_or : (o : Option ℕ) → ((n : ℕ) → o ≡ Some n → ⊥) → o ≡ None
    none_or None h = refl
    none_or (Some n) h = absurd (h n refl)

-- cuts
pub cut_at : (c : ℕ) (xs ys : List ℕ) → ((i : ℕ) → i < length xs → get_or xs i 0 ≢ c) → cut c (xs ++ c ∷ ys) ≡ Some (xs, ys)
cut_at c [] ys h = grind (arith, nat_tests)
cut_at c (x ∷ xs) ys h = grind (arith, nat_tests, h 0 (omega arith), cut_at c xs ys (λ i l. h (suc i) (omega arith)))

pub cut_none : (c : ℕ) (bs : List ℕ) → ((i : ℕ) → i < length bs → get_or bs i 0 ≢ c) → cut c bs ≡ None
cut_none c [] h = refl
cut_none c (b ∷ bs) h = grind (arith, nat_tests, h 0 (omega arith), cut_none c bs (λ i l. h (suc i) (omega arith)))

pub cut_parts : (c : ℕ) (bs : List ℕ) (p : List ℕ × List ℕ) → cut c bs ≡ Some p → bs ≡ p.0 ++ c ∷ p.1
cut_parts c [] p h = cc
cut_parts c (b ∷ bs) p h = grind (arith, nat_tests, cut_parts c bs)

-- one entry
name_takes : (t n : List ℕ) → name_of t ≡ Some n → (t ≡ n) × (is_name_text n ≡ true)
name_takes t n h = let s = cond_some _ _ _ h in (s.1, subst (λ k. is_name_text k ≡ true) s.1 s.0)

limited_takes : (most : ℕ) (t : List ℕ) (n : ℕ) → limited most t ≡ Some n → (t ≡ decimal n) × (n ≤ most)
limited_takes most t n h =
    let b = bind_some (up_to most) (number_of t) n h in
    let s = cond_some _ _ _ b.1.1 in
    let e : b.0 ≡ n = s.1 in
    (subst (λ (k : ℕ). t ≡ decimal k) e (number_takes t b.0 b.1.0).0, subst (λ (k : ℕ). k ≤ most) e (leb-true _ _ s.0))

-- what the calls give
pub cut_is : (c : ℕ) (bs : List ℕ) (r : Option (Bor (List ℕ) × Bor (List ℕ))) → IsSplitOnceResult c bs r → c < 128 → option_map (λ (x : Bor (List ℕ) × Bor (List ℕ)). (x.0.now, x.1.now)) r ≡ cut c bs
cut_is c bs None h low = sym (cut_none c bs (split_parts c bs None h low))
cut_is c bs (Some x) h low =
    let parts = split_parts c bs (Some x) h low in
    sym (ap (cut c) parts.0 ∙ cut_at c x.0.now x.1.now parts.1)

pub new_apart : (r : Option Details) (d : Details) → (IsNone r → d.from ≡ d.to) × (d.from ≡ d.to → IsNone r) → IfSome r (λ x. x ≡ d) → r ≡ apart d
new_apart r d none new = grind (arith, same_name d.from d.to, names_alike d.from d.to)

apart_takes : (d e : Details) → apart d ≡ Some e → (d ≡ e) × (d.from ≡ d.to → ⊥)
apart_takes d e h = grind (arith, names_alike d.from d.to)

pub made_takes : (a b c d e : List ℕ) (x : Details) → made_of a b c d e ≡ Some x → IsDetails x × (a ++ 44 ∷ (b ++ 44 ∷ (c ++ 44 ∷ (d ++ 44 ∷ e))) ≡ entry_text x)
unfolding made_of
made_takes a b c d e x h =
    let s1 = bind_some _ (name_of a) x h in
    let s2 = bind_some _ (name_of b) x s1.1.1 in
    let s3 = bind_some _ (limited most_amount c) x s2.1.1 in
    let s4 = bind_some _ (limited most_number d) x s3.1.1 in
    let s5 = bind_some _ (limited most_number e) x s4.1.1 in
    let made = apart_takes _ x s5.1.1 in
    let n1 = name_takes a _ s1.1.0 in
    let n2 = name_takes b _ s2.1.0 in
    let n3 = limited_takes most_amount c _ s3.1.0 in
    let n4 = limited_takes most_number d _ s4.1.0 in
    let n5 = limited_takes most_number e _ s5.1.0 in (
      subst IsDetails made.0 (record { from = n1.1; to = n2.1; value = n3.1; from_seq = n4.1; to_seq = n5.1; apart = made.1 }),
      texts a b c d e n1.0 n2.0 n3.0 n4.0 n5.0 ∙ ap entry_text made.0,
    )
  where
    texts : (a b c d e : List ℕ) {a' b' c' d' e' : List ℕ} → a ≡ a' → b ≡ b' → c ≡ c' → d ≡ d' → e ≡ e' → a ++ 44 ∷ (b ++ 44 ∷ (c ++ 44 ∷ (d ++ 44 ∷ e))) ≡ a' ++ 44 ∷ (b' ++ 44 ∷ (c' ++ 44 ∷ (d' ++ 44 ∷ e')))
    texts a b c d e p q r s t = cc

pub entry_takes : (t : List ℕ) (x : Details) → entry_of t ≡ Some x → IsDetails x × (t ≡ entry_text x)
unfolding entry_of
entry_takes t x h =
    let s1 = bind_some _ (cut 44 t) x h in
    let s2 = bind_some _ (cut 44 s1.0.1) x s1.1.1 in
    let s3 = bind_some _ (cut 44 s2.0.1) x s2.1.1 in
    let s4 = bind_some _ (cut 44 s3.0.1) x s3.1.1 in
    let made = made_takes s1.0.0 s2.0.0 s3.0.0 s4.0.0 s4.0.1 x s4.1.1 in (
      made.0,
      cut_parts 44 t s1.0 s1.1.0
          ∙ ap (λ r. s1.0.0 ++ 44 ∷ r) (cut_parts 44 s1.0.1 s2.0 s2.1.0
          ∙ ap (λ r. s2.0.0 ++ 44 ∷ r) (cut_parts 44 s2.0.1 s3.0 s3.1.0
          ∙ ap (λ r. s3.0.0 ++ 44 ∷ r) (cut_parts 44 s3.0.1 s4.0 s4.1.0)))
          ∙ made.1,
    )

-- what is spelled so is read
abbrev pub NoByte : ℕ → List ℕ → Type 0
NoByte c xs = (i : ℕ) → i < length xs → get_or xs i 0 ≢ c

name_again : (n : List ℕ) → is_name_text n ≡ true → name_of n ≡ Some n
name_again n h = ap (λ b. cond b (Some n) None) h

limited_again : (most n : ℕ) → n < 2 ^ 64 → n ≤ most → limited most (decimal n) ≡ Some n
limited_again most n small low = ap (option_and_then (up_to most)) (number_again n small) ∙ ap (λ b. cond b (Some n) None) (le-leb _ _ low)

apart_again : (d : Details) → (d.from ≡ d.to → ⊥) → apart d ≡ Some d
apart_again d h = ap (λ b. cond b None (Some d)) (names_unlike _ _ h)

pub made_again : (x : Details) → IsDetails x → made_of x.from x.to (decimal x.value) (decimal x.from_seq) (decimal x.to_seq) ≡ Some x
unfolding made_of
made_again x h =
    let v : limited most_amount (decimal x.value) ≡ Some x.value = limited_again most_amount x.value (let k : x.value ≤ most_amount = h.value in omega arith) h.value in
    let m : limited most_number (decimal x.from_seq) ≡ Some x.from_seq = limited_again most_number x.from_seq (let k : x.from_seq ≤ most_number = h.from_seq in omega arith) h.from_seq in
    let n : limited most_number (decimal x.to_seq) ≡ Some x.to_seq = limited_again most_number x.to_seq (let k : x.to_seq ≤ most_number = h.to_seq in omega arith) h.to_seq in
    rw (name_again x.from h.from, name_again x.to h.to, v, m, n) (apart_again x h.apart)

names_lack : (c : ℕ) → is_name_byte c ≡ false → (n : List ℕ) → list_all is_name_byte n ≡ true → NoByte c n
names_lack c other [] h i l e = omega arith
names_lack c other (b ∷ bs) h zero l e =
    let yes : is_name_byte b ≡ true = first_so _ _ h in
    let same : b ≡ c = e in
    let t : true ≡ false = sym yes ∙ ap is_name_byte same ∙ other in cc
names_lack c other (b ∷ bs) h (suc i) l e = names_lack c other bs (second_so (is_name_byte b) _ h) i (omega arith) e

pub name_lacks : (c : ℕ) → is_name_byte c ≡ false → (n : List ℕ) → is_name_text n ≡ true → NoByte c n
name_lacks c other n h = names_lack c other n (name_bytes n h)

own : IsNumeralModel (AllDigits 10) (digits_value 10)
own = numerals_by_value (AllDigits 10) tells_digits

pub number_lacks_at : (c : ℕ) → (IsInRange 48 57 c → ⊥) → (n : ℕ) → n < 2 ^ 64 → NoByte c (decimal n)
number_lacks_at c outside n small = not_in_digits own (decimal n) c (digits_decimal own n small) outside

number_lacks : (c : ℕ) → c < 48 → (n : ℕ) → n < 2 ^ 64 → NoByte c (decimal n)
number_lacks c low n small = number_lacks_at c (λ r. outside c low r) n small
  where
    outside : (c : ℕ) → c < 48 → IsInRange 48 57 c → ⊥
    outside c low r = let k : 48 ≤ c = r.0 in omega arith

pub entry_found : (t : List ℕ) (o : Option Details) → o ≡ entry_of t → IfSome o (λ d. t ≡ entry_text d)
entry_found t None h = tt
entry_found t (Some d) h = (entry_takes t d (sym h)).1

pub entry_valid : (t : List ℕ) (o : Option Details) → o ≡ entry_of t → IfSome o IsDetails
entry_valid t None h = tt
entry_valid t (Some d) h = (entry_takes t d (sym h)).0

pub entry_again : (x : Details) → IsDetails x → entry_of (entry_text x) ≡ Some x
unfolding entry_of
entry_again x h =
    let vs : x.value < 2 ^ 64 = (let k : x.value ≤ most_amount = h.value in omega arith) in
    let ms : x.from_seq < 2 ^ 64 = (let k : x.from_seq ≤ most_number = h.from_seq in omega arith) in
    rw (cut_at 44 x.from _ (name_lacks 44 refl x.from h.from), cut_at 44 x.to _ (name_lacks 44 refl x.to h.to), cut_at 44 (decimal x.value) _ (number_lacks 44 (lit< tt) x.value vs), cut_at 44 (decimal x.from_seq) _ (number_lacks 44 (lit< tt) x.from_seq ms))
    (made_again x h)
