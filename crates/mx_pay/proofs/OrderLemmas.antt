-- The order of names, eight bytes at a time.
use Rattle.std.proofs.Common.{◌≡◌, ℕ, ◌+◌, ◌*◌, ◌<◌, zero, suc, List, [], ◌∷◌, ◌++◌, replicate, true, length, take, drop, refl, sym, ◌∙◌, ap, arith, Ordering, Less, Equal, Greater, length-take, length-drop, min, ◌-◌}
use Rattle.std.specs.Prelude.{slice_index_or, nat_le, nat_eq}
use Rattle.std.specs.Ordering.{nat_cmp, ordering_then, is_eq}
use Rattle.std.specs.List.{list_all}
use Rattle.std.specs.Cmp.{tied_itself, first_so, second_so}
use Rattle.std.specs.Cmp.Lexicographic.{slice_cmp, pointwise, texts_ties}
use Rattle.std.proofs.lemmas.List.{drop-drop, take_all}
use Rattle.std.proofs.lemmas.Bool.Decides.{nat_tests}
use Rattle.std.proofs.lemmas.Cmp.{nat_cmp_total, nat_list_cmp_total, ranked}
use Rattle.mx_pay.specs.Limits.{most_name_bytes}
use Rattle.mx_pay.specs.Names.{is_name_byte, is_name_text, number, word_at, IsName, unpadded, name_cmp}
use Rattle.mx_pay.proofs.Texts.{name_byte_counts, name_bytes}

-- each is a byte
abbrev pub AreBytes : List ℕ → Type 0
AreBytes xs = (i : ℕ) → slice_index_or xs i 0 < 256

bytes-take : (k : ℕ) (xs : List ℕ) → AreBytes xs → AreBytes (take k xs)
bytes-take zero xs h i = omega arith
bytes-take (suc k) [] h i = omega arith
bytes-take (suc k) (x ∷ xs) h zero = h 0
bytes-take (suc k) (x ∷ xs) h (suc i) = bytes-take k xs (λ j. h (suc j)) i

bytes-drop : (k : ℕ) (xs : List ℕ) → AreBytes xs → AreBytes (drop k xs)
bytes-drop zero xs h i = h i
bytes-drop (suc k) [] h i = omega arith
bytes-drop (suc k) (x ∷ xs) h i = bytes-drop k xs (λ j. h (suc j)) i

-- numbers that are apart stay so before as many bytes each
number_apart : (m n : ℕ) (xs ys : List ℕ) → length xs ≡ length ys → AreBytes xs → m < n → number m xs < number n ys
number_apart m n [] [] e h l = l
number_apart m n [] (y ∷ ys) e h l = omega (arith, e)
number_apart m n (x ∷ xs) [] e h l = omega (arith, e)
number_apart m n (x ∷ xs) (y ∷ ys) e h l =
    number_apart (m * 256 + x) (n * 256 + y) xs ys (omega (arith, e)) (λ i. h (suc i)) (omega (arith, h 0))

-- bytes are in the order of the numbers that they spell
pub number_cmp : (n : ℕ) (xs ys : List ℕ) → length xs ≡ length ys → AreBytes xs → AreBytes ys → nat_cmp (number n xs) (number n ys) ≡ slice_cmp nat_cmp xs ys
number_cmp n [] [] e h g = grind (arith, nat_tests)
number_cmp n [] (y ∷ ys) e h g = absurd (omega (arith, e))
number_cmp n (x ∷ xs) [] e h g = absurd (omega (arith, e))
number_cmp n (x ∷ xs) (y ∷ ys) e h g =
    by (nat_cmp x y) refl
    (λ s. ap (λ m. nat_cmp (number m xs) (number (n * 256 + y) ys)) (omega (arith, s)) ∙ number_cmp (n * 256 + y) xs ys (omega (arith, e)) (λ i. h (suc i)) (λ i. g (suc i)))
  where
    by : (o : Ordering) → o ≡ nat_cmp x y → (x ≡ y → nat_cmp (number n (x ∷ xs)) (number n (y ∷ ys)) ≡ slice_cmp nat_cmp xs ys)
        → nat_cmp (number n (x ∷ xs)) (number n (y ∷ ys)) ≡ ordering_then (nat_cmp x y) (slice_cmp nat_cmp xs ys)
    by Less o more =
        let l : x < y = ranked x y Less o in
        let apart = number_apart (n * 256 + x) (n * 256 + y) xs ys (omega (arith, e)) (λ i. h (suc i)) (omega (arith, h 0, l)) in
        grind (arith, nat_tests, apart, l)
    by Equal o more = let s : x ≡ y = ranked x y Equal o in more s ∙ ap (λ r. ordering_then r (slice_cmp nat_cmp xs ys)) o
    by Greater o more =
        let l : y < x = ranked x y Greater o in
        let apart = number_apart (n * 256 + y) (n * 256 + x) ys xs (omega (arith, e)) (λ i. g (suc i)) (omega (arith, g 0, l)) in
        grind (arith, nat_tests, apart, l)

then_then : (a b c : Ordering) → ordering_then a (ordering_then b c) ≡ ordering_then (ordering_then a b) c
then_then Less b c = refl
then_then Equal b c = refl
then_then Greater b c = refl

-- lists of one length are in the order of their fronts, and then of what is behind these
cmp-parts : (k : ℕ) (xs ys : List ℕ) → length xs ≡ length ys → slice_cmp nat_cmp xs ys ≡ ordering_then (slice_cmp nat_cmp (take k xs) (take k ys)) (slice_cmp nat_cmp (drop k xs) (drop k ys))
cmp-parts zero xs ys e = refl
cmp-parts (suc k) [] [] e = refl
cmp-parts (suc k) [] (y ∷ ys) e = absurd (omega (arith, e))
cmp-parts (suc k) (x ∷ xs) [] e = absurd (omega (arith, e))
cmp-parts (suc k) (x ∷ xs) (y ∷ ys) e =
    ap (ordering_then (nat_cmp x y)) (cmp-parts k xs ys (omega (arith, e))) ∙ then_then (nat_cmp x y) _ _

-- numbers that differ decide, and those that don't leave it to the rest
then_apart : (x y : ℕ) (o : Ordering) → (x ≡ y → ⊥) → nat_cmp x y ≡ ordering_then (nat_cmp x y) o
then_apart x y o apart = by (nat_cmp x y) refl
  where
    by : (r : Ordering) → r ≡ nat_cmp x y → r ≡ ordering_then r o
    by Less e = refl
    by Equal e = absurd (apart (ranked x y Equal e))
    by Greater e = refl

then_same : (x y : ℕ) (o : Ordering) → x ≡ y → o ≡ ordering_then (nat_cmp x y) o
then_same x y o same = ap (λ r. ordering_then r o) (sym (tied_itself nat_cmp_total x) ∙ ap (nat_cmp x) same)

-- the eight bytes at a place, behind which as many are left
word_cmp : (k : ℕ) (xs ys : List ℕ) → length xs ≡ length ys → AreBytes xs → AreBytes ys → nat_cmp (word_at xs k) (word_at ys k) ≡ slice_cmp nat_cmp (take 8 (drop k xs)) (take 8 (drop k ys))
word_cmp k xs ys e h g =
    number_cmp 0 _ _ (lengths k 8 xs ys e) (bytes-take 8 _ (bytes-drop k xs h)) (bytes-take 8 _ (bytes-drop k ys g))
  where
    lengths : (k n : ℕ) (xs ys : List ℕ) → length xs ≡ length ys → length (take n (drop k xs)) ≡ length (take n (drop k ys))
    lengths k n xs ys e =
        length-take n _ ∙ ap (min n) (length-drop k xs ∙ ap (λ m. m - k) e ∙ sym (length-drop k ys)) ∙ sym (length-take n _)

-- 24 bytes are in the order of their three words
pub words_cmp : (xs ys : List ℕ) → length xs ≡ 24 → length ys ≡ 24 → AreBytes xs → AreBytes ys
    → slice_cmp nat_cmp xs ys ≡ ordering_then (nat_cmp (word_at xs 0) (word_at ys 0)) (ordering_then (nat_cmp (word_at xs 8) (word_at ys 8)) (nat_cmp (word_at xs 16) (word_at ys 16)))
words_cmp xs ys m n h g =
    cmp-parts 8 xs ys e ∙ cong_then (sym (word_cmp 0 xs ys e h g))
    (cmp-parts 8 (drop 8 xs) (drop 8 ys) (long 8 xs ys e) ∙ cong_then (sym (word_cmp 8 xs ys e h g))
    ((λ i. slice_cmp nat_cmp (last xs m i) (last ys n i)) ∙ sym (word_cmp 16 xs ys e h g)))
  where
    e : length xs ≡ length ys
    e = m ∙ sym n

    long : (k : ℕ) (xs ys : List ℕ) → length xs ≡ length ys → length (drop k xs) ≡ length (drop k ys)
    long k xs ys e = length-drop k xs ∙ ap (λ n. n - k) e ∙ sym (length-drop k ys)

    cong_then : {a b c d : Ordering} → a ≡ b → c ≡ d → ordering_then a c ≡ ordering_then b d
    cong_then p q i = ordering_then (p i) (q i)

    last : (xs : List ℕ) → length xs ≡ 24 → drop 8 (drop 8 xs) ≡ take 8 (drop 16 xs)
    last xs m = drop-drop 8 8 xs ∙ sym (take_all 8 (drop 16 xs) (omega (arith, length-drop 16 xs, m)))

-- the first words that differ decide
module _ (xs ys : List ℕ) (m : length xs ≡ 24) (n : length ys ≡ 24) (h : AreBytes xs) (g : AreBytes ys) (x y : ℕ) (is_x : x ≡ word_at xs 0) (is_y : y ≡ word_at ys 0) where
  first_word : (o : Ordering) → ordering_then (nat_cmp x y) o ≡ ordering_then (nat_cmp (word_at xs 0) (word_at ys 0)) o
  first_word o i = ordering_then (nat_cmp (is_x i) (is_y i)) o

  pub by_first : (r : Ordering) → r ≡ nat_cmp x y → (x ≡ y → ⊥) → r ≡ slice_cmp nat_cmp xs ys
  by_first r is apart = is ∙ then_apart x y _ apart ∙ first_word _ ∙ sym (words_cmp xs ys m n h g)

  module _ (same : x ≡ y) (v w : ℕ) (is_v : v ≡ word_at xs 8) (is_w : w ≡ word_at ys 8) where
    second_word : (o : Ordering) → ordering_then (nat_cmp v w) o ≡ ordering_then (nat_cmp (word_at xs 0) (word_at ys 0)) (ordering_then (nat_cmp (word_at xs 8) (word_at ys 8)) o)
    second_word o =
        (λ i. ordering_then (nat_cmp (is_v i) (is_w i)) o) ∙ then_same x y _ same ∙ first_word _

    pub by_second : (r : Ordering) → r ≡ nat_cmp v w → (v ≡ w → ⊥) → r ≡ slice_cmp nat_cmp xs ys
    by_second r is apart = is ∙ then_apart v w _ apart ∙ second_word _ ∙ sym (words_cmp xs ys m n h g)

    pub by_third : v ≡ w → (r : Ordering) → r ≡ nat_cmp (word_at xs 16) (word_at ys 16) → r ≡ slice_cmp nat_cmp xs ys
    by_third too r is = is ∙ then_same v w _ too ∙ second_word _ ∙ sym (words_cmp xs ys m n h g)

-- zeros behind two names leave their order
padded_alike : (a b : List ℕ) (m n : ℕ) → list_all is_name_byte a ≡ true → list_all is_name_byte b ≡ true → length a + m ≡ length b + n
    → slice_cmp nat_cmp (a ++ replicate m 0) (b ++ replicate n 0) ≡ slice_cmp nat_cmp a b
padded_alike [] [] m n h g e =
    let long : n ≡ m = omega (arith, e) in
    ap (λ k. slice_cmp nat_cmp (replicate m 0) (replicate k 0)) long ∙ tied_itself nat_list_cmp_total (replicate m 0)
padded_alike [] (b ∷ bs) zero n h g e = absurd (omega (arith, e))
padded_alike [] (b ∷ bs) (suc m) n h g e =
    let counts = name_byte_counts b (first_so _ (list_all is_name_byte bs) g) in grind (arith, nat_tests, counts)
padded_alike (a ∷ more) [] m zero h g e = absurd (omega (arith, e))
padded_alike (a ∷ more) [] m (suc n) h g e =
    let counts = name_byte_counts a (first_so _ (list_all is_name_byte more) h) in grind (arith, nat_tests, counts)
padded_alike (a ∷ more) (b ∷ bs) m n h g e =
    ap (ordering_then (nat_cmp a b)) (padded_alike more bs m n (second_so (is_name_byte a) _ h) (second_so (is_name_byte b) _ g) (omega (arith, e)))

-- a name and its zeros are 24 bytes
name_room : (a : List ℕ) → is_name_text a ≡ true → length a + (most_name_bytes - length a) ≡ most_name_bytes
unfolding is_name_text
name_room a h = grind (arith, nat_tests, first_so (nat_le (length a) most_name_bytes) _ h)

-- the bytes of two names are in the order of the names
pub names_cmp : (a b : List ℕ) → IsName a → IsName b → slice_cmp nat_cmp a b ≡ name_cmp (unpadded a) (unpadded b)
names_cmp a b m n =
    (λ i. slice_cmp nat_cmp (sym m.exact i) (sym n.exact i)) ∙ padded_alike (unpadded a) (unpadded b) _ _ (name_bytes _ m.text) (name_bytes _ n.text) (name_room _ m.text ∙ sym (name_room _ n.text))

-- names that are level are the same bytes
pub level_names : (a b : List ℕ) → is_eq (slice_cmp nat_cmp a b) ≡ pointwise nat_eq a b
level_names a b = sym (texts_ties a b)
