-- Rows in blocks.
use Rattle.std.proofs.Common.{◌≡◌, ℕ, ◌+◌, ◌-◌, ◌*◌, ◌<◌, ◌≤◌, ◌^◌, Bool, true, false, cond, T, List, [], ◌∷◌, ◌++◌, length, take, drop, get_or, Some, refl, sym, ◌∙◌, ap, subst, arith, add-one, append_assoc, length-append, length-drop, take_all, get_or-set_same}
use Rattle.std.proofs.lemmas.List.{drop_more, set_split, take_more, take_more_set, drop-set-lt, take-set, length-take-le, get_or_default}
use Rattle.std.proofs.Math.Seq.{get_or-append_seam, set-append_seam}
use Rattle.std.proofs.lemmas.Option.{get_or_from_slice_get}
use Rattle.std.specs.Prelude.{slice_get}
use Rattle.std.proofs.Math.ListN.{set}
use Rattle.std.specs.declared.vec.Vec.{Vec}
use Rattle.std.specs.Vec.{vec_len}
use Rattle.std.specs.declared.cmp.Ordering.{Ordering}
use Rattle.std.specs.declared.cmp.Ordering.TheVariants.{Less}
use Rattle.std.specs.Ordering.{is_lt, is_le, is_gt}
use Rattle.std.specs.Cmp.{IsTotalOrder}
use Rattle.std.specs.FinMap.{find, is_sorted}
use Rattle.std.specs.FinMap.Entries.{put}
use Rattle.mx_sorted.specs.Blocks.{rows_in, rows_from, IsUsed, IsSpare, AreUsed, AreSpare, AreSound}
use Rattle.mx_sorted.specs.Place.{IsAfter, IsBefore, IsBlockFor, without}
use Rattle.mx_pay.proofs.TestLemmas.{is_less}
use Rattle.mx_sorted.proofs.PartLemmas.{all_append, all_left, all_right}
use Rattle.mx_sorted.proofs.PlaceLemmas.{around, after_left, before_right, sorted_left, sorted_right, find_after, find_before, put_after, put_before, without_after, without_before, from_after, from_before}

length-from : {K V : Type 0} (R : K → K → Ordering) (k : K) (es : List (K × V)) → length (rows_from R k es) ≤ length es
length-from R k [] = omega arith
length-from R k (e ∷ es) = elim (is_le (R k e.0)) as (λ b. length (cond b (e ∷ rows_from R k es) (rows_from R k es)) ≤ length (e ∷ es)) [ true ↦ let h = length-from R k es in omega (arith, h) | false ↦ let h = length-from R k es in omega (arith, h) ]

to_end : {X : Type 0} (i : ℕ) (xs : List X) → take (length xs - i) (drop i xs) ≡ drop i xs
to_end i xs = take_all (length xs - i) (drop i xs) (let e = length-drop i xs in omega (arith, e))

less_from : (r : Ordering) → is_lt r ≡ true → r ≡ Less
less_from r e = is_less r (subst T (sym e) tt)

module _ {X Z : Type 0} where
  pub rows_in-append : (bs cs : List (Vec X Z)) → rows_in (bs ++ cs) ≡ rows_in bs ++ rows_in cs
  rows_in-append [] cs = refl
  rows_in-append (b ∷ bs) cs = ap (λ xs. b.items ++ xs) (rows_in-append bs cs) ∙ sym (append_assoc b.items (rows_in bs) (rows_in cs))

  module _ (bs : List (Vec X Z)) (i : ℕ) (b : Vec X Z) (lt : i < length bs) (is : b ≡ get_or bs i b) where
    -- the blocks before one, it, and those after it
    pub blocks_around : bs ≡ take i bs ++ b ∷ drop (i + 1) bs
    blocks_around = around bs i b lt ∙ ap (λ c. take i bs ++ c ∷ drop (i + 1) bs) (sym is)

    pub rows_around : rows_in bs ≡ rows_in (take i bs) ++ (b.items ++ rows_in (drop (i + 1) bs))
    rows_around = ap rows_in blocks_around ∙ rows_in-append (take i bs) (b ∷ drop (i + 1) bs)

    pub used_at : AreUsed bs → IsUsed b
    used_at h = (all_right IsUsed (take i bs) (b ∷ drop (i + 1) bs) (subst AreUsed blocks_around h)).0

    pub used_left : AreUsed bs → AreUsed (take i bs)
    used_left h = all_left IsUsed (take i bs) (b ∷ drop (i + 1) bs) (subst AreUsed blocks_around h)

    pub used_right : AreUsed bs → AreUsed (drop (i + 1) bs)
    used_right h = (all_right IsUsed (take i bs) (b ∷ drop (i + 1) bs) (subst AreUsed blocks_around h)).1

-- ---- the steps of a search over blocks
module _ {K V : Type 0} {R : K → K → Ordering} (o : IsTotalOrder R) (key : K) where
  first_less : (ls ms rs : List (K × V)) (x : K × V) → T (is_sorted R (ls ++ (ms ++ rs))) → 0 < length ms → x ≡ get_or ms 0 x → R key x.0 ≡ Less → IsBefore R key (ms ++ rs)
  first_less ls [] rs x h some at e = absurd (omega arith)
  first_less ls (m ∷ ms) rs x h some at e = let e' : R key m.0 ≡ Less = ap (λ (y : K × V). R key y.0) (sym at) ∙ e in (e', before_right o key ls m (ms ++ rs) h (ap is_gt e'))

  first_more : (ls ms rs : List (K × V)) (x : K × V) → T (is_sorted R (ls ++ (ms ++ rs))) → 0 < length ms → x ≡ get_or ms 0 x → is_lt (R key x.0) ≡ false → IsAfter R key ls
  first_more ls [] rs x h some at e = absurd (omega arith)
  first_more ls (m ∷ ms) rs x h some at e = after_left o key ls m (ms ++ rs) h (ap (λ (y : K × V). is_lt (R key y.0)) (sym at) ∙ e)

  module _ {Z : Type 0} (bs : List (Vec (K × V) Z)) (sorted : T (is_sorted R (rows_in bs))) (i : ℕ) (b : Vec (K × V) Z) (lt : i < length bs) (is : b ≡ get_or bs i b) (used : AreUsed bs) (x : K × V) (at : x ≡ get_or b.items 0 x) where
    sorted_parts : T (is_sorted R (rows_in (take i bs) ++ (b.items ++ rows_in (drop (i + 1) bs))))
    sorted_parts = subst (λ (xs : List (K × V)). T (is_sorted R xs)) (rows_around bs i b lt is) sorted

    has_first : 0 < length b.items
    has_first = let u = used_at bs i b lt is used in let ok : vec_len b ≡ length b.items = b.ok.0 in omega (arith, u.some, ok)

    pub block_less : is_lt (R key x.0) ≡ true → IsBefore R key (rows_in (drop i bs))
    block_less e =
        subst (λ (cs : List (Vec (K × V) Z)). IsBefore R key (rows_in cs)) (sym (drop_more bs i b lt ∙ ap (λ c. c ∷ drop (i + 1) bs) (sym is)))
        (first_less (rows_in (take i bs)) b.items (rows_in (drop (i + 1) bs)) x sorted_parts has_first at (less_from _ e))

    pub block_more : is_lt (R key x.0) ≡ false → IsAfter R key (rows_in (take i bs))
    block_more e = first_more (rows_in (take i bs)) b.items (rows_in (drop (i + 1) bs)) x sorted_parts has_first at e

-- ---- one block of sorted rows, and what it says of all
module _ {K V Z : Type 0} (R : K → K → Ordering) (bs : List (Vec (K × V) Z)) (i : ℕ) (b : Vec (K × V) Z) (lt : i < length bs) (is : b ≡ get_or bs i b) where
  pub sorted_block : T (is_sorted R (rows_in bs)) → T (is_sorted R b.items)
  sorted_block h =
      sorted_left R b.items (rows_in (drop (i + 1) bs))
      (sorted_right R (rows_in (take i bs)) (b.items ++ rows_in (drop (i + 1) bs)) (subst (λ (xs : List (K × V)). T (is_sorted R xs)) (rows_around bs i b lt is) h))

  module _ (key : K) (at : IsBlockFor R key bs i) where
    pub find_in : find R key (rows_in bs) ≡ find R key b.items
    find_in = ap (find R key) (rows_around bs i b lt is) ∙ find_after R key (rows_in (take i bs)) (b.items ++ rows_in (drop (i + 1) bs)) at.after ∙ find_before R key b.items (rows_in (drop (i + 1) bs)) at.before

    pub put_in : (v : V) → put R key v (rows_in bs) ≡ rows_in (take i bs) ++ (put R key v b.items ++ rows_in (drop (i + 1) bs))
    put_in v =
        ap (put R key v) (rows_around bs i b lt is) ∙ put_after R key v (rows_in (take i bs)) (b.items ++ rows_in (drop (i + 1) bs)) at.after
        ∙ ap (λ xs. rows_in (take i bs) ++ xs) (put_before R key v b.items (rows_in (drop (i + 1) bs)) at.before)

    pub without_in : without R key (rows_in bs) ≡ rows_in (take i bs) ++ (without R key b.items ++ rows_in (drop (i + 1) bs))
    without_in =
        ap (without R key) (rows_around bs i b lt is) ∙ without_after R key (rows_in (take i bs)) (b.items ++ rows_in (drop (i + 1) bs)) at.after
        ∙ ap (λ xs. rows_in (take i bs) ++ xs) (without_before R key b.items (rows_in (drop (i + 1) bs)) at.before)

    pub from_in : rows_from R key (rows_in bs) ≡ rows_from R key b.items ++ rows_in (drop (i + 1) bs)
    from_in =
        ap (rows_from R key) (rows_around bs i b lt is) ∙ from_after R key (rows_in (take i bs)) (b.items ++ rows_in (drop (i + 1) bs)) at.after
        ∙ from_before R key b.items (rows_in (drop (i + 1) bs)) at.before

    -- from a row of that block on
    module _ (rows : List (K × V)) (j : ℕ) (e : rows ≡ b.items) (from_is : rows_from R key rows ≡ drop j rows) where
      pub from_parts : take (length rows - j) (drop j rows) ++ rows_in (take (length bs - (i + 1)) (drop (i + 1) bs)) ≡ rows_from R key (rows_in bs)
      from_parts =
          ap (λ xs. xs ++ rows_in (take (length bs - (i + 1)) (drop (i + 1) bs))) (to_end j rows)
          ∙ ap (λ cs. drop j rows ++ rows_in cs) (to_end (i + 1) bs)
          ∙ ap (λ xs. xs ++ rows_in (drop (i + 1) bs)) (sym from_is ∙ ap (rows_from R key) e)
          ∙ sym from_in

      pub from_few : length (rows_in bs) < 2 ^ 64 → length (take (length rows - j) (drop j rows) ++ rows_in (take (length bs - (i + 1)) (drop (i + 1) bs))) < 2 ^ 64
      from_few few = let is = ap length from_parts in let most = length-from R key (rows_in bs) in omega (arith, is, most, few)

-- ---- a block in place of another, and two in place of one
module _ {X Z : Type 0} (bs : List (Vec X Z)) (i : ℕ) (b : Vec X Z) (lt : i < length bs) (is : b ≡ get_or bs i b) where
  pub rows_in-set : (c : Vec X Z) → rows_in (set bs i c) ≡ rows_in (take i bs) ++ (c.items ++ rows_in (drop (i + 1) bs))
  rows_in-set c = ap rows_in (set_split bs i c lt ∙ ap (λ n. take i bs ++ c ∷ drop n bs) (sym (add-one i))) ∙ rows_in-append (take i bs) (c ∷ drop (i + 1) bs)

  pub AreUsed-set : (c : Vec X Z) → AreUsed bs → IsUsed c → AreUsed (set bs i c)
  AreUsed-set c used here =
      subst AreUsed (sym (set_split bs i c lt ∙ ap (λ n. take i bs ++ c ∷ drop n bs) (sym (add-one i))))
      (all_append IsUsed (take i bs) (c ∷ drop (i + 1) bs) (used_left bs i b lt is used) (here, used_right bs i b lt is used))

  module _ (cs : List (Vec X Z)) (lower upper : Vec X Z) (made : cs ≡ take (i + 1) (set bs i lower) ++ upper ∷ drop (i + 1) (set bs i lower)) where
    two_for_one : cs ≡ take i bs ++ (lower ∷ upper ∷ drop (i + 1) bs)
    two_for_one =
        made ∙ ap (λ xs. xs ++ upper ∷ drop (i + 1) (set bs i lower)) (take_more_set bs i lower lt)
        ∙ ap (λ xs. (take i bs ++ lower ∷ []) ++ upper ∷ xs) (drop-set-lt (i + 1) bs i lower (omega arith))
        ∙ append_assoc (take i bs) (lower ∷ []) (upper ∷ drop (i + 1) bs)

    pub split_rows : lower.items ++ upper.items ≡ b.items → rows_in cs ≡ rows_in bs
    split_rows halves =
        ap rows_in two_for_one ∙ rows_in-append (take i bs) (lower ∷ upper ∷ drop (i + 1) bs)
        ∙ ap (λ xs. rows_in (take i bs) ++ xs) (sym (append_assoc lower.items upper.items (rows_in (drop (i + 1) bs))) ∙ ap (λ xs. xs ++ rows_in (drop (i + 1) bs)) halves)
        ∙ sym (rows_around bs i b lt is)

    pub split_used : AreUsed (take i bs) → IsUsed lower → IsUsed upper → AreUsed (drop (i + 1) bs) → AreUsed cs
    split_used left low up right = subst AreUsed (sym two_for_one) (all_append IsUsed (take i bs) (lower ∷ upper ∷ drop (i + 1) bs) left (low, (up, right)))

pub spare_if : {X Z : Type 0} (ok : Bool) (bs : List (Vec X Z)) (b : Vec X Z) → AreSpare bs → IsSpare b → AreSpare (cond ok (bs ++ b ∷ []) bs)
spare_if true bs b h g = all_append IsSpare bs (b ∷ []) h (g, tt)
spare_if false bs b h g = h

-- ---- where the row of a key is, or would stand
pub same_block : {K V Z : Type 0} {R : K → K → Ordering} {key : K} {ds bs : List (Vec (K × V) Z)} {i : ℕ} → ds ≡ bs → IsBlockFor R key ds i → IsBlockFor R key bs i
same_block {K} {V} {Z} {R} {key} {ds} {bs} {i} e h = subst (λ (cs : List (Vec (K × V) Z)). IsBlockFor R key cs i) e h

-- the block at i was written
module _ {X Z : Type 0} (bs : List (Vec X Z)) (i : ℕ) (c : Vec X Z) (lt : i < length bs) where
  pub written : (d : Vec X Z) → d ≡ get_or (set bs i c) i d → d ≡ c
  written d e = e ∙ get_or-set_same bs i c d lt

  pub written_there : (d : Vec X Z) → slice_get (set bs i c) i ≡ Some d → c ≡ d
  written_there d e = sym (get_or-set_same bs i c d lt) ∙ get_or_from_slice_get (set bs i c) i d d e

  pub left_same : AreUsed (take i bs) → AreUsed (take i (set bs i c))
  left_same h = subst AreUsed (sym (take-set bs i c)) h

  pub right_same : AreUsed (drop (i + 1) bs) → AreUsed (drop (i + 1) (set bs i c))
  right_same h = subst AreUsed (sym (drop-set-lt (i + 1) bs i c (omega arith))) h

module _ {K V Z : Type 0} (R : K → K → Ordering) (bs : List (Vec (K × V) Z)) (i : ℕ) (b c : Vec (K × V) Z) (is : b ≡ get_or bs i b) (key : K) (at : IsBlockFor R key bs i) where
  pub rows_put : (v : V) → c.items ≡ put R key v b.items → rows_in (set bs i c) ≡ put R key v (rows_in bs)
  rows_put v e =
      rows_in-set bs i b at.within is c ∙ ap (λ xs. rows_in (take i bs) ++ (xs ++ rows_in (drop (i + 1) bs))) e
      ∙ sym (put_in R bs i b at.within is key at v)

  pub rows_without : c.items ≡ without R key b.items → rows_in (set bs i c) ≡ without R key (rows_in bs)
  rows_without e =
      rows_in-set bs i b at.within is c ∙ ap (λ xs. rows_in (take i bs) ++ (xs ++ rows_in (drop (i + 1) bs))) e
      ∙ sym (without_in R bs i b at.within is key at)

-- a block with no rows left goes
module _ {X Z : Type 0} (bs : List (Vec X Z)) (i : ℕ) (b c : Vec X Z) (lt : i < length bs) (is : b ≡ get_or bs i b) (cs : List (Vec X Z)) (gone : cs ≡ take i (set bs i c) ++ drop (i + 1) (set bs i c)) where
  block_gone : cs ≡ take i bs ++ drop (i + 1) bs
  block_gone = gone ∙ ap (λ xs. xs ++ drop (i + 1) (set bs i c)) (take-set bs i c) ∙ ap (λ xs. take i bs ++ xs) (drop-set-lt (i + 1) bs i c (omega arith))

  pub rows_gone : c.items ≡ [] → rows_in cs ≡ rows_in (set bs i c)
  rows_gone none =
      ap rows_in block_gone ∙ rows_in-append (take i bs) (drop (i + 1) bs)
      ∙ ap (λ xs. rows_in (take i bs) ++ (xs ++ rows_in (drop (i + 1) bs))) (sym none)
      ∙ sym (rows_in-set bs i b lt is c)

  pub used_gone : AreUsed bs → AreUsed cs
  used_gone h = subst AreUsed (sym block_gone) (all_append IsUsed (take i bs) (drop (i + 1) bs) (used_left bs i b lt is h) (used_right bs i b lt is h))

-- what is read twice at one place is the same
pub same_read : {X : Type 0} (xs : List X) (i : ℕ) (x y : X) → i < length xs → x ≡ get_or xs i x → y ≡ get_or xs i y → x ≡ y
same_read xs i x y lt e f = e ∙ get_or_default xs i x y lt ∙ sym f

-- the block at i and the one after it, which is out, joined
module _ {X Z : Type 0} (bs cs : List (Vec X Z)) (i : ℕ) (b u : Vec X Z) (lt : i + 1 < length bs) (next : u ≡ get_or bs (i + 1) u) (out : cs ≡ take (i + 1) bs ++ drop (i + 1 + 1) bs) (here : b ≡ get_or cs i b) where
  front_length : length (take i bs) ≡ i
  front_length = length-take-le i bs (omega arith)

  parts : (d : Vec X Z) → get_or bs i b ≡ d → cs ≡ take i bs ++ (d ∷ drop (i + 1 + 1) bs)
  parts d e =
      out ∙ ap (λ xs. xs ++ drop (i + 1 + 1) bs) (take_more bs i b (omega arith) ∙ ap (λ v. take i bs ++ v ∷ []) e)
      ∙ append_assoc (take i bs) (d ∷ []) (drop (i + 1 + 1) bs)

  -- it is still the same
  pub lower_is : b ≡ get_or bs i b
  lower_is =
      here ∙ ap (λ xs. get_or xs i b) (parts (get_or bs i b) refl)
      ∙ ap (λ n. get_or (take i bs ++ (get_or bs i b ∷ drop (i + 1 + 1) bs)) n b) (sym front_length)
      ∙ get_or-append_seam (take i bs) (get_or bs i b) (drop (i + 1 + 1) bs) b

  joined_is : (c : Vec X Z) → set cs i c ≡ take i bs ++ (c ∷ drop (i + 1 + 1) bs)
  joined_is c =
      ap (λ xs. set xs i c) (parts b (sym lower_is))
      ∙ ap (λ n. set (take i bs ++ (b ∷ drop (i + 1 + 1) bs)) n c) (sym front_length)
      ∙ set-append_seam (take i bs) b (drop (i + 1 + 1) bs) c

  pub joined_rows : (c : Vec X Z) → c.items ≡ b.items ++ u.items → rows_in (set cs i c) ≡ rows_in bs
  joined_rows c e =
      ap rows_in (joined_is c) ∙ rows_in-append (take i bs) (c ∷ drop (i + 1 + 1) bs)
      ∙ ap (λ xs. rows_in (take i bs) ++ xs) (
      ap (λ xs. xs ++ rows_in (drop (i + 1 + 1) bs)) e ∙ append_assoc b.items u.items (rows_in (drop (i + 1 + 1) bs))
      ∙ ap (λ vs. b.items ++ rows_in vs) (sym (drop_more bs (i + 1) u lt ∙ ap (λ v. v ∷ drop (i + 1 + 1) bs) (sym next)))
      )
      ∙ sym (rows_around bs i b (omega arith) lower_is)

  pub joined_used : (c : Vec X Z) → AreUsed bs → IsUsed c → AreUsed (set cs i c)
  joined_used c used room =
      subst AreUsed (sym (joined_is c)) (all_append IsUsed (take i bs) (c ∷ drop (i + 1 + 1) bs) (used_left bs i b (omega arith) lower_is used) (room, used_right bs (i + 1) u lt next used))

-- ---- how many rows there are
rows_few : {X Z : Type 0} (bs : List (Vec X Z)) → AreUsed bs → length (rows_in bs) ≤ 32 * length bs
rows_few [] h = omega arith
rows_few (b ∷ bs) h =
    let more = rows_few bs h.1 in
    let here = h.0.few in
    let ok : vec_len b ≡ length b.items = b.ok.0 in
    let sum = length-append b.items (rows_in bs) in
    omega (arith, more, here, ok, sum)

pub rows_fit : {X Y Z : Type 0} (blocks pool : Vec (Vec X Z) Y) → AreSound blocks pool → length (rows_in blocks.items) < 2 ^ 64
rows_fit blocks pool h =
    let ok : vec_len blocks ≡ length blocks.items = blocks.ok.0 in
    let few = h.few in
    let most = rows_few blocks.items h.used in
    omega (arith, ok, few, most)
