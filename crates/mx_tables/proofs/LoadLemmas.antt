-- The statements on loads and redemptions, and redemptions that are collected purse by purse.
use Rattle.mx_tables.proofs.Common.{◌≡◌, ℕ, pos, List, [], ◌∷◌, Ok, refl, ◌∙◌, arith, true, ◌&&◌, false, ◌+◌, ◌<◌, ◌≤◌, Bool, ◌++◌, take, length, Option, codes, IsPermutation, eq_by_cmp, Text, Null, Int, option_map, Binary, Row, column, Executes, name_cmp, is_name, Name, Rows, office_schema, number, Holds, Brings, PurseRow, col}
use Rattle.std.proofs.Common.{map, T, cond, ◌||◌, get_or, sym, ap, subst}
use Rattle.std.specs.Cmp.{tied_then}
use Rattle.std.specs.FinMap as fmap
use Rattle.sqlite_sql.specs.declared.ops.BinaryOp.TheVariants.{Compare}
use Rattle.sqlite_sql.specs.declared.ops.CompareOp.TheVariants.{Eq}
use Rattle.sqlite_sql.specs.Ops.{binary, is_true}
use Rattle.sqlite.specs.State.{State, Shown}
use Rattle.mx_pay.proofs.SameLemmas.{names_turned}
use Rattle.mx_book.specs.World.{is_of}
use Rattle.mx_book.specs.Under.{pair_cmp, remake}
use Rattle.mx_tables.specs.Answers.{amount_shown, one_or_none}
use Rattle.mx_tables.proofs.StoredLemmas.{same_text, cast_int, cast_null, and_true}
use Rattle.mx_tables.proofs.ReadLemmas.{answers, keyed}
use Rattle.mx_tables.proofs.WriteLemmas.{adds, alters, goes_as}
use Rattle.mx_tables.proofs.KeptLemmas.{loads, redemptions, purses}
use Rattle.mx_book.specs.declared.values.Redemption.{Redemption}
use Rattle.std.specs.List.{list_any}
use Rattle.std.specs.FinMap.Entries.{is_sorted}
use Rattle.std.proofs.Math.Bool.{or-true, or-false, and-false}
use Rattle.std.proofs.lemmas.List.{take_more, take_all}
use Rattle.std.proofs.lemmas.List.Sorted.{list_any-IsPermutation}
use Rattle.mx_book.specs.RowEdits.{marked, member_at}
use Rattle.mx_book.proofs.NameLemmas.{names_total}
use Rattle.mx_book.proofs.MapLemmas.{find_below}
use Rattle.mx_book.specs.Index.{is_met}
use Rattle.mx_book.proofs.UnderLemmas.{get-remake}
use Rattle.mx_book.proofs.RowLemmas.{keys_total, keys_exact}
use Rattle.mx_tables.specs.Counted.{owned_shown, is_among, is_owned, collected_where}
use Rattle.mx_tables.proofs.MapLists.{any_mapped}
use Rattle.std.proofs.lemmas.List.Folds.{list_any-append}
use Rattle.sqlite_tied.specs.Compute.{everything}
use Rattle.sqlite.specs.Listing.{understood}
use Rattle.sqlite_sql.specs.Term.{lit}
use Rattle.mx_tables.proofs.Texts.{is_given, IsSelect, IsInsert, IsUpdate}
use Rattle.std.specs.FinMap as fmap
use Rattle.std.specs.FinMap as fmap
use Rattle.mx_tables.proofs.MemberLemmas.{filter_everything}

-- ---- loads

abbrev pub insert_load : List ℕ
insert_load = codes "INSERT INTO load (purse, reference, amount) VALUES (?1, ?2, ?3)"

pub insert_load_is : IsInsert insert_load 9 (lit Null ∷ col 0 0 ∷ col 0 1 ∷ col 0 2 ∷ []) 4
unfolding understood everything
insert_load_is = record { is = refl; plain = (refl, refl) }

abbrev pub select_load : List ℕ
select_load = codes "SELECT amount FROM load WHERE purse = ?1 AND reference = ?2"

pub select_load_is : IsSelect select_load 18 (is_given 1 0 ∷ is_given 2 1 ∷ []) (col 1 3 ∷ []) [] (codes "amount" ∷ [])
unfolding understood everything
select_load_is = record { is = refl; query = record { plain = (refl, refl); silent = λ _ _. refl }; unlisted = refl }

-- two texts that are compared with those of a purse and a reference
pub reference_passes : (p reference : Name) (k : Name × Name)
    → (is_true (binary (Compare Eq Binary) (Text k.0) (Text p)) && (is_true (binary (Compare Eq Binary) (Text k.1) (Text reference)) && true)) ≡ eq_by_cmp (pair_cmp name_cmp name_cmp) (p, reference) k
reference_passes p reference k =
    grind (arith, same_text k.0 p, same_text k.1 reference, names_turned k.0 p, names_turned k.1 reference, tied_then (name_cmp p k.0) (name_cmp reference k.1))

pub load_is : (p reference : Name) (old new : State) (rows : List Row) → Shown select_load (Text p ∷ Text reference ∷ []) old new rows → (r : Rows) → Holds old.now r
    → (found : Option Row) → rows ≡ one_or_none found → found ≡ option_map amount_shown (fmap.get r.loads (p, reference))
load_is p reference = keyed loads (p, reference) select_load _ _ _ select_load_is (Text p ∷ Text reference ∷ []) amount_shown (λ id e. reference_passes p reference e.0) (λ id e. refl)

pub adds_load : (p reference : Name) (amount : ℕ) (old new : State) (count : ℕ) → old.now.schema ≡ office_schema → Executes insert_load (Text p ∷ Text reference ∷ number amount ∷ []) old new (Ok count)
    → Brings (λ r. record r { loads = fmap.insert r.loads (p, reference) amount }) old new
adds_load p reference amount =
    adds loads insert_load _ _ insert_load_is (Text p ∷ Text reference ∷ number amount ∷ []) ((p, reference), amount) (rw (cast_null, cast_int (pos amount)) refl)

-- ---- redemptions

abbrev pub insert_redemption : List ℕ
insert_redemption = codes "INSERT INTO redemption (purse, reference, amount, collected) VALUES (?1, ?2, ?3, 0)"

pub insert_redemption_is : IsInsert insert_redemption 10 (lit Null ∷ col 0 0 ∷ col 0 1 ∷ col 0 2 ∷ lit (Int (pos 0)) ∷ []) 5
unfolding understood everything
insert_redemption_is = record { is = refl; plain = (refl, refl) }

abbrev pub select_redemption : List ℕ
select_redemption = codes "SELECT amount FROM redemption WHERE purse = ?1 AND reference = ?2"

pub select_redemption_is : IsSelect select_redemption 20 (is_given 1 0 ∷ is_given 2 1 ∷ []) (col 1 3 ∷ []) [] (codes "amount" ∷ [])
unfolding understood everything
select_redemption_is = record { is = refl; query = record { plain = (refl, refl); silent = λ _ _. refl }; unlisted = refl }

abbrev pub mark_one : List ℕ
mark_one = codes "UPDATE redemption SET collected = 1 WHERE purse = ?1 AND reference = ?2"

pub mark_one_is : IsUpdate mark_one 10 20 (is_given 1 0 ∷ is_given 2 1 ∷ []) (col 1 0 ∷ col 1 0 ∷ col 1 1 ∷ col 1 2 ∷ col 1 3 ∷ lit (Int (pos 1)) ∷ [])
unfolding understood everything
mark_one_is = record { is = refl; plain = (refl, refl) }

abbrev pub mark_purse : List ℕ
mark_purse = codes "UPDATE redemption SET collected = 1 WHERE purse = ?1"

pub mark_purse_is : IsUpdate mark_purse 10 20 (is_given 1 0 ∷ []) (col 1 0 ∷ col 1 0 ∷ col 1 1 ∷ col 1 2 ∷ col 1 3 ∷ lit (Int (pos 1)) ∷ [])
unfolding understood everything
mark_purse_is = record { is = refl; plain = (refl, refl) }

pub redemption_is : (p reference : Name) (old new : State) (rows : List Row) → Shown select_redemption (Text p ∷ Text reference ∷ []) old new rows → (r : Rows) → Holds old.now r
    → (found : Option Row) → rows ≡ one_or_none found → found ≡ option_map (λ (x : Redemption). amount_shown x.amount) (fmap.get r.redemptions (p, reference))
redemption_is p reference =
    keyed redemptions (p, reference) select_redemption _ _ _ select_redemption_is (Text p ∷ Text reference ∷ []) (λ (x : Redemption). amount_shown x.amount) (λ id e. reference_passes p reference e.0) (λ id e. refl)

pub adds_redemption : (p reference : Name) (amount : ℕ) (old new : State) (count : ℕ) → old.now.schema ≡ office_schema → Executes insert_redemption (Text p ∷ Text reference ∷ number amount ∷ []) old new (Ok count)
    → Brings (λ r. record r { redemptions = fmap.insert r.redemptions (p, reference) (record { amount = amount; collected = false }) }) old new
adds_redemption p reference amount =
    adds redemptions insert_redemption _ _ insert_redemption_is (Text p ∷ Text reference ∷ number amount ∷ []) ((p, reference), record { amount = amount; collected = false })
    (rw (cast_null, cast_int (pos amount), cast_int (pos 0)) refl)

-- ---- collecting

abbrev Redemptions : Type 0
Redemptions = fmap.FinMap (pair_cmp name_cmp name_cmp) Redemption

-- ---- the UPDATE

set_or_left : (b : Bool) (x : Redemption) → cond b (record x { collected = true }) x ≡ record x { collected = x.collected || b }
set_or_left b x = grind (arith, or-true x.collected, or-false x.collected)

pub collects_purse : (p : Name) (old new : State) (count : ℕ) → old.now.schema ≡ office_schema → Executes mark_purse (Text p ∷ []) old new (Ok count)
    → Brings (λ r. record r { redemptions = remake (collected_where (λ k. is_name k.0 p)) r.redemptions }) old new
collects_purse p old new count has ran =
    goes_as _ _ old new (λ r h. λ i. record r { redemptions = remake (λ k x. set_or_left (is_name k.0 p) x i) r.redemptions })
    (alters redemptions mark_purse _ _ mark_purse_is (Text p ∷ []) (λ e. is_name e.0.0 p) (λ k x. record x { collected = true }) (λ id e. rw (same_text e.0.0 p) (and_true _)) (λ id e. refl)
    (λ id e. rw (cast_int id, cast_int (pos e.1.amount), cast_int (pos 1)) refl) old new count has ran)

-- two texts that are compared with those of a key, the key's first
key_passes : (k key : Name × Name)
    → (is_true (binary (Compare Eq Binary) (Text k.0) (Text key.0)) && (is_true (binary (Compare Eq Binary) (Text k.1) (Text key.1)) && true)) ≡ eq_by_cmp (pair_cmp name_cmp name_cmp) k key
key_passes k key = grind (arith, same_text k.0 key.0, same_text k.1 key.1, tied_then (name_cmp k.0 key.0) (name_cmp k.1 key.1))

pub collects_key : (key : Name × Name) (old new : State) (count : ℕ) → old.now.schema ≡ office_schema → Executes mark_one (Text key.0 ∷ Text key.1 ∷ []) old new (Ok count)
    → Brings (λ r. record r { redemptions = remake (collected_where (λ k. eq_by_cmp (pair_cmp name_cmp name_cmp) k key)) r.redemptions }) old new
collects_key key old new count has ran =
    let passes : Name × Name → Bool = λ k. eq_by_cmp (pair_cmp name_cmp name_cmp) k key in
    goes_as _ _ old new (λ r h. λ i. record r { redemptions = remake (λ k x. set_or_left (passes k) x i) r.redemptions })
    (alters redemptions mark_one _ _ mark_one_is (Text key.0 ∷ Text key.1 ∷ []) (λ e. passes e.0) (λ k x. record x { collected = true }) (λ id e. key_passes e.0 key) (λ id e. refl)
    (λ id e. rw (cast_int id, cast_int (pos e.1.amount), cast_int (pos 1)) refl) old new count has ran)

-- ---- one after the other

module _ (p q : Name × Name → Bool) (m : Redemptions) where
  pub collected_twice : remake (collected_where q) (remake (collected_where p) m) ≡ remake (collected_where (λ n. p n || q n)) m
  collected_twice = fmap.same_map keys_total keys_exact _ _ (λ k.
      grind (arith, get-remake _ (collected_where q) keys_exact (remake (collected_where p) m) k, get-remake _ (collected_where p) keys_exact m k, get-remake _ (collected_where (λ n. p n || q n)) keys_exact m k))

  pub collected_same : ((k : Name × Name) → p k ≡ q k) → remake (collected_where p) m ≡ remake (collected_where q) m
  collected_same same = λ i. remake {K = Name × Name} {X = Redemption} {Y = Redemption} {R = pair_cmp name_cmp name_cmp} (λ k x. record x { collected = x.collected || same k i }) m

pub collected_none : (m : Redemptions) → remake (collected_where (λ _. false)) m ≡ m
collected_none m = fmap.same_map keys_total keys_exact _ _ (λ k. grind (arith, get-remake _ (collected_where (λ _. false)) keys_exact m k))

-- the rows so far, and one more
abbrev pub so_far : fmap.FinMap name_cmp Name → Name → List Row → Name → Bool
so_far holders m rows n = list_any (λ row. is_owned holders m row n) rows

-- ---- all of them

module _ (g : PurseRow → Bool) (p : Name) where
  abbrev named : Name × PurseRow → Bool
  named e = is_name p e.0 && g e.1

  named_listed : (es : List (Name × PurseRow)) → T (is_sorted name_cmp es) → list_any named es ≡ is_met g (fmap.find name_cmp p es)
  named_listed [] h = refl
  named_listed (e ∷ es) h = grind (arith, named_listed es, find_below names_total p e.0 es, or-false (g e.1))

  pub any_named : (m : fmap.FinMap name_cmp PurseRow) → list_any named (fmap.entries m) ≡ is_met g (fmap.get m p)
  any_named m = named_listed (fmap.entries m) (fmap.entries_sorted m) ∙ ap (is_met g) (sym (fmap.get-entries m p))

member_there : (holders : fmap.FinMap name_cmp Name) (m : Name) (o : Option PurseRow) → is_met (λ (x : PurseRow). is_of m (fmap.get holders x.holder)) o ≡ is_of m (member_at holders o)
member_there holders m o = grind arith

-- ---- one row

module _ (m purse holder : Name) (row : Row) (first : column row 0 ≡ Text purse) (second : column row 1 ≡ Text holder) where
  owned_as : (holders : fmap.FinMap name_cmp Name) (o : Option Name) (b : Bool) → is_of m o ≡ b → o ≡ fmap.get holders holder → (n : Name) → (is_name n purse && b) ≡ is_owned holders m row n
  owned_as holders o b of found n = rw (first, second, ← found, of) refl

  -- the holder isn't one of the member
  pub row_left : (o : Option Name) → is_of m o ≡ false → (r : Rows) → o ≡ fmap.get r.holders holder → r ≡ record r { redemptions = remake (collected_where (λ k. is_owned r.holders m row k.0)) r.redemptions }
  row_left o other r found =
      λ i. record r { redemptions = (sym (collected_none r.redemptions) ∙ collected_same _ _ r.redemptions (λ k. sym (and-false (is_name k.0 purse)) ∙ owned_as r.holders o false other found k.0)) i }

  -- the holder is one of the member
  pub row_taken : (o : Option Name) → is_of m o ≡ true → (r : Rows) → o ≡ fmap.get r.holders holder
      → record r { redemptions = remake (collected_where (λ k. is_name k.0 purse)) r.redemptions } ≡ record r { redemptions = remake (collected_where (λ k. is_owned r.holders m row k.0)) r.redemptions }
  row_taken o mine r found = λ i. record r { redemptions = collected_same _ _ r.redemptions (λ k. sym (and_true (is_name k.0 purse)) ∙ owned_as r.holders o true mine found k.0) i }

-- ---- the loop

abbrev pub collects_so_far : Name → List Row → Rows → Rows
collects_so_far m rows r = record r { redemptions = remake (collected_where (λ k. so_far r.holders m rows k.0)) r.redemptions }

pub none_so_far : (m : Name) (r : Rows) → r ≡ collects_so_far m [] r
none_so_far m r = λ i. record r { redemptions = sym (collected_none r.redemptions) i }

pub one_row_so_far : (m : Name) (rows : List Row) (at : ℕ) (row : Row) → at < length rows → row ≡ get_or rows at row → (r : Rows)
    → record r { redemptions = remake (collected_where (λ k. is_owned r.holders m row k.0)) (remake (collected_where (λ k. so_far r.holders m (take at rows) k.0)) r.redemptions) } ≡ collects_so_far m (take (at + 1) rows) r
one_row_so_far m rows at row within is r =
    let f : Name → Row → Bool = λ n row. is_owned r.holders m row n in
    let more : take at rows ++ row ∷ [] ≡ take (at + 1) rows = ap (λ r. take at rows ++ r ∷ []) is ∙ sym (take_more rows at row within) in
    let last : (n : Name) → (so_far r.holders m (take at rows) n || f n row) ≡ so_far r.holders m (take (at + 1) rows) n =
    λ n. grind (arith, list_any-append (f n) (take at rows) (row ∷ []), or-false (f n row), more) in
    λ i. record r { redemptions = (collected_twice (λ k. so_far r.holders m (take at rows) k.0) (λ k. f k.0 row) r.redemptions ∙ collected_same _ _ r.redemptions (λ k. last k.0)) i }

pub all_so_far : (m : Name) (rows items : List Row) (at : ℕ) → length rows ≤ at → rows ≡ items → (r : Rows) → IsPermutation (map owned_shown (fmap.entries r.purses)) items
    → collects_so_far m (take at rows) r ≡ record r { redemptions = remake (marked r.purses r.holders m) r.redemptions }
all_so_far m rows items at past is r same = λ i. record r { redemptions = collected_same _ _ r.redemptions (λ k. each k.0) i }
  where
    each : (n : Name) → so_far r.holders m (take at rows) n ≡ is_of m (member_at r.holders (fmap.get r.purses n))
    each n =
        let f : Row → Bool = λ row. is_owned r.holders m row n in
        ap (list_any f) (take_all at rows past ∙ is) ∙ sym (list_any-IsPermutation f _ _ same) ∙ any_mapped f owned_shown (fmap.entries r.purses)
        ∙ any_named (λ x. is_of m (fmap.get r.holders x.holder)) n r.purses ∙ member_there r.holders m (fmap.get r.purses n)

-- ---- one key after another

abbrev pub collects_among : List (Name × Name) → Rows → Rows
collects_among keys r = record r { redemptions = remake (collected_where (is_among keys)) r.redemptions }

pub among_more : (keys : List (Name × Name)) (at : ℕ) (key : Name × Name) → at < length keys → key ≡ get_or keys at key
    → (k : Name × Name) → (is_among (take at keys) k || eq_by_cmp (pair_cmp name_cmp name_cmp) k key) ≡ is_among (take (at + 1) keys) k
among_more keys at key within is k =
    let f : Name × Name → Bool = eq_by_cmp (pair_cmp name_cmp name_cmp) k in
    let more : take at keys ++ key ∷ [] ≡ take (at + 1) keys = ap (λ r. take at keys ++ r ∷ []) is ∙ sym (take_more keys at key within) in
    grind (arith, list_any-append f (take at keys) (key ∷ []), or-false (f key), more)

pub none_among : (r : Rows) → r ≡ collects_among [] r
none_among r = λ i. record r { redemptions = sym (collected_none r.redemptions) i }

pub one_among : (keys : List (Name × Name)) (at : ℕ) (key : Name × Name) → at < length keys → key ≡ get_or keys at key → (r : Rows)
    → record r { redemptions = remake (collected_where (λ k. eq_by_cmp (pair_cmp name_cmp name_cmp) k key)) (remake (collected_where (is_among (take at keys))) r.redemptions) }
    ≡ collects_among (take (at + 1) keys) r
one_among keys at key within is r =
    let next : Name × Name → Bool = λ k. eq_by_cmp (pair_cmp name_cmp name_cmp) k key in
    λ i. record r { redemptions = (collected_twice (is_among (take at keys)) next r.redemptions ∙ collected_same _ _ r.redemptions (among_more keys at key within is)) i }

-- ---- the query

abbrev pub select_owned : List ℕ
select_owned = codes "SELECT name, holder FROM purse"

pub select_owned_is : IsSelect select_owned 8 [] (col 1 1 ∷ col 1 2 ∷ []) [] (codes "name" ∷ codes "holder" ∷ [])
unfolding understood everything
select_owned_is = record { is = refl; query = record { plain = (refl, refl); silent = λ _ _. refl }; unlisted = refl }

pub finds_owned : (old new : State) (rows : List Row) → Shown select_owned [] old new rows → (r : Rows) → Holds old.now r
    → IsPermutation (map owned_shown (fmap.entries r.purses)) rows
finds_owned old new rows shown r h =
    subst (λ es. IsPermutation (map owned_shown es) rows) (filter_everything (fmap.entries r.purses))
    (answers purses select_owned _ _ _ select_owned_is [] (λ _. true) owned_shown (λ id e. refl) (λ id e. refl) old new rows shown r h)
