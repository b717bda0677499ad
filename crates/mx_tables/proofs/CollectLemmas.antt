-- The redemptions that aren't collected, by the index of them.
use Rattle.mx_tables.proofs.Common.{◌≡◌, ℕ, ◌+◌, ◌<◌, Bool, true, false, ◌&&◌, List, [], ◌∷◌, filter, take, length, refl, ◌∙◌, arith, Some, Option, None, AllByRecursion, Ordering, codes, eq_by_cmp, Row, col, Name, Rows, Holds, name_cmp, is_name, office_schema, option_map}
use Rattle.std.proofs.Common.{T, is_some, not, ◌||◌, if◌then◌else◌, map, get_or, sym, ap, subst, le_refl}
use Rattle.std.specs.Prelude.{filter_map, sum_by}
use Rattle.std.specs.List.{cons_option, list_any}
use Rattle.std.specs.Cmp.{IsTotalOrder}
use Rattle.std.specs.FinMap as fmap
use Rattle.std.specs.FinMap.{IsAntisymmetric}
use Rattle.std.specs.FinMap.Entries.{is_sorted}
use Rattle.std.specs.FinSet.{FinSet}
use Rattle.std.proofs.lemmas.List.Sums.{sum_by-cons}
use Rattle.std.proofs.lemmas.List.Sorted.{list_any-IsPermutation}
use Rattle.std.proofs.Math.Bool.{or-false}
use Rattle.sqlite.specs.Listing.{understood}
use Rattle.sqlite.specs.State.{State, Shown}
use Rattle.sqlite_tied.specs.Compute.{everything}
use Rattle.sqlite_trees.specs.Tree.{Trees}
use Rattle.mx_book.specs.Index.{IsIndex, is_met, stands}
use Rattle.mx_book.specs.RowEdits.{is_redeemed_of, marked, member_at}
use Rattle.mx_book.specs.RowReads.{row_uncollected_of}
use Rattle.mx_book.specs.Spells as book
use Rattle.mx_book.specs.Under.{pair_cmp, remake}
use Rattle.mx_book.specs.World.{World, is_of}
use Rattle.mx_book.specs.declared.values.Redemption.{Redemption}
use Rattle.mx_book.specs.declared.values.Scope.TheVariants.{Member}
use Rattle.mx_book.proofs.IndexLemmas.{has-added, has-dropped, is_key, keys_under}
use Rattle.mx_book.proofs.MapLemmas.{find_below}
use Rattle.mx_book.proofs.NameLemmas.{same_name}
use Rattle.mx_book.proofs.RowLemmas.{keys_exact, keys_total}
use Rattle.mx_book.proofs.UnderLemmas.{get-remake}
use Rattle.mx_memory.specs.Due.{amount_at, amount_due, due_cmp, is_due, owed}
use Rattle.mx_memory.proofs.DueLemmas.{collected_is, due_sum, tied_collected}
use Rattle.mx_pay.proofs.TestLemmas.{is_equal}
use Rattle.mx_sorted.specs.Blocks.{first_of, rows_from}
use Rattle.mx_tables.specs.Answers.{Displays}
use Rattle.mx_tables.specs.Cached.{IsDue, keys_due}
use Rattle.mx_tables.specs.Counted.{AreNames, collected_where, is_among, key_in, key_shown}
use Rattle.mx_tables.specs.States.{Accepts}
use Rattle.mx_tables.proofs.AddedLemmas.{rows_all}
use Rattle.mx_tables.proofs.CountedSums.{is_uncollected, uncollected_flag}
use Rattle.mx_tables.proofs.FaultLemmas.{IsWhole, select_accepted}
use Rattle.mx_tables.proofs.KeptLemmas as kept
use Rattle.mx_tables.proofs.LoadLemmas.{among_more}
use Rattle.mx_tables.proofs.MapLists.{any_mapped}
use Rattle.mx_tables.proofs.ReadLemmas.{answers}
use Rattle.mx_tables.proofs.SoundLemmas.{holders_there, purse_of, purses_named, redemption_sound}
use Rattle.mx_tables.proofs.StoredLemmas.{and_true, same_numbers}
use Rattle.mx_tables.proofs.Texts.{IsSelect}

abbrev Key : Type 0
Key = Name × Name

abbrev key_cmp : Key → Key → Ordering
key_cmp = pair_cmp name_cmp name_cmp

abbrev is_open : Redemption → Bool
is_open x = not x.collected

-- ---- the rows that pass a test, by a key

module _ {K V : Type 0} {R : K → K → Ordering} (o : IsTotalOrder R) (exact : IsAntisymmetric R) (test : K → V → Bool) (k : K) where
  any_sorted : (es : List (K × V)) → T (is_sorted R es) → list_any (λ e. eq_by_cmp R k e.0) (filter (λ (e : K × V). test e.0 e.1) es) ≡ is_met (test k) (fmap.find R k es)
  any_sorted [] h = refl
  any_sorted (e ∷ es) h = grind (arith, any_sorted es, find_below o k e.0 es, exact k e.0, or-false (test k e.1))

  any_entry : (m : fmap.FinMap R V) → list_any (λ e. eq_by_cmp R k e.0) (filter (λ (e : K × V). test e.0 e.1) (fmap.entries m)) ≡ is_met (test k) (fmap.get m k)
  any_entry m = any_sorted (fmap.entries m) (fmap.entries_sorted m) ∙ ap (is_met (test k)) (sym (fmap.get-entries m k))

-- ---- the keys under a member

-- the sum over the keys of rows
sum_keys : (f : Key → ℕ) (g : Option Key → ℕ) → g None ≡ 0 → ((k : Key) → g (Some k) ≡ f k) → (es : List ((Name × Option Key) × Unit {0}))
    → sum_by f (filter_map (λ (e : (Name × Option Key) × Unit {0}). e.0.1) es) ≡ sum_by (λ (e : (Name × Option Key) × Unit {0}). g e.0.1) es
sum_keys f g none some [] = refl
sum_keys f g none some (e ∷ es) = by_key e.0.1 (sum_keys f g none some es) ∙ sym (sum_by-cons (λ (e : (Name × Option Key) × Unit {0}). g e.0.1) e es)
  where
    rest : List Key
    rest = filter_map (λ (e : (Name × Option Key) × Unit {0}). e.0.1) es

    by_key : (q : Option Key) → sum_by f rest ≡ sum_by (λ (e : (Name × Option Key) × Unit {0}). g e.0.1) es → sum_by f (cons_option q rest) ≡ g q + sum_by (λ (e : (Name × Option Key) × Unit {0}). g e.0.1) es
    by_key None so = grind (arith, so, none)
    by_key (Some k) so = sum_by-cons f k rest ∙ grind (arith, so, some k)

module _ (r : Rows) (due : FinSet due_cmp) (is : IsDue r due) (m : Name) where
  abbrev passes : Key → Redemption → Bool
  passes k x = not x.collected && is_redeemed_of r.purses r.holders m k

  met_both : (k : Key) (o : Option Redemption) → (is_met is_open o && is_redeemed_of r.purses r.holders m k) ≡ is_met (passes k) o
  met_both k None = refl
  met_both k (Some x) = refl

  here : (k : Key) → fmap.contains_key due (m, Some k) ≡ is_met (passes k) (fmap.get r.redemptions k)
  here k = is.under m (Some k) ∙ met_both k (fmap.get r.redemptions k)

  among : (k : Key) → is_among (keys_due due m) k ≡ fmap.contains_key due (m, Some k)
  among k =
      ap (λ ks. is_among ks k) (keys_under keys_total keys_exact passes r.redemptions m due here)
      ∙ any_mapped (eq_by_cmp key_cmp k) (λ (e : Key × Redemption). e.0) (filter (λ (e : Key × Redemption). passes e.0 e.1) (fmap.entries r.redemptions))
      ∙ any_entry keys_total keys_exact passes k r.redemptions
      ∙ sym (here k)

  -- what they come to
  pub due_summed : sum_by (λ k. amount_at (fmap.get r.redemptions k)) (keys_due due m) ≡ row_uncollected_of r (Member m)
  due_summed =
      sum_keys (λ k. amount_at (fmap.get r.redemptions k)) (amount_due r.redemptions) refl (λ k. refl) (first_of m (rows_from due_cmp (m, None) (fmap.entries due)))
      ∙ due_sum r.purses r.holders r.redemptions due is m

  -- they are collected, and stand there no more
  module _ (left : FinSet due_cmp) (dropped : (n : Name) (q : Option Key) → fmap.contains_key left (n, q) ≡ (fmap.contains_key due (n, q) && not (is_name n m && stands (λ _. is_among (keys_due due m)) n q))) where
    abbrev collected : fmap.FinMap key_cmp Redemption
    collected = remake (collected_where (is_among (keys_due due m))) r.redemptions

    made : (k : Key) → fmap.get collected k ≡ option_map (λ (x : Redemption). record x { collected = x.collected || fmap.contains_key due (m, Some k) }) (fmap.get r.redemptions k)
    made k =
        get-remake key_cmp (collected_where (is_among (keys_due due m))) keys_exact r.redemptions k
        ∙ ap (λ b. option_map (λ (x : Redemption). record x { collected = x.collected || b }) (fmap.get r.redemptions k)) (among k)

    other : (n : Name) (k : Key) (b : Bool) → is_name n m ≡ b → (fmap.contains_key due (n, Some k) && not (b && is_among (keys_due due m) k)) ≡ (fmap.contains_key due (n, Some k) && not b)
    other n k true t = let e = ap (λ x. fmap.contains_key due (x, Some k)) (same_name n m t) in grind (arith, e, among k)
    other n k false t = refl

    gone : (n : Name) (q : Option Key) → fmap.contains_key left (n, q) ≡ (fmap.contains_key due (n, q) && not (is_name n m))
    gone n None = dropped n None ∙ grind (arith, is.under n None)
    gone n (Some k) = dropped n (Some k) ∙ other n k (is_name n m) refl

    pub collects_due : collected ≡ remake (marked r.purses r.holders m) r.redemptions
    collects_due = collected_is r.purses r.holders r.redemptions due is m collected left made gone

    pub due_collected : IsDue (record r { redemptions = remake (marked r.purses r.holders m) r.redemptions }) left
    due_collected = subst (λ x. IsDue (record r { redemptions = x }) left) collects_due (tied_collected r.purses r.holders r.redemptions due is m collected left made gone)

-- ---- keys that are taken out

-- what stands under a member, without these keys
abbrev pub IsWithout : FinSet due_cmp → FinSet due_cmp → Name → List Key → Type 0
IsWithout old new m keys = (n : Name) (q : Option Key) → fmap.contains_key new (n, q) ≡ (fmap.contains_key old (n, q) && not (is_name n m && stands (λ _. is_among keys) n q))

pub without_none : (due : FinSet due_cmp) (m : Name) → IsWithout due due m []
without_none due m n None = grind arith
without_none due m n (Some k) = grind arith

pub without_more : (old now new : FinSet due_cmp) (m : Name) (keys : List Key) (at : ℕ) (key : Key) → at < length keys → key ≡ get_or keys at key
    → new ≡ fmap.remove now (m, Some key) → IsWithout old now m (take at keys) → IsWithout old new m (take (at + 1) keys)
without_more old now new m keys at key within is left before n None =
    ap (λ s. fmap.contains_key s (n, None)) left ∙ has-dropped key_cmp keys_total now n m None key ∙ grind (arith, before n None)
without_more old now new m keys at key within is left before n (Some k) =
    ap (λ s. fmap.contains_key s (n, Some k)) left ∙ has-dropped key_cmp keys_total now n m (Some k) key ∙ grind (arith, before n (Some k), among_more keys at key within is k)

-- ---- the index is made

-- the index tells those of these keys that are of each member
abbrev pub Tells : Rows → List Key → FinSet due_cmp → Type 0
Tells r keys due = IsIndex key_cmp (λ n k. is_among keys k && is_redeemed_of r.purses r.holders n k) due

pub tells_none : (r : Rows) (due : FinSet due_cmp) → due ≡ fmap.empty → Tells r [] due
tells_none r due none n None = ap (λ s. fmap.contains_key s (n, None)) none ∙ ap is_some (fmap.get-empty due_cmp (n, None))
tells_none r due none n (Some k) = ap (λ s. fmap.contains_key s (n, Some k)) none ∙ ap is_some (fmap.get-empty due_cmp (n, Some k))

has_owed : (due : FinSet due_cmp) (o : Option Name) (k : Key) (n : Name) (q : Option Key) → fmap.contains_key (owed due o k) (n, q) ≡ ((is_of n o && is_key key_cmp q k) || fmap.contains_key due (n, q))
has_owed due None k n q = refl
has_owed due (Some m) k n q = has-added key_cmp keys_total due n m q k

module _ (r : Rows) (keys : List Key) (at : ℕ) (key : Key) (within : at < length keys) (is : key ≡ get_or keys at key) (now : FinSet due_cmp) (before : Tells r (take at keys) now) where
  owed_now : (n : Name) (k : Key) (b : Bool) → eq_by_cmp key_cmp k key ≡ b → ((is_redeemed_of r.purses r.holders n key && b) || (is_among (take at keys) k && is_redeemed_of r.purses r.holders n k)) ≡ ((is_among (take at keys) k || b) && is_redeemed_of r.purses r.holders n k)
  owed_now n k true t = let e = ap (is_redeemed_of r.purses r.holders n) (keys_exact k key (is_equal _ t)) in grind (arith, e)
  owed_now n k false t = grind arith

  pub tells_more : (new : FinSet due_cmp) → new ≡ owed now (member_at r.holders (fmap.get r.purses key.0)) key → Tells r (take (at + 1) keys) new
  tells_more new put n None = ap (λ s. fmap.contains_key s (n, None)) put ∙ has_owed now _ key n None ∙ grind (arith, before n None)
  tells_more new put n (Some k) =
      ap (λ s. fmap.contains_key s (n, Some k)) put ∙ has_owed now _ key n (Some k)
      ∙ ap (λ b. (is_redeemed_of r.purses r.holders n key && eq_by_cmp key_cmp k key) || b) (before n (Some k))
      ∙ owed_now n k (eq_by_cmp key_cmp k key) refl
      ∙ ap (λ b. b && is_redeemed_of r.purses r.holders n k) (among_more keys at key within is k)

-- ---- the query

abbrev pub select_due : List ℕ
select_due = codes "SELECT purse, reference FROM redemption WHERE collected = 0"

pub select_due_is : IsSelect select_due 20 (is_uncollected ∷ []) (col 1 1 ∷ col 1 2 ∷ []) [] (codes "purse" ∷ codes "reference" ∷ [])
unfolding understood everything
select_due_is = record { is = refl; query = record { plain = (refl, refl); silent = λ _ _. refl }; unlisted = refl }

due_whole : IsWhole select_due 0 (understood office_schema select_due)
unfolding understood everything
due_whole = (le_refl _, refl)

pub due_accepted : (db : Trees) → Accepts select_due [] db
due_accepted db = select_accepted _ _ _ _ [] _ select_due_is [] db due_whole (λ h. cc)

module _ (old new : State) (rows : List Row) (shown : Shown select_due [] old new rows) (r : Rows) (holds : Holds old.now r) where
  -- the keys that it shows are those of the redemptions that aren't collected
  pub due_asked : (k : Key) → is_among (map key_in rows) k ≡ is_met is_open (fmap.get r.redemptions k)
  due_asked k =
      let all = answers kept.redemptions select_due _ _ _ select_due_is [] (λ e. not e.1.collected) (λ e. key_shown e.0)
      (λ id e. and_true _ ∙ same_numbers (if e.1.collected then 1 else 0) 0 ∙ uncollected_flag e.1.collected) (λ id e. refl) old new rows shown r holds in
      any_mapped (eq_by_cmp key_cmp k) key_in rows
      ∙ sym (list_any-IsPermutation (λ row. eq_by_cmp key_cmp k (key_in row)) _ _ all)
      ∙ any_mapped (λ row. eq_by_cmp key_cmp k (key_in row)) (λ (e : Key × Redemption). key_shown e.0) _
      ∙ any_entry keys_total keys_exact (λ k x. is_open x) k r.redemptions

  module _ (w : World) (s : book.Spells r w) where
    -- both are names
    pub due_shown : AllByRecursion (Displays AreNames key_shown) rows
    due_shown =
        rows_all kept.redemptions (Displays AreNames key_shown) _ _ _ _ select_due_is (λ e. not e.1.collected) (λ e. key_shown e.0)
        (λ id e. and_true _ ∙ same_numbers (if e.1.collected then 1 else 0) 0 ∙ uncollected_flag e.1.collected) (λ id e. refl) old new rows shown r holds
        (λ k x at.
        let y = purse_of r w s name_cmp r.redemptions s.spelled.proper.redemptions k x at in
        (k, (purses_named r w s k.0 y.0 y.1, (redemption_sound r w s k x at).0), (refl, (refl, tt))))

-- the index of all keys that aren't collected is that of what is due
pub due_listed : (r : Rows) (w : World) → book.Spells r w → (keys : List Key) → ((k : Key) → is_among keys k ≡ is_met is_open (fmap.get r.redemptions k)) → (due : FinSet due_cmp) → Tells r keys due → IsDue r due
due_listed r w s keys each due tells = record {
  under = under;
  known = holders_there r w s;
  proper = s.spelled.proper.redemptions;
}
  where
    under : IsIndex key_cmp (is_due r.purses r.holders r.redemptions) due
    under n None = tells n None
    under n (Some k) = tells n (Some k) ∙ ap (λ b. b && is_redeemed_of r.purses r.holders n k) (each k)
