-- The index of the redemptions that members haven't collected yet, after each edit.
use Rattle.std.proofs.Common.{◌≡◌, ℕ, ◌+◌, ◌-◌, ◌<◌, zero, suc, take, subst, Bool, true, false, not, cond, ◌&&◌, ◌||◌, List, [], ◌∷◌, map, refl, sym, ◌∙◌, ap, Option, Some, None, IsSome, is_some, arith}
use mathlib.Core.Bool.{true≢false}
use Rattle.std.specs.Prelude.{option_map, filter, filter_map, sum_by}
use Rattle.std.specs.List.{cons_option, prefix_len}
use Rattle.std.proofs.lemmas.List.Sums.{sum_by-cons}
use Rattle.std.specs.Ordering.{eq_by_cmp}
use Rattle.std.specs.Cmp.{eq_by_cmp_equiv}
use Rattle.std.specs.FinMap as fmap
use Rattle.std.specs.FinSet.{FinSet}
use Rattle.mx_pay.specs.Names.{name_cmp, is_name}
use Rattle.mx_pay.proofs.TestLemmas.{is_equal}
use Rattle.mx_book.specs.declared.values.PurseRow.{PurseRow}
use Rattle.mx_book.specs.declared.values.Redemption.{Redemption}
use Rattle.mx_sorted.specs.Blocks.{rows_from, first_of}
use Rattle.mx_memory.specs.Due.{due_cmp, is_due, IsTied, owed, amount_at, amount_due}
use Rattle.mx_book.specs.Index.{stands, is_met}
use Rattle.mx_book.specs.RowEdits.{member_at, marked, is_redeemed_of}
use Rattle.mx_book.specs.RowReads.{counted_of, uncollected_amount}
use Rattle.mx_book.specs.Sums.{sum_entries}
use Rattle.mx_book.specs.declared.values.Scope.TheVariants.{Member}
use Rattle.mx_book.specs.Under.{pair_cmp, remake}
use Rattle.mx_book.specs.World.{Name, is_of}
use Rattle.mx_book.proofs.FoundLemmas.{still_some, each_inserted, none_found}
use Rattle.mx_book.proofs.IndexLemmas.{keys_under, is_key, index_total, has-added, has-dropped}
use Rattle.mx_book.proofs.SumLemmas.{total, total_is, total_entries}
use Rattle.mx_book.proofs.NameLemmas.{names_total, same_name, name_itself}
use Rattle.mx_book.proofs.RowLemmas.{keys_total, keys_exact, NoStray-insert, NoStray-purse}
use Rattle.mx_book.proofs.UnderLemmas.{get-remake}

abbrev Held : Type 0
Held = fmap.FinMap name_cmp PurseRow

abbrev Members : Type 0
Members = fmap.FinMap name_cmp Name

abbrev Redeemed : Type 0
Redeemed = fmap.FinMap (pair_cmp name_cmp name_cmp) Redemption

same_key : (j k : Name × Name) → eq_by_cmp (pair_cmp name_cmp name_cmp) j k ≡ true → j ≡ k
same_key j k t = keys_exact j k (is_equal _ t)

abbrev is_open : Redemption → Bool
is_open x = not x.collected

-- ---- one redemption under a member

has-owed : (due : FinSet due_cmp) (o : Option Name) (k : Name × Name) (n : Name) (q : Option (Name × Name)) → fmap.contains_key (owed due o k) (n, q) ≡ ((is_of n o && is_key (pair_cmp name_cmp name_cmp) q k) || fmap.contains_key due (n, q))
has-owed due None k n q = refl
has-owed due (Some m) k n q = has-added (pair_cmp name_cmp name_cmp) keys_total due n m q k

-- a purse has one member
both_members : (n m : Name) (o : Option Name) → (is_of n o && not (is_of m o)) ≡ (is_of n o && not (is_name n m))
both_members n m None = refl
both_members n m (Some c) = grind (arith, same_name n c, (eq_by_cmp_equiv names_total).symm m n)

-- ---- the same of maps that are as they are wanted

pub tied_as : {purses held : Held} {holders members : Members} {redemptions redeemed : Redeemed} {due left : FinSet due_cmp} → held ≡ purses → members ≡ holders → redeemed ≡ redemptions → left ≡ due → IsTied purses holders redemptions due → IsTied held members redeemed left
tied_as a b c d is = subst (λ (x : Held × Members × Redeemed × FinSet due_cmp). IsTied x.0 x.1 x.2 x.3) (λ i. (sym a i, sym b i, sym c i, sym d i)) is

pub tied_new : IsTied fmap.empty fmap.empty fmap.empty fmap.empty
tied_new = record {
  under = none_due;
  known = λ p x at. none_found _ x (fmap.get-empty name_cmp p) at;
  proper = λ p ref none. fmap.get-empty (pair_cmp name_cmp name_cmp) (p, ref);
}
  where
    none_due : (n : Name) (q : Option (Name × Name)) → fmap.contains_key (fmap.empty {X = Unit {0}} {R = due_cmp}) (n, q) ≡ stands (is_due fmap.empty fmap.empty fmap.empty) n q
    none_due n None = ap is_some (fmap.get-empty due_cmp (n, None))
    none_due n (Some k) = ap is_some (fmap.get-empty due_cmp (n, Some k)) ∙ sym (ap (λ o. is_met is_open o && is_redeemed_of fmap.empty fmap.empty n k) (fmap.get-empty (pair_cmp name_cmp name_cmp) k))

-- what a test of an edit says
pub not_but : (a b : Bool) → (not a && b) ≡ true → (a ≡ false) × (b ≡ true)
not_but true b e = absurd (cc)
not_but false b e = (refl, e)

-- ---- what each write leaves

module _ (purses : Held) (holders : Members) (redemptions : Redeemed) (due : FinSet due_cmp) (is : IsTied purses holders redemptions due) where
  -- the test of a key depends on the member of its purse and on the redemption alone
  due_as : (purses' : Held) (holders' : Members) (redemptions' : Redeemed) → ((n : Name) (k : Name × Name) → is_due purses holders redemptions n k ≡ is_due purses' holders' redemptions' n k) → (n : Name) (q : Option (Name × Name)) → fmap.contains_key due (n, q) ≡ stands (is_due purses' holders' redemptions') n q
  due_as purses' holders' redemptions' same n None = is.under n None
  due_as purses' holders' redemptions' same n (Some k) = is.under n (Some k) ∙ same n k

  member_as_before : (g m : Name) → fmap.contains_key holders g ≡ false → (p : Name) (o : Option PurseRow) → fmap.get purses p ≡ o → member_at (fmap.insert holders g m) o ≡ member_at holders o
  member_as_before g m new p None at = refl
  member_as_before g m new p (Some x) at = grind (arith, fmap.get-insert names_total holders g m x.holder, same_name x.holder g, is.known p x at, new)

  -- a new holder has no purse yet
  pub tied_holder : (g m : Name) → fmap.contains_key holders g ≡ false → IsTied purses (fmap.insert holders g m) redemptions due
  tied_holder g m new = record {
    under = due_as purses (fmap.insert holders g m) redemptions (λ n k. ap (λ o. is_met is_open (fmap.get redemptions k) && is_of n o) (sym (member_as_before g m new k.0 (fmap.get purses k.0) refl)));
    known = λ p x at. still_some holders g m x.holder (is.known p x at);
    proper = is.proper;
  }

  none_yet : (p : Name) (x : PurseRow) → fmap.get purses p ≡ None → (n : Name) (k : Name × Name) → is_due purses holders redemptions n k ≡ is_due (fmap.insert purses p x) holders redemptions n k
  none_yet p x new n k = by_case (is_name k.0 p) refl
    where
      by_case : (b : Bool) → is_name k.0 p ≡ b → is_due purses holders redemptions n k ≡ is_due (fmap.insert purses p x) holders redemptions n k
      by_case true here =
          let none = is.proper k.0 k.1 (ap (fmap.get purses) (same_name k.0 p here) ∙ new) in
          ap (λ o. is_met is_open o && is_redeemed_of purses holders n k) none ∙ sym (ap (λ o. is_met is_open o && is_redeemed_of (fmap.insert purses p x) holders n k) none)
      by_case false here = ap (λ o. is_met is_open (fmap.get redemptions k) && is_of n (member_at holders o)) (sym (fmap.get-insert names_total purses p x k.0 ∙ ap (λ b. cond b (Some x) (fmap.get purses k.0)) here))

  -- a new purse has no redemption yet
  pub tied_purse : (p : Name) (x : PurseRow) → fmap.get purses p ≡ None → IsSome (fmap.get holders x.holder) → IsTied (fmap.insert purses p x) holders redemptions due
  tied_purse p x new there = record {
    under = due_as (fmap.insert purses p x) holders redemptions (none_yet p x new);
    known = each_inserted purses p x (λ q y. IsSome (fmap.get holders y.holder)) there is.known;
    proper = NoStray-purse name_cmp names_total purses redemptions is.proper p x;
  }

  same_member : (p : Name) (x y : PurseRow) → fmap.get purses p ≡ Some y → x.holder ≡ y.holder → (q : Name) → member_at holders (fmap.get purses q) ≡ member_at holders (fmap.get (fmap.insert purses p x) q)
  same_member p x y at same q = by_case (is_name q p) refl
    where
      after : (b : Bool) → is_name q p ≡ b → fmap.get (fmap.insert purses p x) q ≡ cond b (Some x) (fmap.get purses q)
      after b e = fmap.get-insert names_total purses p x q ∙ ap (λ b. cond b (Some x) (fmap.get purses q)) e

      by_case : (b : Bool) → is_name q p ≡ b → member_at holders (fmap.get purses q) ≡ member_at holders (fmap.get (fmap.insert purses p x) q)
      by_case true here = ap (member_at holders) (ap (fmap.get purses) (same_name q p here) ∙ at) ∙ ap (fmap.get holders) (sym same) ∙ sym (ap (member_at holders) (after true here))
      by_case false here = sym (ap (member_at holders) (after false here))

  -- a purse with another row of the same holder
  pub tied_set : (p : Name) (x y : PurseRow) → fmap.get purses p ≡ Some y → x.holder ≡ y.holder → IsTied (fmap.insert purses p x) holders redemptions due
  tied_set p x y at same = record {
    under = due_as (fmap.insert purses p x) holders redemptions (λ n k. ap (λ o. is_met is_open (fmap.get redemptions k) && is_of n o) (same_member p x y at same k.0));
    known = each_inserted purses p x (λ q z. IsSome (fmap.get holders z.holder)) (ap (λ h. is_some (fmap.get holders h)) same ∙ is.known p y at) is.known;
    proper = NoStray-purse name_cmp names_total purses redemptions is.proper p x;
  }

  -- a redemption of a purse that is there
  module _ (k : Name × Name) (x : Redemption) (fresh : x.collected ≡ false) where
    abbrev redeemed : Redeemed
    redeemed = fmap.insert redemptions k x

    abbrev owing : FinSet due_cmp
    owing = owed due (member_at holders (fmap.get purses k.0)) k

    due_now : (n : Name) (j : Name × Name) (b : Bool) → eq_by_cmp (pair_cmp name_cmp name_cmp) j k ≡ b → ((is_redeemed_of purses holders n k && b) || is_due purses holders redemptions n j) ≡ is_due purses holders redeemed n j
    due_now n j true here =
        let e : j ≡ k = same_key j k here in
        let at : fmap.get redeemed j ≡ Some x = fmap.get-insert keys_total redemptions k x j ∙ ap (λ b. cond b (Some x) (fmap.get redemptions j)) here in
        let member : is_redeemed_of purses holders n j ≡ is_redeemed_of purses holders n k = ap (is_redeemed_of purses holders n) e in
        grind (arith, at, member, fresh)
    due_now n j false here = grind (arith, fmap.get-insert keys_total redemptions k x j, here)

    due_redeemed : (n : Name) (q : Option (Name × Name)) → fmap.contains_key owing (n, q) ≡ stands (is_due purses holders redeemed) n q
    due_redeemed n None = has-owed due (member_at holders (fmap.get purses k.0)) k n None ∙ grind (arith, is.under n None)
    due_redeemed n (Some j) = has-owed due (member_at holders (fmap.get purses k.0)) k n (Some j) ∙ ap (λ b. (is_redeemed_of purses holders n k && eq_by_cmp (pair_cmp name_cmp name_cmp) j k) || b) (is.under n (Some j)) ∙ due_now n j (eq_by_cmp (pair_cmp name_cmp name_cmp) j k) refl

    pub tied_redemption : (y : PurseRow) → fmap.get purses k.0 ≡ Some y → IsTied purses holders redeemed owing
    tied_redemption y at = record {
      under = due_redeemed;
      known = is.known;
      proper = NoStray-insert name_cmp names_total purses redemptions is.proper k.0 k.1 x y at;
    }

  -- all redemptions of a member are collected
  module _ (m : Name) (redeemed : Redeemed) (left : FinSet due_cmp)
      (made : (k : Name × Name) → fmap.get redeemed k ≡ option_map (λ (x : Redemption). record x { collected = x.collected || fmap.contains_key due (m, Some k) }) (fmap.get redemptions k))
      (gone : (n : Name) (q : Option (Name × Name)) → fmap.contains_key left (n, q) ≡ (fmap.contains_key due (n, q) && not (is_name n m))) where
    mark_case : (k : Name × Name) (o : Option Redemption) → fmap.get redemptions k ≡ o → option_map (λ (x : Redemption). record x { collected = x.collected || fmap.contains_key due (m, Some k) }) o ≡ option_map (marked purses holders m k) o
    mark_case k None at = refl
    mark_case k (Some x) at = ap (λ b. Some (record x { collected = b })) (grind (arith, is.under m (Some k), at))

    pub collected_is : redeemed ≡ remake (marked purses holders m) redemptions
    collected_is = fmap.same_map keys_total keys_exact _ _ (λ k. made k ∙ mark_case k (fmap.get redemptions k) refl ∙ sym (get-remake (pair_cmp name_cmp name_cmp) (marked purses holders m) keys_exact redemptions k))

    left_case : (n : Name) (k : Name × Name) (o : Option Redemption) → fmap.get redemptions k ≡ o → ((is_met is_open o && is_redeemed_of purses holders n k) && not (is_name n m)) ≡ (is_met is_open (option_map (λ (x : Redemption). record x { collected = x.collected || fmap.contains_key due (m, Some k) }) o) && is_redeemed_of purses holders n k)
    left_case n k None at = refl
    left_case n k (Some x) at = grind (arith, is.under m (Some k), at, both_members n m (member_at holders (fmap.get purses k.0)))

    pub tied_collected : IsTied purses holders redeemed left
    tied_collected = record {
      under = due_left;
      known = is.known;
      proper = λ p ref none. made (p, ref) ∙ ap (option_map (λ (x : Redemption). record x { collected = x.collected || fmap.contains_key due (m, Some (p, ref)) })) (is.proper p ref none);
    }
      where
        due_left : (n : Name) (q : Option (Name × Name)) → fmap.contains_key left (n, q) ≡ stands (is_due purses holders redeemed) n q
        due_left n None = gone n None ∙ grind (arith, is.under n None)
        due_left n (Some k) = gone n (Some k) ∙ ap (λ b. b && not (is_name n m)) (is.under n (Some k)) ∙ grind (arith, left_case n k (fmap.get redemptions k) refl, made k)

-- ---- one redemption after another

module _ (first old : FinSet due_cmp) (m : Name) (key : Name × Name) where
  has-taken : (n : Name) (q : Option (Name × Name)) → fmap.contains_key (fmap.remove old (m, Some key)) (n, q) ≡ (fmap.contains_key old (n, q) && not (is_name n m && is_key (pair_cmp name_cmp name_cmp) q key))
  has-taken n q = has-dropped (pair_cmp name_cmp name_cmp) keys_total old n m q key

  -- what was under the member and isn't any more
  abbrev taken : FinSet due_cmp → Name × Name → Bool
  taken now k = fmap.contains_key first (m, Some k) && not (fmap.contains_key now (m, Some k))

  pub taken_more : fmap.contains_key old (m, Some key) ≡ true → fmap.contains_key first (m, Some key) ≡ true → (k : Name × Name) → (taken old k || eq_by_cmp (pair_cmp name_cmp name_cmp) k key) ≡ taken (fmap.remove old (m, Some key)) k
  taken_more there was k = by_case (eq_by_cmp (pair_cmp name_cmp name_cmp) k key) refl
    where
      by_case : (b : Bool) → eq_by_cmp (pair_cmp name_cmp name_cmp) k key ≡ b → (taken old k || b) ≡ taken (fmap.remove old (m, Some key)) k
      by_case true here = grind (arith, has-taken m (Some k), here, name_itself m, ap (λ j. fmap.contains_key first (m, Some j)) (same_key k key here), was)
      by_case false here = grind (arith, has-taken m (Some k), here)

  pub still_sub : ((n : Name) (q : Option (Name × Name)) → fmap.contains_key old (n, q) ≡ true → fmap.contains_key first (n, q) ≡ true) → (n : Name) (q : Option (Name × Name)) → fmap.contains_key (fmap.remove old (m, Some key)) (n, q) ≡ true → fmap.contains_key first (n, q) ≡ true
  still_sub sub n q there = sub n q (grind (arith, has-taken n q, there))

  pub still_other : ((n : Name) (q : Option (Name × Name)) → is_name n m ≡ false → fmap.contains_key old (n, q) ≡ fmap.contains_key first (n, q)) → (n : Name) (q : Option (Name × Name)) → is_name n m ≡ false → fmap.contains_key (fmap.remove old (m, Some key)) (n, q) ≡ fmap.contains_key first (n, q)
  still_other same n q other = grind (arith, has-taken n q, same n q other, other)

  pub fewer : fmap.contains_key old (m, Some key) ≡ true → fmap.len (fmap.remove old (m, Some key)) < fmap.len old
  fewer there =
      let some = some_left (fmap.len old) refl in
      let less = fmap.len-remove (index_total (pair_cmp name_cmp name_cmp) keys_total) old (m, Some key) ∙ ap (λ b. cond b (fmap.len old - 1) (fmap.len old)) there in
      omega (arith, some, less)
    where
      some_left : (n : ℕ) → fmap.len old ≡ n → 0 < n
      some_left zero e = absurd (true≢false (sym there ∙ ap (λ s. fmap.contains_key s (m, Some key)) (fmap.empty_of_len old e) ∙ ap is_some (fmap.get-empty due_cmp (m, Some key))))
      some_left (suc n) e = omega arith

  mark_twice : (a b : Bool) (o : Option Redemption) → option_map (λ (x : Redemption). record x { collected = x.collected || b }) (option_map (λ (x : Redemption). record x { collected = x.collected || a }) o) ≡ option_map (λ (x : Redemption). record x { collected = x.collected || (a || b) }) o
  mark_twice a b None = refl
  mark_twice a b (Some x) = ap (λ c. Some (record x { collected = c })) (grind arith)

  pub made_more : (was now done : Redeemed) (left : FinSet due_cmp)
      → ((k : Name × Name) → fmap.get done k ≡ option_map (λ (x : Redemption). record x { collected = x.collected || eq_by_cmp (pair_cmp name_cmp name_cmp) k key }) (fmap.get now k))
      → ((k : Name × Name) → fmap.get now k ≡ option_map (λ (x : Redemption). record x { collected = x.collected || taken old k }) (fmap.get was k))
      → fmap.contains_key old (m, Some key) ≡ true → fmap.contains_key first (m, Some key) ≡ true → left ≡ fmap.remove old (m, Some key)
      → (k : Name × Name) → fmap.get done k ≡ option_map (λ (x : Redemption). record x { collected = x.collected || taken left k }) (fmap.get was k)
  made_more was now done left step before there listed is k =
      step k ∙ ap (option_map (λ (x : Redemption). record x { collected = x.collected || eq_by_cmp (pair_cmp name_cmp name_cmp) k key })) (before k)
      ∙ mark_twice (taken old k) (eq_by_cmp (pair_cmp name_cmp name_cmp) k key) (fmap.get was k)
      ∙ ap (λ b. option_map (λ (x : Redemption). record x { collected = x.collected || b }) (fmap.get was k)) (taken_more there listed k ∙ ap (λ s. taken s k) (sym is))

pub taken_all : (b l : Bool) → l ≡ false → (b && not l) ≡ b
taken_all b l e = grind (arith, e)

-- none is left under the member
pub all_gone : (first last : FinSet due_cmp) (m : Name) → ((n : Name) (q : Option (Name × Name)) → fmap.contains_key last (n, q) ≡ true → fmap.contains_key first (n, q) ≡ true)
    → ((n : Name) (q : Option (Name × Name)) → is_name n m ≡ false → fmap.contains_key last (n, q) ≡ fmap.contains_key first (n, q))
    → ((k : Name × Name) → fmap.contains_key last (m, Some k) ≡ false) → fmap.contains_key first (m, None) ≡ false
    → (n : Name) (q : Option (Name × Name)) → fmap.contains_key last (n, q) ≡ (fmap.contains_key first (n, q) && not (is_name n m))
all_gone first last m sub other none keys n q = by_case (is_name n m) refl
  where
    under_it : (q : Option (Name × Name)) → fmap.contains_key last (m, q) ≡ false
    under_it None = grind (arith, sub m None, keys)
    under_it (Some k) = none k

    by_case : (b : Bool) → is_name n m ≡ b → fmap.contains_key last (n, q) ≡ (fmap.contains_key first (n, q) && not (is_name n m))
    by_case true here = ap (λ x. fmap.contains_key last (x, q)) (same_name n m here) ∙ under_it q ∙ grind (arith, here)
    by_case false here = other n q here ∙ grind (arith, here)

-- one redemption is marked, where it is there
module _ (redemptions : Redeemed) (key : Name × Name) where
  mark_none : (o : Option Redemption) → option_map (λ (x : Redemption). record x { collected = x.collected || false }) o ≡ o
  mark_none None = refl
  mark_none (Some x) = ap (λ c. Some (record x { collected = c })) (grind arith)

  pub marked_one : (x : Redemption) → fmap.get redemptions key ≡ Some x → (k : Name × Name) → fmap.get (fmap.insert redemptions key (record x { collected = true })) k ≡ option_map (λ (y : Redemption). record y { collected = y.collected || eq_by_cmp (pair_cmp name_cmp name_cmp) k key }) (fmap.get redemptions k)
  marked_one x at k = fmap.get-insert keys_total redemptions key (record x { collected = true }) k ∙ by_case (eq_by_cmp (pair_cmp name_cmp name_cmp) k key) refl
    where
      by_case : (b : Bool) → eq_by_cmp (pair_cmp name_cmp name_cmp) k key ≡ b → cond b (Some (record x { collected = true })) (fmap.get redemptions k) ≡ option_map (λ (y : Redemption). record y { collected = y.collected || b }) (fmap.get redemptions k)
      by_case true here = sym (ap (option_map (λ (y : Redemption). record y { collected = y.collected || true })) (ap (fmap.get redemptions) (same_key k key here) ∙ at) ∙ ap (λ c. Some (record x { collected = c })) (grind arith))
      by_case false here = sym (mark_none (fmap.get redemptions k))

  pub marked_none : fmap.get redemptions key ≡ None → (k : Name × Name) → fmap.get redemptions k ≡ option_map (λ (y : Redemption). record y { collected = y.collected || eq_by_cmp (pair_cmp name_cmp name_cmp) k key }) (fmap.get redemptions k)
  marked_none at k = by_case (eq_by_cmp (pair_cmp name_cmp name_cmp) k key) refl
    where
      by_case : (b : Bool) → eq_by_cmp (pair_cmp name_cmp name_cmp) k key ≡ b → fmap.get redemptions k ≡ option_map (λ (y : Redemption). record y { collected = y.collected || b }) (fmap.get redemptions k)
      by_case true here = let none = ap (fmap.get redemptions) (same_key k key here) ∙ at in none ∙ sym (ap (option_map (λ (y : Redemption). record y { collected = y.collected || true })) none)
      by_case false here = sym (mark_none (fmap.get redemptions k))

-- ---- what they come to

-- the sum over the rows of a member at the front
module _ {K V : Type 0} (f : (Name × K) × V → ℕ) (m : Name) where
  pub sum_more : (e : (Name × K) × V) (es : List ((Name × K) × V)) → is_name m e.0.0 ≡ true → sum_by f (first_of m (e ∷ es)) ≡ f e + sum_by f (first_of m es)
  sum_more e es here =
      let k : ℕ = prefix_len (λ (x : (Name × K) × V). is_name m x.0.0) es in
      ap (λ b. sum_by f (take (cond b (1 + k) 0) (e ∷ es))) here
      ∙ ap (λ i. sum_by f (take i (e ∷ es))) (let step : 1 + k ≡ suc k = omega arith in step)
      ∙ sum_by-cons f e (take k es)

  pub sum_end : (e : (Name × K) × V) (es : List ((Name × K) × V)) → is_name m e.0.0 ≡ false → sum_by f (first_of m (e ∷ es)) ≡ 0
  sum_end e es other = ap (λ b. sum_by f (take (cond b (1 + prefix_len (λ (x : (Name × K) × V). is_name m x.0.0) es) 0) (e ∷ es))) other

total_keyed : {V : Type 0} (redemptions : Redeemed) (es : List ((Name × Option (Name × Name)) × V)) → total (λ (e : (Name × Option (Name × Name)) × V). amount_due redemptions e.0.1) es ≡ total (λ k. amount_at (fmap.get redemptions k)) (filter_map (λ (e : (Name × Option (Name × Name)) × V). e.0.1) es)
total_keyed redemptions [] = refl
total_keyed {V} redemptions (e ∷ es) = by_key e.0.1 (total_keyed redemptions es)
  where
    by_key : (q : Option (Name × Name)) → total (λ (e : (Name × Option (Name × Name)) × V). amount_due redemptions e.0.1) es ≡ total (λ k. amount_at (fmap.get redemptions k)) (filter_map (λ (e : (Name × Option (Name × Name)) × V). e.0.1) es) → amount_due redemptions q + total (λ (e : (Name × Option (Name × Name)) × V). amount_due redemptions e.0.1) es ≡ total (λ k. amount_at (fmap.get redemptions k)) (cons_option q (filter_map (λ (e : (Name × Option (Name × Name)) × V). e.0.1) es))
    by_key None rest = omega (arith, rest)
    by_key (Some k) rest = ap (λ n. amount_at (fmap.get redemptions k) + n) rest

total_passed : {X Y : Type 0} (g : X → ℕ) (h : Y → X) (test : Y → Bool) (es : List Y) → total g (map h (filter test es)) ≡ total (λ e. cond (test e) (g (h e)) 0) es
total_passed g h test [] = refl
total_passed g h test (e ∷ es) = grind (arith, total_passed g h test es)

module _ (purses : Held) (holders : Members) (redemptions : Redeemed) (due : FinSet due_cmp) (is : IsTied purses holders redemptions due) (m : Name) where
  abbrev passes : Name × Name → Redemption → Bool
  passes k x = not x.collected && is_redeemed_of purses holders m k

  met_both : (k : Name × Name) (o : Option Redemption) → (is_met is_open o && is_redeemed_of purses holders m k) ≡ is_met (passes k) o
  met_both k None = refl
  met_both k (Some x) = refl

  abbrev under_member : List ((Name × Option (Name × Name)) × Unit {0})
  under_member = first_of m (rows_from due_cmp (m, None) (fmap.entries due))

  abbrev counted_amount : Name × Name → Redemption → ℕ
  counted_amount = counted_of purses holders (Member m) uncollected_amount

  same_amount : (k : Name × Name) (x : Redemption) → fmap.get redemptions k ≡ Some x → cond (passes k x) (amount_at (fmap.get redemptions k)) 0 ≡ counted_amount k x
  same_amount k x at = grind (arith, at)

  pub due_sum : sum_by (λ (e : (Name × Option (Name × Name)) × Unit {0}). amount_due redemptions e.0.1) under_member ≡ sum_entries counted_amount redemptions
  unfolding sum_entries
  due_sum =
      total_is _ under_member
      ∙ total_keyed redemptions under_member
      ∙ ap (total (λ k. amount_at (fmap.get redemptions k))) (keys_under keys_total keys_exact passes redemptions m due (λ k. is.under m (Some k) ∙ met_both k (fmap.get redemptions k)))
      ∙ total_passed (λ k. amount_at (fmap.get redemptions k)) (λ (e : (Name × Name) × Redemption). e.0) (λ e. passes e.0 e.1) (fmap.entries redemptions)
      ∙ total_entries keys_total (λ k x. cond (passes k x) (amount_at (fmap.get redemptions k)) 0) counted_amount redemptions same_amount
      ∙ sym (total_is (λ (e : (Name × Name) × Redemption). counted_amount e.0 e.1) (fmap.entries redemptions))
