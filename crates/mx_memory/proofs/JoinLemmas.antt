-- The rows of purses whose logs stand in a table of their own.
use Rattle.std.proofs.Common.{◌≡◌, ℕ, Bool, true, false, cond, List, [], ◌∷◌, map, refl, sym, ◌∙◌, ap, Option, Some, None, option_map, T, arith}
use mathlib.Core.Bool.{true≢false}
use Rattle.std.specs.Prelude.{sum_by, is_some, slice_get}
use Rattle.std.specs.List.{list_any}
use Rattle.std.specs.Ordering.{eq_by_cmp}
use Rattle.std.specs.FinMap as fmap
use Rattle.std.specs.FinMap.Entries.{find, is_sorted, below_all}
use Rattle.mx_pay.specs.Names.{name_cmp, is_name}
use Rattle.mx_pay.specs.Details.{Details, details_cmp}
use Rattle.mx_pay.specs.Orders.{details_exact}
use Rattle.mx_pay.proofs.LogLemmas.{details_total}
use Rattle.mx_pay.proofs.SameLemmas.{has-none_logged}
use Rattle.mx_pay.specs.Log.{Entries, none_logged, entry_at, logged}
use Rattle.mx_purse.specs.State.{IsPurse}
use Rattle.mx_memory.specs.declared.purses.BareRow.{BareRow}
use Rattle.mx_book.specs.declared.values.PurseRow.{PurseRow}
use Rattle.std.specs.FinSet.{FinSet}
use Rattle.mx_book.specs.Index.{index_cmp, IsHeld}
use Rattle.mx_memory.specs.Logs.{kept_log, row_with, bare_row, bare_entry, bare_balance, joined, all_joined, AreKept}
use Rattle.mx_book.specs.declared.values.Scope.{Scope}
use Rattle.mx_book.specs.declared.values.Scope.TheVariants.{Scheme, Member}
use Rattle.mx_book.specs.RowTotals.{counted_balance, awaited}
use Rattle.mx_book.specs.RowEdits.{log_at}
use Rattle.mx_book.specs.World.{Name, result_cmp}
use Rattle.mx_book.proofs.FoundLemmas.{each_inserted}
use Rattle.mx_book.proofs.HeldLemmas.{held_as, held_set}
use Rattle.mx_book.proofs.LogLemmas.{same_members}
use Rattle.mx_book.proofs.NameLemmas.{names_total, names_exact, same_name}
use Rattle.mx_book.proofs.SumLemmas.{total_is, total_map, total_same, total_entries}

abbrev Rows : Type 0
Rows = fmap.FinMap name_cmp BareRow

abbrev Logs : Type 0
Logs = fmap.FinMap name_cmp Entries

-- the row of a purse with the log that is kept
abbrev pub at_log : Logs → Name → BareRow → PurseRow
at_log logs p b = row_with b (kept_log (fmap.get logs p))

below-joined : (logs : Logs) (p : Name) (es : List (Name × BareRow)) → T (below_all name_cmp p es) → T (below_all name_cmp p (joined logs es))
below-joined logs p [] h = tt
below-joined logs p (e ∷ es) h = grind (arith, below-joined logs p es)

sorted-joined : (logs : Logs) (es : List (Name × BareRow)) → T (is_sorted name_cmp es) → T (is_sorted name_cmp (joined logs es))
sorted-joined logs [] h = tt
sorted-joined logs (e ∷ es) h = grind (arith, below-joined logs e.0 es, sorted-joined logs es)

find-joined : (logs : Logs) (p : Name) (es : List (Name × BareRow)) → find name_cmp p (joined logs es) ≡ option_map (at_log logs p) (find name_cmp p es)
find-joined logs p [] = refl
find-joined logs p (e ∷ es) = by_key (eq_by_cmp name_cmp p e.0) refl (find-joined logs p es)
  where
    by_key : (b : Bool) → is_name p e.0 ≡ b → find name_cmp p (joined logs es) ≡ option_map (at_log logs p) (find name_cmp p es)
        → cond b (Some (at_log logs e.0 e.1)) (find name_cmp p (joined logs es)) ≡ option_map (at_log logs p) (cond b (Some e.1) (find name_cmp p es))
    by_key true here rest = ap (λ n. Some (at_log logs n e.1)) (sym (same_name p e.0 here))
    by_key false here rest = rest

module _ (rows : Rows) (logs : Logs) where
  pub entries-joined : fmap.entries (all_joined rows logs) ≡ joined logs (fmap.entries rows)
  entries-joined = fmap.entries-from_sorted name_cmp _ (sorted-joined logs (fmap.entries rows) (fmap.entries_sorted rows))

  pub get-joined : (p : Name) → fmap.get (all_joined rows logs) p ≡ option_map (at_log logs p) (fmap.get rows p)
  get-joined p =
      fmap.get-from_sorted name_cmp _ p (sorted-joined logs (fmap.entries rows) (fmap.entries_sorted rows))
      ∙ find-joined logs p (fmap.entries rows) ∙ ap (option_map (at_log logs p)) (sym (fmap.get-entries rows p))

  -- without the logs they are the rows
  pub bare_listed : map bare_entry (fmap.entries (all_joined rows logs)) ≡ fmap.entries rows
  bare_listed = ap (map bare_entry) entries-joined ∙ all_bare (fmap.entries rows)
    where
      all_bare : (es : List (Name × BareRow)) → map bare_entry (joined logs es) ≡ es
      all_bare [] = refl
      all_bare (e ∷ es) = ap (λ xs. e ∷ xs) (all_bare es)

  pub bare_found : (p : Name) → option_map bare_row (fmap.get (all_joined rows logs) p) ≡ fmap.get rows p
  bare_found p = ap (option_map bare_row) (get-joined p) ∙ of_one (fmap.get rows p)
    where
      of_one : (o : Option BareRow) → option_map bare_row (option_map (at_log logs p) o) ≡ o
      of_one None = refl
      of_one (Some b) = refl

  -- a row with its log
  pub found_there : (p : Name) (b : BareRow) (log : Entries) → option_map bare_row (fmap.get (all_joined rows logs) p) ≡ Some b → kept_log (fmap.get logs p) ≡ log → fmap.get (all_joined rows logs) p ≡ Some (row_with b log)
  found_there p b log there kept = get-joined p ∙ ap (option_map (at_log logs p)) (sym (bare_found p) ∙ there) ∙ ap (λ l. Some (row_with b l)) kept

  -- the log of a purse that is there, and of one that isn't
  pub log_there : (p : Name) (b : BareRow) → fmap.get rows p ≡ Some b → log_at (fmap.get (all_joined rows logs) p) ≡ kept_log (fmap.get logs p)
  log_there p b there = ap log_at (get-joined p ∙ ap (option_map (at_log logs p)) there)

  pub log_nowhere : (p : Name) → fmap.get rows p ≡ None → log_at (fmap.get (all_joined rows logs) p) ≡ none_logged
  log_nowhere p none = ap log_at (get-joined p ∙ ap (option_map (at_log logs p)) none)

pub none_joined : (rows : Rows) (logs : Logs) → rows ≡ fmap.empty → all_joined rows logs ≡ fmap.empty
none_joined rows logs none = fmap.same_map names_total names_exact _ _ (λ q.
    get-joined rows logs q ∙ ap (option_map (at_log logs q)) (ap (λ m. fmap.get m q) none ∙ fmap.get-empty name_cmp q) ∙ sym (fmap.get-empty name_cmp q))

-- a log without a first entry is empty
pub no_first : (log : Entries) → is_some (entry_at log 0) ≡ false → none_logged ≡ log
no_first log none = same_members details_total details_exact _ _ (λ d. has-none_logged d ∙ sym (fmap.contains_key-keys log d ∙ of_keys d (logged log) none))
  where
    of_keys : (d : Details) (ds : List Details) → is_some (slice_get ds 0) ≡ false → list_any (eq_by_cmp details_cmp d) ds ≡ false
    of_keys d [] e = refl
    of_keys d (x ∷ xs) e = absurd (true≢false e)

-- a row that is set, with its log
pub joined-insert : (rows : Rows) (logs kept : Logs) (p : Name) (x : PurseRow) → kept_log (fmap.get kept p) ≡ x.purse.log
    → ((q : Name) → is_name q p ≡ false → fmap.get kept q ≡ fmap.get logs q)
    → all_joined (fmap.insert rows p (bare_row x)) kept ≡ fmap.insert (all_joined rows logs) p x
joined-insert rows logs kept p x log others = fmap.same_map names_total names_exact _ _ (λ q. by_key q (is_name q p) refl)
  where
    by_key : (q : Name) (b : Bool) → is_name q p ≡ b → fmap.get (all_joined (fmap.insert rows p (bare_row x)) kept) q ≡ fmap.get (fmap.insert (all_joined rows logs) p x) q
    by_key q true here =
        get-joined (fmap.insert rows p (bare_row x)) kept q
        ∙ ap (option_map (at_log kept q)) (fmap.get-insert names_total rows p (bare_row x) q ∙ ap (λ b. cond b (Some (bare_row x)) (fmap.get rows q)) here)
        ∙ ap (λ l. Some (row_with (bare_row x) l)) (ap (λ n. kept_log (fmap.get kept n)) (same_name q p here) ∙ log)
        ∙ sym (fmap.get-insert names_total (all_joined rows logs) p x q ∙ ap (λ b. cond b (Some x) (fmap.get (all_joined rows logs) q)) here)
    by_key q false here =
        get-joined (fmap.insert rows p (bare_row x)) kept q
        ∙ ap (option_map (at_log kept q)) (fmap.get-insert names_total rows p (bare_row x) q ∙ ap (λ b. cond b (Some (bare_row x)) (fmap.get rows q)) here)
        ∙ ap (λ o. option_map (λ b. row_with b (kept_log o)) (fmap.get rows q)) (others q here)
        ∙ sym (get-joined rows logs q)
        ∙ sym (fmap.get-insert names_total (all_joined rows logs) p x q ∙ ap (λ b. cond b (Some x) (fmap.get (all_joined rows logs) q)) here)

-- ---- what always holds of the two tables

pub kept_as : {purses made : fmap.FinMap name_cmp PurseRow} {held index : FinSet (index_cmp name_cmp)} → made ≡ purses → index ≡ held → AreKept purses held → AreKept made index
kept_as a b is = record {
  whole = λ p x at. is.whole p x (ap (λ m. fmap.get m p) (sym a) ∙ at);
  held = held_as a b is.held;
}

pub kept_insert : (purses : fmap.FinMap name_cmp PurseRow) (held index : FinSet (index_cmp name_cmp)) (p : Name) (x : PurseRow) → AreKept purses held → IsPurse x.purse → IsHeld (fmap.insert purses p x) index → AreKept (fmap.insert purses p x) index
kept_insert purses held index p x is here after = record {
  whole = each_inserted purses p x (λ q y. IsPurse y.purse) here is.whole;
  held = after;
}

-- a purse that is there with another row of the same holder, and what is there then
pub kept_set : (rows made : Rows) (logs kept : Logs) (held : FinSet (index_cmp name_cmp)) (p : Name) (b : BareRow) (x : PurseRow)
    → AreKept (all_joined rows logs) held → option_map bare_row (fmap.get (all_joined rows logs) p) ≡ Some b → x.holder ≡ b.holder → IsPurse x.purse
    → all_joined made kept ≡ fmap.insert (all_joined rows logs) p x → AreKept (all_joined made kept) held
kept_set rows made logs kept held p b x is there holder whole made_is =
    kept_as made_is refl (kept_insert (all_joined rows logs) held held p x is whole
    (held_set (all_joined rows logs) held p x is.held (ap (option_map (λ (y : PurseRow). y.holder)) (found_there rows logs p b _ there refl) ∙ ap Some (sym holder))))

-- the holder of a purse, where it is there
pub owner_found : {A : Type 0} (rows : Rows) (logs : Logs) (p : Name) (f : A → BareRow) (o : Option A) → option_map f o ≡ fmap.get rows p
    → option_map (λ a. (f a).holder) o ≡ option_map (λ (x : PurseRow). x.holder) (fmap.get (all_joined rows logs) p)
owner_found {A = A} rows logs p f o at = twice o ∙ ap (option_map (λ (b : BareRow). b.holder)) (at ∙ sym (bare_found rows logs p)) ∙ of_bare (fmap.get (all_joined rows logs) p)
  where
    twice : (o : Option A) → option_map (λ a. (f a).holder) o ≡ option_map (λ (b : BareRow). b.holder) (option_map f o)
    twice None = refl
    twice (Some a) = refl

    of_bare : (x : Option PurseRow) → option_map (λ (b : BareRow). b.holder) (option_map bare_row x) ≡ option_map (λ (x : PurseRow). x.holder) x
    of_bare None = refl
    of_bare (Some x) = refl

-- ---- sums over the rows but their logs

abbrev Purses : Type 0
Purses = fmap.FinMap name_cmp PurseRow

abbrev listed : Purses → List (Name × PurseRow)
listed = fmap.entries

pub balances_joined : (holders : fmap.FinMap name_cmp Name) (scope : Scope) (purses : Purses)
    → sum_by (λ (e : Name × BareRow). bare_balance holders scope e.1) (map bare_entry (listed purses)) ≡ sum_by (λ (e : Name × PurseRow). counted_balance holders scope e.1) (listed purses)
balances_joined holders scope purses =
    total_is (λ (e : Name × BareRow). bare_balance holders scope e.1) (map bare_entry (listed purses))
    ∙ total_map (λ (e : Name × BareRow). bare_balance holders scope e.1) bare_entry (listed purses)
    ∙ total_same (λ (e : Name × PurseRow). bare_balance holders scope (bare_row e.1)) (λ e. counted_balance holders scope e.1) (listed purses) (λ e. of_scope scope e.1)
    ∙ sym (total_is (λ (e : Name × PurseRow). counted_balance holders scope e.1) (listed purses))
  where
    of_scope : (s : Scope) (x : PurseRow) → bare_balance holders s (bare_row x) ≡ counted_balance holders s x
    of_scope Scheme x = refl
    of_scope (Member m) x = refl

pub transit_joined : (purses : Purses) (archive : FinSet result_cmp)
    → sum_by (λ (e : Name × BareRow). awaited purses archive e.1.purse.status) (map bare_entry (listed purses)) ≡ sum_by (λ (e : Name × PurseRow). awaited purses archive e.1.purse.status) (listed purses)
transit_joined purses archive =
    total_is (λ (e : Name × BareRow). awaited purses archive e.1.purse.status) (map bare_entry (listed purses))
    ∙ total_map (λ (e : Name × BareRow). awaited purses archive e.1.purse.status) bare_entry (listed purses)
    ∙ sym (total_is (λ (e : Name × PurseRow). awaited purses archive e.1.purse.status) (listed purses))

pub logs_joined : (purses : Purses) (f : Name → Entries → ℕ)
    → sum_by (λ (e : Name × BareRow). f e.0 (log_at (fmap.get purses e.0))) (map bare_entry (listed purses)) ≡ sum_by (λ (e : Name × PurseRow). f e.0 e.1.purse.log) (listed purses)
logs_joined purses f =
    total_is (λ (e : Name × BareRow). f e.0 (log_at (fmap.get purses e.0))) (map bare_entry (listed purses))
    ∙ total_map (λ (e : Name × BareRow). f e.0 (log_at (fmap.get purses e.0))) bare_entry (listed purses)
    ∙ total_entries names_total (λ p x. f p (log_at (fmap.get purses p))) (λ p (x : PurseRow). f p x.purse.log) purses (λ p x at. ap (λ o. f p (log_at o)) at)
    ∙ sym (total_is (λ (e : Name × PurseRow). f e.0 e.1.purse.log) (listed purses))

-- ---- what is there

-- a bare row is found exactly where a row is
pub bare_some : {A B C : Type 0} (f : A → C) (g : B → C) (a : Option A) (b : Option B) → option_map f a ≡ option_map g b → is_some a ≡ is_some b
bare_some f g None None e = refl
bare_some f g None (Some y) e = absurd (cc)
bare_some f g (Some x) None e = absurd (cc)
bare_some f g (Some x) (Some y) e = refl

-- the row of which it is
pub row_found : (o : Option PurseRow) (b : BareRow) → option_map bare_row o ≡ Some b → (x : PurseRow) × (o ≡ Some x)
row_found None b e = absurd (cc)
row_found (Some x) b e = (x, refl)
