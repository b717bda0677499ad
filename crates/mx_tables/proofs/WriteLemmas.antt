-- What the changes of one table do to the rows of a book.
use Rattle.mx_tables.proofs.Common.{◌≡◌, ℕ, ℤ, Bool, true, List, [], ◌∷◌, ◌++◌, filter, length, Some, Ok, refl, ◌∙◌, arith, ◌&&◌, option_map, AllByRecursion, eq_by_cmp, Ordering, length-map, Null, Int, Row, Term, Executes, Rows, office_schema, Holds, Brings}
use Rattle.std.proofs.Common.{◌≢◌, zero, suc, ◌/◌, not, cond, if◌then◌else◌, map, drop, set, slice_get, sym, ap, subst}
use Rattle.std.specs.Prelude.{◌==◌}
use Rattle.std.specs.List.{list_all}
use Rattle.std.specs.Cmp.{IsTotalOrder, eq_by_cmp_equiv, first_so, second_so}
use Rattle.std.specs.FinMap as fmap
use Rattle.std.proofs.lemmas.Bool.Decides.{nat_tests}
use Rattle.std.proofs.lemmas.List.{map-append}
use Rattle.std.proofs.lemmas.List.Sorted.{length_permutation}
use Rattle.sqlite_trees.specs.Tree.{Trees, rowid}
use Rattle.sqlite_rules.proofs.ListLemmas.{test_has, has_got}
use Rattle.sqlite_schema.specs.declared.schema.Constraint.TheVariants.{Unique}
use Rattle.sqlite_schema.specs.declared.schema.Table.{Table}
use Rattle.sqlite_schema.specs.declared.schema.Keys.TheVariants.{Enforced}
use Rattle.sqlite_rules.specs.Action.{works}
use Rattle.sqlite_rules.specs.Cast.{cast_row}
use Rattle.sqlite_sql.specs.Term.{eval_all}
use Rattle.sqlite.specs.Effect.{value_rows}
use Rattle.sqlite.specs.Rows.{stamped}
use Rattle.sqlite.specs.State.{State}
use Rattle.mx_pay.specs.Tokens.{IsToken}
use Rattle.mx_book.specs.World.{Token}
use Rattle.mx_book.specs.declared.values.Caller.{Caller}
use Rattle.mx_book.specs.Under.{remake}
use Rattle.mx_book.proofs.UnderLemmas.{get-remake}
use Rattle.mx_tables.specs.Schema.{Contents, cells_of, rows_of, AreTokens}
use Rattle.mx_tables.specs.Holds.{HasContents, Stores, AllStore}
use Rattle.mx_tables.proofs.Texts.{IsInsert, IsUpdate, IsDelete}
use Rattle.mx_tables.proofs.Statements.{Wrote, IsQuiet, inserted, updated, deleted, picked, shown_rows, env, passes}
use Rattle.mx_tables.proofs.ReadLemmas.{one_mapped}
use Rattle.mx_tables.proofs.StoredLemmas.{stores_put, stores_changed, stores_left}
use Rattle.mx_tables.proofs.MapLists.{AreDistinct, map_push, map_anew, map_left}
use Rattle.mx_tables.proofs.Places.{Place, Belongs, are_apart, trees_apart, uncounted, stored, distinct}

pub differs : (m n : ℕ) → not (m == n) ≡ true → m ≢ n
differs m n h e = grind (arith, nat_tests, h, e)

-- a write to one table keeps what the others store
others_store : (old new : Trees) (tree : ℕ) (ts : List Table) (cs : List (List Row)) → list_all (λ (u : Table). not (tree == u.tree)) ts ≡ true
    → AllByRecursion (λ t. t.tree ≢ tree → new t.tree ≡ old t.tree) ts → AllStore old ts cs → AllStore new ts cs
others_store old new tree [] [] apart kept all = tt
others_store old new tree (t ∷ ts) (c ∷ cs) apart kept all = (
  subst (λ rows. Stores rows c) (sym (kept.0 (λ e. differs tree t.tree (first_so _ _ apart) (sym e)))) all.0,
  others_store old new tree ts cs (second_so _ _ apart) kept.1 all.1,
)
others_store old new tree ts cs apart kept all = absurd all

other_tree : (tree : ℕ) (ts : List Table) (at : ℕ) (t : Table) → list_all (λ (u : Table). not (tree == u.tree)) ts ≡ true → slice_get ts at ≡ Some t → tree ≢ t.tree
other_tree tree ts at t apart is = differs tree t.tree (test_has (λ (u : Table). not (tree == u.tree)) ts t apart (has_got ts at t is))

pub one_stores : (old new : Trees) (at : ℕ) (table : Table) (cells : List Row) → Stores (new table.tree) cells → (ts : List Table) (cs : List (List Row)) → slice_get ts at ≡ Some table → are_apart ts ≡ true
    → AllByRecursion (λ t. t.tree ≢ table.tree → new t.tree ≡ old t.tree) ts → AllStore old ts cs → AllStore new ts (set cs at cells)
one_stores old new at table cells it [] [] is apart kept all = tt
one_stores old new zero table cells it (t ∷ ts) (c ∷ cs) is apart kept all =
    let same : t ≡ table = cc in
    let others : list_all (λ (u : Table). not (table.tree == u.tree)) ts ≡ true = subst (λ (x : Table). list_all (λ (u : Table). not (x.tree == u.tree)) ts ≡ true) same (first_so _ _ apart) in
    (subst (λ (x : Table). Stores (new x.tree) cells) (sym same) it, others_store old new table.tree ts cs others kept.1 all.1)
one_stores old new (suc at) table cells it (t ∷ ts) (c ∷ cs) is apart kept all = (
  subst (λ rows. Stores rows c) (sym (kept.0 (other_tree t.tree ts at table (first_so _ _ apart) is))) all.0,
  one_stores old new at table cells it ts cs is (second_so _ _ apart) kept.1 all.1,
)
one_stores old new at table cells it ts cs is apart kept all = absurd all

pub has_then : (at : ℕ) (table : Table) → slice_get office_schema.tables (suc at) ≡ Some table → (old new : State) (rows cells : List Row) (c d : Contents) → Wrote office_schema table old new rows → HasContents old.now c
    → cells_of d ≡ set (cells_of c) (suc at) cells → Stores rows cells → AreTokens d → HasContents new.now d
has_then at table found old new rows cells c d it h put stores tokens = record {
  schema = it.schema_is;
  meta = it.others.0 (other_tree 0 (drop 1 office_schema.tables) at table refl found) ∙ h.meta;
  tables = subst (AllStore new.now.trees office_schema.tables) (sym put)
      (one_stores old.now.trees new.now.trees (suc at) table cells (subst (λ r. Stores r cells) (sym it.rows_are) stores) office_schema.tables (cells_of c) found trees_apart it.others h.tables);
  tokens = tokens;
  unique = it.fits.rules Unique (λ e. absurd (cc));
}

quiet : (b : Bool) (tree : ℕ) (olds news : List Row) → (length news == 0) ≡ b → works office_schema Enforced 0 tree olds news ≡ []
quiet b tree olds news e = grind (arith, e)

pub no_actions : (table : Table) → IsQuiet office_schema table
no_actions table olds news = quiet _ table.tree olds news refl

pub goes_then : (one two : Rows → Rows) (a b c : State) → Brings one a b → Brings two b c → Brings (λ r. two (one r)) a c
goes_then one two a b c first second = record { schema = second.schema; rows = λ r holds. second.rows (one r) (first.rows r holds) }

pub goes_as : (one two : Rows → Rows) (a b : State) → ((r : Rows) → Holds a.now r → one r ≡ two r) → Brings one a b → Brings two a b
goes_as one two a b same h = record { schema = h.schema; rows = λ r holds. subst (Holds b.now) (same r holds) (h.rows r holds) }

-- ---- a value at one key

-- where one entry passes a test on its key and one on its value, the key is there and its value passes
module _ {K V : Type 0} (R : K → K → Ordering) (o : IsTotalOrder R) (exact : fmap.IsAntisymmetric R) (k : K) (q : V → Bool) where
  abbrev pub at_key_where : K × V → Bool
  at_key_where e = eq_by_cmp R e.0 k && q e.1

  one_passes : (es : List (K × V)) → AreDistinct R es → length (filter at_key_where es) ≡ 1 → option_map q (fmap.find R k es) ≡ Some true
  one_passes [] d h = grind (arith, h)
  one_passes (e ∷ es) d h = grind (arith, h, one_passes es d.1, d.0, exact k e.0, (eq_by_cmp_equiv o).symm e.0 k)

  pub one_at : (es : List (K × V)) → AreDistinct R es → length (filter at_key_where es) ≡ 1 → (v : V) × (fmap.find R k es ≡ Some v) × (q v ≡ true)
  one_at es d h = one_mapped q (fmap.find R k es) true (sym (one_passes es d h))

  -- that value alone changes
  module _ (m : fmap.FinMap R V) (g : V → V) where
    abbrev where_at : K → V → V
    where_at j v = cond (at_key_where (j, v)) (g v) v

    pub remake_where : (v : V) → fmap.get m k ≡ Some v → q v ≡ true → remake where_at m ≡ fmap.insert m k (g v)
    remake_where v at passes =
        fmap.same_map o exact _ _ (λ j. grind (arith, get-remake R where_at exact m j, exact j k, at, passes, fmap.get-insert o m k (g v) j))

same_row : {K V : Type 0} (b : Bool) (e : K × V) (v : V) → cond b (e.0, v) e ≡ (e.0, cond b v e.1)
same_row b e v = grind arith

module _ {K V : Type 0} {R : K → K → Ordering} {t : Place R V} (b : Belongs t) where
  -- a change of the table's rows is one of its map
  goes : (old new : State) (rows : List Row) (f : List (K × V) → List (K × V)) (change : fmap.FinMap R V → fmap.FinMap R V) → Wrote office_schema t.table old new rows
      → ((c : Contents) → HasContents old.now c → Stores rows (map t.cells (f (t.list.get c))))
      → ((es : List (K × V)) → AreDistinct R (f es) → fmap.from_entries {R = R} (f es) ≡ change (fmap.from_entries es))
      → Brings (λ r. t.map.put (change (t.map.get r)) r) old new
  goes old new rows f change wrote stores same = record {
    schema = wrote.schema_is;
    rows = λ r h.
        let c = h.contents in
        let l = f (t.list.get c) in
        let w = b.written l c in
        let after = has_then t.at t.table b.kept.found old new rows (map t.cells l) c (t.list.put l c) wrote h.has w.cells (stores c h.has)
        (subst (AllByRecursion (λ (e : Token × Caller). IsToken e.0)) (sym w.tokens) h.has.tokens) in
        let apart = subst (AreDistinct R) w.listed (distinct b.kept new.now (t.list.put l c) after) in
        let made = w.rows ∙ ap (λ m. t.map.put m (rows_of c)) (same (t.list.get c) apart ∙ ap change (sym (b.is c))) in
        record { contents = t.list.put l c; has = after; rows = made ∙ ap (λ x. t.map.put (change (t.map.get x)) x) h.rows };
  }

  -- an INSERT of one row
  pub adds : (sql : List ℕ) (terms : List Term) (width : ℕ) → IsInsert sql (suc t.at) terms width → (params : Row) (e : K × V) → map (cast_row t.table) (value_rows (stamped t.table params) width (length terms / width) terms) ≡ (Null ∷ t.cells e) ∷ []
      → (old new : State) (count : ℕ) → old.now.schema ≡ office_schema → Executes sql params old new (Ok count) → Brings (λ r. t.map.put (fmap.insert (t.map.get r) e.0 e.1) r) old new
  adds sql terms width text params e source old new count has h =
      let it = inserted office_schema (suc t.at) t.table b.kept.found (no_actions t.table) sql params old new has text.plain count h terms width (t.cells e) text.is (uncounted b.kept) source in
      goes old new _ (λ es. es ++ e ∷ []) (λ m. fmap.insert m e.0 e.1) it.0
      (λ c holds. subst (Stores _) (sym (map-append t.cells (t.list.get c) (e ∷ []))) (stores_put (old.now.trees t.table.tree) (map t.cells (t.list.get c)) (t.cells e) (stored b.kept old.now c holds)))
      (λ es apart. map_push R b.kept.key.total b.kept.key.exact es e.0 e.1 apart)

  -- an UPDATE of the rows that pass
  module _ (sql : List ℕ) (terms project : List Term) (text : IsUpdate sql (suc t.at) t.table.tree terms project) (params : Row) (p : K × V → Bool) (g : K → V → V)
      (tests : (id : ℤ) (e : K × V) → passes terms params (Int id ∷ t.cells e) ≡ p e)
      (first : (id : ℤ) (e : K × V) → rowid (eval_all project (env params (Int id ∷ t.cells e))) ≡ Int id)
      (forms : (id : ℤ) (e : K × V) → cast_row t.table (drop 1 (eval_all project (env params (Int id ∷ t.cells e)))) ≡ Int id ∷ t.cells (e.0, g e.0 e.1))
      (old new : State) (count : ℕ) (has : old.now.schema ≡ office_schema) (ran : Executes sql params old new (Ok count)) where
    abbrev tree : List Row
    tree = old.now.trees t.table.tree

    abbrev pub altered : K → V → V
    altered k v = cond (p (k, v)) (g k v) v

    abbrev alter : K × V → K × V
    alter e = if p e then (e.0, g e.0 e.1) else e

    pub alters : Brings (λ r. t.map.put (remake altered (t.map.get r)) r) old new
    alters =
        let it = updated office_schema (suc t.at) t.table b.kept.found (no_actions t.table) sql params old new has text.plain count ran _ text.is in
        let got = picked t.table.tree terms project [] [] (record old.now { schema = office_schema }) params it.0 it.1 in
        goes old new _ (λ es. map alter es) (remake altered) it.2
        (λ c holds. stores_changed t.cells (old.now.trees t.table.tree) (t.list.get c) (stored b.kept old.now c holds) (passes terms params) p tests (λ r. eval_all project (env params r)) first it.0 got
        (λ s. cast_row t.table (drop 1 s)) (λ e. (e.0, g e.0 e.1)) forms it.4)
        (λ es apart. (λ i. fmap.from_entries {R = R} (map (λ (e : K × V). same_row (p e) e (g e.0 e.1) i) es)) ∙ map_anew b.kept.key.total b.kept.key.exact altered es)

    -- as many pass as it says
    pub counts_in : (c : Contents) → HasContents old.now c → length (filter p (t.list.get c)) ≡ count
    counts_in c holds =
        let it = updated office_schema (suc t.at) t.table b.kept.found (no_actions t.table) sql params old new has text.plain count ran _ text.is in
        let got = picked t.table.tree terms project [] [] (record old.now { schema = office_schema }) params it.0 it.1 in
        let tree = old.now.trees t.table.tree in
        let found = filter (passes terms params) tree in
        let alike = ap length (shown_rows {A = Unit {0}} t.cells (passes terms params) (λ _. tt) p (λ _. tt) tests (λ _ _. refl) tree (t.list.get c) (stored b.kept old.now c holds).have) in
        let size = length_permutation _ _ got in
        let one = length-map found (λ x. eval_all project (env params x)) in
        let two = length-map {B = Unit {0}} found (λ _. tt) in
        let three = length-map {B = Unit {0}} (filter p (t.list.get c)) (λ _. tt) in
        omega (arith, size, one, two, three, alike, it.3)

  -- an UPDATE of one row, by its key and a test of its value
  module _ (sql : List ℕ) (terms project : List Term) (text : IsUpdate sql (suc t.at) t.table.tree terms project) (params : Row) (k : K) (q : V → Bool) (g : V → V)
      (tests : (id : ℤ) (e : K × V) → passes terms params (Int id ∷ t.cells e) ≡ (eq_by_cmp R e.0 k && q e.1))
      (first : (id : ℤ) (e : K × V) → rowid (eval_all project (env params (Int id ∷ t.cells e))) ≡ Int id)
      (forms : (id : ℤ) (e : K × V) → cast_row t.table (drop 1 (eval_all project (env params (Int id ∷ t.cells e)))) ≡ Int id ∷ t.cells (e.0, g e.1))
      (old new : State) (has : old.now.schema ≡ office_schema) (ran : Executes sql params old new (Ok 1)) where
    abbrev here : K × V → Bool
    here = at_key_where R b.kept.key.total b.kept.key.exact k q

    -- the row was there
    pub was_there : (r : Rows) → Holds old.now r → (v : V) × (fmap.get (t.map.get r) k ≡ Some v) × (q v ≡ true)
    was_there r h =
        let c = h.contents in
        let one = counts_in sql terms project text params here (λ _ x. g x) tests first forms old new 1 has ran c h.has in
        let it = one_at R b.kept.key.total b.kept.key.exact k q (t.list.get c) (distinct b.kept old.now c h.has) one in
        (it.0, ap (λ m. fmap.get m k) (sym (ap t.map.get h.rows) ∙ b.is c) ∙ fmap.get-from_entries b.kept.key.total (t.list.get c) k ∙ it.1, it.2)

    -- and has another value
    pub alters_one : (change : Rows → Rows) → ((r : Rows) (v : V) → fmap.get (t.map.get r) k ≡ Some v → change r ≡ t.map.put (fmap.insert (t.map.get r) k (g v)) r) → Brings change old new
    alters_one change is =
        goes_as _ change old new
        (λ r h. let it = was_there r h in ap (λ m. t.map.put m r) (remake_where R b.kept.key.total b.kept.key.exact k q (t.map.get r) g it.0 it.1 it.2) ∙ sym (is r it.0 it.1))
        (alters sql terms project text params here (λ _ x. g x) tests first forms old new 1 has ran)

  -- a DELETE of the rows whose keys pass
  pub drops : (sql : List ℕ) (terms project : List Term) → IsDelete sql (suc t.at) t.table.tree terms project → (params : Row) (p : K → Bool)
      → ((id : ℤ) (e : K × V) → passes terms params (Int id ∷ t.cells e) ≡ p e.0)
      → ((id : ℤ) (e : K × V) → rowid (eval_all project (env params (Int id ∷ t.cells e))) ≡ Int id)
      → (old new : State) (count : ℕ) → old.now.schema ≡ office_schema → Executes sql params old new (Ok count) → Brings (λ r. t.map.put (fmap.retain_keys (t.map.get r) (λ k. not (p k))) r) old new
  drops sql terms project text params p tests first old new count has ran =
      let it = deleted office_schema (suc t.at) t.table b.kept.found (no_actions t.table) sql params old new has text.plain count ran _ text.is in
      let got = picked t.table.tree terms project [] [] (record old.now { schema = office_schema }) params it.0 it.1 in
      goes old new _ (λ es. filter (λ (e : K × V). not (p e.0)) es) (λ m. fmap.retain_keys m (λ k. not (p k))) it.2
      (λ c holds. stores_left t.cells (old.now.trees t.table.tree) (t.list.get c) (stored b.kept old.now c holds) (passes terms params) (λ e. p e.0) tests (λ r. eval_all project (env params r)) first it.0 got)
      (λ es apart. map_left b.kept.key.total b.kept.key.exact p es)
