-- What a table is. That it is stored, that no two of its rows have one key and that it has one list of rows is proved once for all tables.
use Rattle.mx_tables.proofs.Common.{arith, ◌≡◌, ℕ, ℤ, true, false, Bool, ◌&&◌, List, [], ◌∷◌, Option, Some, None, inl, inr, refl, ◌∙◌, is_eq, option_map, AllByRecursion, IsPermutation, Ordering, eq_by_cmp, Null, Int, Binary, Row, column, Database, Rows, office_schema, Holds}
use Rattle.std.proofs.Common.{zero, suc, not, map, set, drop, slice_get, sym, ap, ap₂, subst, Less, Greater}
use Rattle.std.specs.Prelude.{find, ◌==◌}
use Rattle.std.specs.List.{list_all}
use Rattle.std.proofs.lemmas.List.Sorted.{IsPermutation-sym}
use Rattle.mx_book.proofs.MapLemmas.{all_entries}
use Rattle.std.specs.Ordering.{is_ne, ordering_reverse}
use Rattle.std.specs.Cmp.{IsTotalOrder, eq_by_cmp_equiv}
use Rattle.std.specs.FinMap as fmap
use Rattle.std.specs.FinMap.{IsAntisymmetric}
use Rattle.std.proofs.lemmas.Cmp.{tied_itself}
use Rattle.sqlite_value.specs.declared.value.Value.{Value}
use Rattle.sqlite_value.specs.declared.keys.Order.{Order}
use Rattle.sqlite_value.specs.Order.{value_cmp}
use Rattle.sqlite_value.specs.Keys.{plain, first_key}
use Rattle.sqlite_value.proofs.OrderLemmas.{value_cmp_total}
use Rattle.sqlite_trees.specs.Tree.{Trees, rowid, IsTable}
use Rattle.sqlite_sql.specs.Ops.{binary, is_null}
use Rattle.sqlite_schema.specs.declared.schema.Table.{Table}
use Rattle.sqlite_schema.specs.declared.schema.Index.{Index}
use Rattle.sqlite_schema.specs.declared.schema.Constraint.TheVariants.{Unique}
use Rattle.sqlite_schema.specs.Rules.{agree, equal, guards, clashes, passes, differ}
use Rattle.mx_pay.proofs.TestLemmas.{is_equal}
use Rattle.mx_tables.specs.Schema.{Contents, cells_of, tokens_of, rows_of}
use Rattle.mx_tables.specs.Holds.{HaveCells, Stores, AllStore, HasContents}
use Rattle.mx_tables.proofs.MapLists.{AreDistinct, entries_of}
use Rattle.mx_tables.proofs.StoredLemmas.{if_truth}
use Rattle.sqlite_rules.specs.Lists.{Has}
use Rattle.sqlite_rules.proofs.ListLemmas.{some_from}
use Rattle.sqlite_trees.proofs.ListLemmas.{all-permutation, all-slice_get, all_weaker}
use Rattle.mx_tables.proofs.ValueLemmas.{same_made}

-- a part of a value, and the value with another part
pub record Part (A X : Type 0) : Type 0 where
  pub get : A → X
  pub put : X → A → A

-- A table: its number among those after `meta`, what stands there in the schema, the cells of a row, its rows in contents, and its map in the rows of a book.
pub record Place {K : Type 0} (R : K → K → Ordering) (V : Type 0) : Type 0 where
  pub at : ℕ
  pub table : Table
  pub cells : K × V → Row
  pub list : Part Contents (List (K × V))
  pub map : Part Rows (fmap.FinMap R V)

-- keys are in order, and those that compare as equal are the same
pub record IsKey {K : Type 0} (R : K → K → Ordering) : Type 0 where
  pub total : IsTotalOrder R
  pub exact : IsAntisymmetric R

-- two values are one, which isn't NULL
abbrev pub Ties : Value → Value → Type 0
Ties v w = (is_null v ≡ false) × (v ≡ w)

-- the table stands in the schema, its contents are stored there, and the columns of its key tell the key alone
pub record Kept {K V : Type 0} {R : K → K → Ordering} (p : Place R V) : Type 0 where
  pub found : slice_get office_schema.tables (suc p.at) ≡ Some p.table
  pub key : IsKey R
  pub ties : (i j : ℤ) (k : K) (v w : V) → AllByRecursion (λ n. Ties (column (Int i ∷ p.cells (k, v)) n) (column (Int j ∷ p.cells (k, w)) n)) p.table.primary
  pub cells_are : (c : Contents) → slice_get (cells_of c) (suc p.at) ≡ Some (map p.cells (p.list.get c))

-- contents with other rows of the table are another map in the rows of a book, and no more
pub record Written {K V : Type 0} {R : K → K → Ordering} (p : Place R V) (l : List (K × V)) (c : Contents) : Type 0 where
  pub listed : p.list.get (p.list.put l c) ≡ l
  pub cells : cells_of (p.list.put l c) ≡ set (cells_of c) (suc p.at) (map p.cells l)
  pub tokens : tokens_of (p.list.put l c) ≡ tokens_of c
  pub rows : rows_of (p.list.put l c) ≡ p.map.put (fmap.from_entries l) (rows_of c)

-- the rows of the table are a map of a book
pub record Belongs {K V : Type 0} {R : K → K → Ordering} (p : Place R V) : Type 0 where
  pub kept : Kept p
  pub is : (c : Contents) → p.map.get (rows_of c) ≡ fmap.from_entries (p.list.get c)
  pub written : (l : List (K × V)) (c : Contents) → Written p l c

-- ---- what holds of the schema

-- each table has a tree of its own
abbrev pub are_apart : List Table → Bool
are_apart [] = true
are_apart (t ∷ ts) = list_all (λ (u : Table). not (t.tree == u.tree)) ts && are_apart ts

pub trees_apart : are_apart office_schema.tables ≡ true
trees_apart = refl

-- the columns that the first index of a table keeps apart, and their order
abbrev guarded_by : List Index → Table → Option (List ℕ × Order)
guarded_by indexes table = option_map (λ (i : Index). (i.columns, i.order)) (find (λ i. guards i table) indexes)

-- the key of each table but `meta` has an index, and no row is counted
abbrev key_of : Table → Option (List ℕ × Order) × Bool
key_of t = (guarded_by office_schema.indexes t, t.is_counted)

abbrev own_key : Table → Option (List ℕ × Order) × Bool
own_key t = (Some (t.primary, plain), false)

keys_guarded : AllByRecursion (λ t. key_of t ≡ own_key t) (drop 1 office_schema.tables)
keys_guarded = (refl, (refl, (refl, (refl, (refl, (refl, (refl, (refl, (refl, (refl, (refl, tt)))))))))))

-- ---- no two typed rows have the same key

differ_above : (i j : ℤ) → value_cmp (Int i) (Int j) ≡ Less → differ (Int j) (Int i) ≡ true
unfolding binary
differ_above i j low =
    let above : value_cmp (Int j) (Int i) ≡ Greater = value_cmp_total.antisymm (Int j) (Int i) ∙ ap ordering_reverse low in
    if_truth _ ∙ ap is_ne above

module _ {K V : Type 0} (R : K → K → Ordering) (o : IsTotalOrder R) (cells : K × V → Row) (places : List ℕ)
    (alike : (i j : ℤ) (e f : K × V) → eq_by_cmp R e.0 f.0 ≡ true → agree plain places (Int i ∷ cells e) places (Int j ∷ cells f) ≡ true) where
  none_later : (whole : List Row) (r : Row) (i : ℤ) (x : K × V) → r ≡ Int i ∷ cells x → clashes plain places whole r ≡ false
      → (tree : List Row) (xs : List (K × V)) → HaveCells tree (map cells xs) → AllByRecursion (λ b. value_cmp (rowid r) (rowid b) ≡ Less) tree → ((b : Row) → Has tree b → Has whole b)
      → fmap.find R x.0 xs ≡ None
  none_later whole r i x is none [] [] have up sub = refl
  none_later whole r i x is none (t ∷ tree) (y ∷ xs) have up sub =
      let j = have.0.0 in
      let met = some_from (λ b. agree plain places b places r && differ (rowid b) (rowid r)) whole t (sub t (inl refl)) in
      let keys : eq_by_cmp R x.0 y.0 ≡ true → agree plain places t places r ≡ true = λ same. ap₂ (λ b c. agree plain places b places c) have.0.1 is ∙ alike j i y x ((eq_by_cmp_equiv o).symm y.0 x.0 ∙ same) in
      let low : value_cmp (Int i) (Int j) ≡ Less = sym (ap₂ (λ b c. value_cmp (rowid b) (rowid c)) is have.0.1) ∙ up.0 in
      let apart : differ (rowid t) (rowid r) ≡ true = ap₂ (λ b c. differ (rowid b) (rowid c)) have.0.1 is ∙ differ_above i j low in
      grind (arith, none, met, keys, apart, none_later whole r i x is none tree xs have.1 up.1 (λ b h. sub b (inr h)))
  none_later whole r i x is none tree xs have up sub = absurd have

  part_distinct : (whole tree : List Row) (xs : List (K × V)) → HaveCells tree (map cells xs) → IsTable tree → AllByRecursion (λ r. clashes plain places whole r ≡ false) tree → ((b : Row) → Has tree b → Has whole b) → AreDistinct R xs
  part_distinct whole [] [] have up free sub = tt
  part_distinct whole (r ∷ tree) (x ∷ xs) have up free sub = (
    none_later whole r have.0.0 x have.0.1 free.0 tree xs have.1 up.0 (λ b h. sub b (inr h)),
    part_distinct whole tree xs have.1 up.1 free.1 (λ b h. sub b (inr h)),
  )
  part_distinct whole tree xs have up free sub = absurd have

-- ---- that it is stored, and its keys are apart

pub stores_at : (db : Trees) (ts : List Table) (cs : List (List Row)) (n : ℕ) (t : Table) (c : List Row) → AllStore db ts cs → slice_get ts n ≡ Some t → slice_get cs n ≡ Some c → Stores (db t.tree) c
stores_at db [] [] n t c all at is = absurd (cc)
stores_at db (u ∷ ts) (d ∷ cs) zero t c all at is =
    let table : u ≡ t = cc in
    let cells : d ≡ c = cc in
    subst (Stores (db t.tree)) cells (subst (λ (x : Table). Stores (db x.tree) d) table all.0)
stores_at db (u ∷ ts) (d ∷ cs) (suc n) t c all at is = stores_at db ts cs n t c all.1 at is
stores_at db ts cs n t c all at is = absurd all

equal_tied : (v w : Value) → Ties v w → equal Binary v w ≡ true
unfolding binary
equal_tied Null w h = absurd (let it = h.0 in cc)
equal_tied v w h = rw (← h.1) (if_truth _ ∙ ap is_eq (tied_itself value_cmp_total v))

agree_tied : (places : List ℕ) (a b : Row) → AllByRecursion (λ n. Ties (column a n) (column b n)) places → agree plain places a places b ≡ true
unfolding first_key
agree_tied [] a b h = refl
agree_tied (n ∷ places) a b h = rw (equal_tied (column a n) (column b n) h.0) (agree_tied places a b h.1)

-- the rule of an index, of one row
guards_row : (table : Table) (rows : List Row) (row : Row) (indexes : List Index) (places : List ℕ) (o : Order) → guarded_by indexes table ≡ Some (places, o)
    → list_all (λ (i : Index). not (guards i table && clashes i.order i.columns rows row)) indexes ≡ true → clashes o places rows row ≡ false
guards_row table rows row [] places o first all = absurd (cc)
guards_row table rows row (i ∷ indexes) places o first all = grind (arith, guards_row table rows row indexes places o)

abbrev AreApart : Trees → Table → Type 0
AreApart db t = AllByRecursion (λ row. passes Unique office_schema db t row ≡ true) (db t.tree)

key_stands : {K V : Type 0} {R : K → K → Ordering} {p : Place R V} → Kept p → key_of p.table ≡ own_key p.table
key_stands {p = p} k = all-slice_get (λ t. key_of t ≡ own_key t) (drop 1 office_schema.tables) p.at p.table k.found keys_guarded

pub uncounted : {K V : Type 0} {R : K → K → Ordering} {p : Place R V} → Kept p → p.table.is_counted ≡ false
uncounted k = ap (λ (x : Option (List ℕ × Order) × Bool). x.1) (key_stands k)

module _ {K V : Type 0} {R : K → K → Ordering} {p : Place R V} (k : Kept p) (db : Database) (c : Contents) (h : HasContents db c) where
  pub stored : Stores (db.trees p.table.tree) (map p.cells (p.list.get c))
  stored = stores_at db.trees office_schema.tables (cells_of c) (suc p.at) p.table _ h.tables k.found (k.cells_are c)

  alike : (i j : ℤ) (e f : K × V) → eq_by_cmp R e.0 f.0 ≡ true → agree plain p.table.primary (Int i ∷ p.cells e) p.table.primary (Int j ∷ p.cells f) ≡ true
  alike i j e f t =
      let same : f.0 ≡ e.0 = sym (k.key.exact e.0 f.0 (is_equal _ t)) in
      ap (λ x. agree plain p.table.primary (Int i ∷ p.cells e) p.table.primary (Int j ∷ p.cells (x, f.1))) same
      ∙ agree_tied p.table.primary (Int i ∷ p.cells e) (Int j ∷ p.cells (e.0, f.1)) (k.ties i j e.0 e.1 f.1)

  -- no two rows have the same key
  pub distinct : AreDistinct R (p.list.get c)
  distinct =
      let unique = all-slice_get (AreApart db.trees) office_schema.tables (suc p.at) p.table k.found h.unique in
      part_distinct R k.key.total p.cells p.table.primary alike (db.trees p.table.tree) (db.trees p.table.tree) (p.list.get c) stored.have stored.rise
      (all_weaker (λ row. passes Unique office_schema db.trees p.table row ≡ true) (λ row. clashes plain p.table.primary (db.trees p.table.tree) row ≡ false)
      (λ row. guards_row p.table (db.trees p.table.tree) row office_schema.indexes p.table.primary plain (ap (λ (x : Option (List ℕ × Order) × Bool). x.0) (key_stands k)))
      (db.trees p.table.tree) unique) (λ b h. h)

-- the rows that a table stores are the entries of its map
pub in_map : {K V : Type 0} {R : K → K → Ordering} {p : Place R V} → Belongs p → (db : Database) (r : Rows) (h : Holds db r) → IsPermutation (p.list.get h.contents) (fmap.entries (p.map.get r))
in_map {R = R} {p = p} b db r h =
    subst (λ m. IsPermutation (p.list.get h.contents) (fmap.entries m)) (sym (b.is h.contents) ∙ ap p.map.get h.rows) (entries_of R b.kept.key.total (p.list.get h.contents) (distinct b.kept db h.contents h.has))

-- ---- a table has one list of rows, where what is stored of a row tells the row

-- a row but its number
abbrev pub but_number : Row → Row
but_number [] = []
but_number (v ∷ vs) = vs

-- the cells of rows are the rows but their numbers
cells_of_rows : (tree cells : List Row) → HaveCells tree cells → map but_number tree ≡ cells
cells_of_rows [] [] h = refl
cells_of_rows (r ∷ tree) (c ∷ cells) h = ap₂ ◌∷◌ (ap but_number h.0.1) (cells_of_rows tree cells h.1)
cells_of_rows tree cells h = absurd h

-- rows that have the cells of two lists have those of one
pub same_lists : {K V : Type 0} (cells : K × V → Row) (P : K × V → Type 0) → ((e f : K × V) → P e → P f → cells e ≡ cells f → e ≡ f)
    → (tree : List Row) (xs ys : List (K × V)) → HaveCells tree (map cells xs) → HaveCells tree (map cells ys) → AllByRecursion P xs → AllByRecursion P ys → xs ≡ ys
same_lists cells P tells tree xs ys hx hy px py =
    same_made P cells tells xs ys px py (sym (cells_of_rows tree (map cells xs) hx) ∙ cells_of_rows tree (map cells ys) hy)

module _ {K V : Type 0} {R : K → K → Ordering} {t : Place R V} (b : Belongs t) (P : K × V → Type 0) (tells : (e f : K × V) → P e → P f → t.cells e ≡ t.cells f → e ≡ f) where
  each_kept : (db : Database) (r : Rows) (h : Holds db r) → ((q : K) (v : V) → fmap.get (t.map.get r) q ≡ Some v → P (q, v)) → AllByRecursion P (t.list.get h.contents)
  each_kept db r h p =
      all-permutation P (fmap.entries (t.map.get r)) (t.list.get h.contents) (IsPermutation-sym _ _ (in_map b db r h)) (all_entries b.kept.key.total (λ k v. P (k, v)) (t.map.get r) p)

  -- a table has one list of rows
  pub listed_once : (db : Database) (r s : Rows) (h : Holds db r) (g : Holds db s)
      → ((q : K) (v : V) → fmap.get (t.map.get r) q ≡ Some v → P (q, v)) → ((q : K) (v : V) → fmap.get (t.map.get s) q ≡ Some v → P (q, v)) → t.list.get h.contents ≡ t.list.get g.contents
  listed_once db r s h g p q =
      same_lists t.cells P tells (db.trees t.table.tree) (t.list.get h.contents) (t.list.get g.contents) (stored b.kept db h.contents h.has).have (stored b.kept db g.contents g.has).have (each_kept db r h p) (each_kept db s g q)
