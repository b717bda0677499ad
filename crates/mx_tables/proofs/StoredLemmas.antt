-- How typed rows are stored: what INSERT, DELETE and UPDATE leave of the rows of a table.
use Rattle.mx_tables.proofs.Common.{◌≡◌, ℕ, ℤ, pos, Bool, true, false, List, [], ◌∷◌, ◌++◌, fold, refl, ◌∙◌, arith, is_eq, Some, ◌&&◌, inl, inr, filter, AllByRecursion, Null, Int, Text, Row, Binary, nat_cmp, eq_by_cmp, IsPermutation}
use Rattle.std.proofs.Common.{Equal, ◌+ℤ◌, ◌<ℤ◌, sym, ap, ap₂, subst, Less, int_cmp, not, if◌then◌else◌, map}
use Rattle.std.proofs.lemmas.Int.{ints}
use Rattle.std.proofs.lemmas.Bool.Decides.{nat_tests}
use Rattle.sqlite_value.specs.declared.value.Value.{Value}
use Rattle.sqlite_value.specs.Order.{value_cmp}
use Rattle.sqlite_value.proofs.OrderLemmas.{value_cmp-Int, value_cmp-Text, value_cmp_total}
use Rattle.std.proofs.lemmas.Cmp.{tied_itself}
use Rattle.sqlite_trees.specs.Tree.{rowid, IsTable, put_row, has_rowid, without_rowid}
use Rattle.sqlite_trees.proofs.TreeLemmas.{IsTable-put_row}
use Rattle.sqlite_rules.specs.Edit.{id_in, next_rowid, without_all, put_all, are_fresh}
use Rattle.sqlite_sql.specs.declared.ops.BinaryOp.TheVariants.{Compare}
use Rattle.sqlite_sql.specs.declared.ops.CompareOp.TheVariants.{Eq}
use Rattle.sqlite_sql.specs.Ops.{binary, unary, is_true, from_truth}
use Rattle.sqlite_schema.specs.declared.schema.Kind.TheVariants.{Integer}
use Rattle.sqlite_rules.specs.Cast.{cast}
use Rattle.std.specs.Prelude.{cond}
use Rattle.mx_tables.specs.Holds.{HaveCells, Stores}
use Rattle.std.specs.Ordering.{ordering_reverse}
use Rattle.std.specs.Cmp.Lexicographic.{slice_cmp}
use Rattle.std.proofs.lemmas.Bool.{cases_Bool, not-true}
use Rattle.std.proofs.lemmas.List.Sorted.{Contains-permutation, IsPermutation-sym}
use Rattle.sqlite_rules.specs.Lists.{Has}
use Rattle.sqlite_rules.proofs.ListLemmas.{all_has, all_from, has_filtered, has_kept, has_contained, contains_had}
use Rattle.sqlite_rules.proofs.PlaceLemmas.{tied_same}
use Rattle.sqlite_rules.proofs.ProbeLemmas.{has_mapped, mapped_has}
use Rattle.mx_pay.proofs.TestLemmas.{is_equal}
use Rattle.sqlite_trees.proofs.ListLemmas.{ascending-filter}
use Rattle.sqlite_rules.proofs.TableLemmas.{put_all_has, put_all_keeps, put_all_adds}
use Rattle.sqlite_rules.specs.Calls.{ids_of}

lower_than : (a b c : ℤ) → int_cmp a b ≡ Less → b <ℤ c → a <ℤ c
lower_than a b c p q = grind (arith, ints, nat_tests)

pub below_is : (a b : ℤ) → a <ℤ b → value_cmp (Int a) (Int b) ≡ Less
below_is a b h = value_cmp-Int a b ∙ grind (arith, ints, nat_tests)

abbrev step_rowid : ℤ → Row → ℤ
step_rowid n r = id_in (rowid r) +ℤ pos 1

-- the rowids are below the next
below_next : (start : ℤ) (x : Row) (c : Row) (rows cells : List Row) → IsTable (x ∷ rows) → HaveCells (x ∷ rows) (c ∷ cells)
    → AllByRecursion (λ r. id_in (rowid r) <ℤ fold step_rowid start (x ∷ rows)) (x ∷ rows)
below_next start x c [] [] up have = (omega (arith, ints), tt)
below_next start x c (y ∷ rows) (d ∷ cells) up have =
    let later = below_next (step_rowid start x) y d rows cells up.1 have.1 in
    let one = ap (λ (r : Row). rowid r) have.0.1 in
    let two = ap (λ (r : Row). rowid r) have.1.0.1 in
    let lower : int_cmp have.0.0 have.1.0.0 ≡ Less = sym (value_cmp-Int have.0.0 have.1.0.0) ∙ sym (ap₂ value_cmp one two) ∙ up.0.0 in
    let top = fold step_rowid start (x ∷ y ∷ rows) in
    let first = subst (λ v. id_in v <ℤ top) two later.0 in
    (subst (λ v. id_in v <ℤ top) (sym one) (lower_than have.0.0 have.1.0.0 top lower first), later)
below_next start x c rows cells up have = absurd have.1

put_above : (id : ℤ) (row : Row) (rows cells : List Row) → HaveCells rows cells → AllByRecursion (λ r. id_in (rowid r) <ℤ id) rows → HaveCells (put_row (Int id ∷ row) rows) (cells ++ row ∷ [])
put_above id row [] [] have all = ((id, refl), tt)
put_above id row (r ∷ rows) (c ∷ cells) have all =
    let less : value_cmp (rowid r) (Int id) ≡ Less = ap (λ (x : Row). value_cmp (rowid x) (Int id)) have.0.1 ∙ below_is have.0.0 id (rw have.0.1 at all.0) in
    rw less (have.0, put_above id row rows cells have.1 all.1)
put_above id row rows cells have all = absurd have

next_above : (rows cells : List Row) → IsTable rows → HaveCells rows cells → AllByRecursion (λ r. id_in (rowid r) <ℤ next_rowid rows) rows
next_above [] cells up have = tt
next_above (r ∷ rows) [] up have = absurd have
next_above (r ∷ rows) (c ∷ cells) up have = below_next (pos 1) r c rows cells up have

-- an INSERT adds the cells at the end
pub stores_put : (tree cells : List Row) (row : Row) → Stores tree cells → Stores (put_row (Int (next_rowid tree) ∷ row) tree) (cells ++ row ∷ [])
stores_put tree cells row s = record {
  rise = IsTable-put_row (Int (next_rowid tree) ∷ row) tree s.rise;
  have = put_above (next_rowid tree) row tree cells s.have (next_above tree cells s.rise s.have);
}

-- ---- values

pub if_truth : (b : Bool) → is_true (from_truth (Some b)) ≡ b
if_truth b = grind arith

pub same_text : (a b : List ℕ) → is_true (binary (Compare Eq Binary) (Text a) (Text b)) ≡ eq_by_cmp (slice_cmp nat_cmp) a b
unfolding binary
same_text a b = if_truth _ ∙ ap is_eq (value_cmp-Text a b)

pub numbers_cmp : (m n : ℕ) → int_cmp (pos m) (pos n) ≡ nat_cmp m n
numbers_cmp m n = grind (arith, ints, nat_tests)

pub same_numbers : (m n : ℕ) → is_true (binary (Compare Eq Binary) (Int (pos m)) (Int (pos n))) ≡ eq_by_cmp nat_cmp m n
unfolding binary
same_numbers m n = if_truth _ ∙ ap is_eq (value_cmp-Int (pos m) (pos n) ∙ numbers_cmp m n)

either : (b : Bool) (x : Value) → cond b x x ≡ x
either b x = grind arith

pub cast_null : cast Integer Null ≡ Null
unfolding unary
cast_null = either _ Null

pub cast_int : (n : ℤ) → cast Integer (Int n) ≡ Int n
unfolding unary
cast_int n = either _ (Int n)

pub and_true : (b : Bool) → (b && true) ≡ b
and_true b = grind arith

-- ---- rows of a tree

never_both : (a b : Row) → value_cmp (rowid a) (rowid b) ≡ Less → value_cmp (rowid b) (rowid a) ≡ Less → ⊥
never_both a b p q = let e = value_cmp_total.antisymm (rowid a) (rowid b) ∙ ap ordering_reverse q in cc

-- two tables with the same rows are one
same_rows : (xs ys : List Row) → IsTable xs → IsTable ys → ((r : Row) → Has xs r → Has ys r) → ((r : Row) → Has ys r → Has xs r) → xs ≡ ys
same_rows [] [] p q a b = refl
same_rows [] (y ∷ ys) p q a b = absurd (b y (inl refl))
same_rows (x ∷ xs) [] p q a b = absurd (a x (inl refl))
same_rows (x ∷ xs) (y ∷ ys) p q a b =
    let first : x ≡ y = elim (a x (inl refl)) [
      | inl e ↦ e
      | inr later ↦ elim (b y (inl refl)) [ inl e ↦ sym e | inr also ↦ absurd (never_both x y (all_has _ xs y p.0 also) (all_has _ ys x q.0 later)) ]
    ] in
    let past = λ (zs : List Row) (up : IsTable (x ∷ zs)) (r : Row) (h : Has zs r) (e : r ≡ x). let lower = rw e at (all_has _ zs r up.0 h) in never_both x x lower lower in
    ap₂ ◌∷◌ first (same_rows xs ys p.1 q.1
    (λ r h. elim (a r (inr h)) [ inl e ↦ absurd (past xs p r h (e ∙ sym first)) | inr k ↦ k ])
    (λ r h. elim (b r (inr h)) [ inl e ↦ absurd (past ys (subst (λ z. IsTable (z ∷ ys)) (sym first) q) r h e) | inr k ↦ k ]))

put_all_table : (news rows : List Row) → IsTable rows → IsTable (put_all rows news)
put_all_table [] rows up = up
put_all_table (n ∷ news) rows up = put_all_table news (put_row n rows) (IsTable-put_row n rows up)

without_all_table : (ids : List ℤ) (rows : List Row) → IsTable rows → IsTable (without_all rows ids)
without_all_table [] rows up = up
without_all_table (id ∷ ids) rows up = without_all_table ids (without_rowid id rows) (ascending-filter _ _ rows up)

abbrev pub Lacks : List ℤ → Row → Type 0
Lacks ids x = (id : ℤ) → Has ids id → has_rowid id x ≡ false

pub left_from : (ids : List ℤ) (rows : List Row) (x : Row) → Has (without_all rows ids) x → Has rows x × Lacks ids x
left_from [] rows x h = (h, λ id none. absurd none)
left_from (id ∷ ids) rows x h =
    let r = left_from ids (without_rowid id rows) x h in
    let was = has_filtered (λ y. not (has_rowid id y)) rows x r.0 in
    (was.0, λ other k. elim k [ inl e ↦ rw e (not-true _ was.1) | inr more ↦ r.1 other more ])

pub left_has : (ids : List ℤ) (rows : List Row) (x : Row) → Has rows x → Lacks ids x → Has (without_all rows ids) x
left_has [] rows x h lacks = h
left_has (id ∷ ids) rows x h lacks = left_has ids (without_rowid id rows) x (has_kept (λ y. not (has_rowid id y)) rows x h (ap not (lacks id (inl refl)))) (λ other k. lacks other (inr k))

pub permuted : {X : Type 0} (xs ys : List X) → IsPermutation xs ys → (x : X) → Has xs x → Has ys x
permuted xs ys same x h = has_contained ys x (Contains-permutation xs ys x same (contains_had xs x h))

map_table : (f : Row → Row) (rows : List Row) → ((r : Row) → Has rows r → rowid (f r) ≡ rowid r) → IsTable rows → IsTable (map f rows)
map_table f [] keeps up = tt
map_table f (r ∷ rows) keeps up = (
  all_from _ (map f rows) (λ y h.
      let x = has_mapped f rows y h in
      let after : rowid y ≡ rowid x.0 = ap rowid x.2 ∙ keeps x.0 (inr x.1) in
      ap₂ value_cmp (keeps r (inl refl)) after ∙ all_has _ rows x.0 up.0 x.1),
  map_table f rows (λ x h. keeps x (inr h)) up.1,
)

-- no two rows have one number
abbrev NumbersDiffer : List Row → Type 0
NumbersDiffer rows = (a b : Row) → Has rows a → Has rows b → value_cmp (rowid a) (rowid b) ≡ Equal → a ≡ b

abbrev pub HaveIds : List Row → Type 0
HaveIds tree = (r : Row) → Has tree r → (id : ℤ) × (rowid r ≡ Int id)

-- rows that a statement picked by a test, and what it read of them, the number first
module _ (tree : List Row) (keyed : HaveIds tree) (apart : NumbersDiffer tree) (test : Row → Bool) (show : Row → Row) (keeps_id : (r : Row) → Has tree r → rowid (show r) ≡ rowid r)
    (read : List Row) (same : IsPermutation (map show (filter test tree)) read) where
  taken : (r : Row) → Has (filter test tree) r → (id : ℤ) → rowid r ≡ Int id → Has (ids_of read) id
  taken r h id is =
      let there = permuted _ read same (show r) (mapped_has show (filter test tree) r h) in
      let known : id_in (rowid (show r)) ≡ id = ap id_in (keeps_id r (has_filtered test tree r h).0 ∙ is) in
      subst (Has (ids_of read)) known (mapped_has (λ y. id_in (rowid y)) read (show r) there)

  row_of_id : (id : ℤ) → Has (ids_of read) id → (r : Row) × Has (filter test tree) r × (rowid r ≡ Int id)
  row_of_id id h =
      let y = has_mapped (λ y. id_in (rowid y)) read id h in
      let x = has_mapped show (filter test tree) y.0 (permuted read _ (IsPermutation-sym _ _ same) y.0 y.1) in
      let was = (has_filtered test tree x.0 x.1).0 in
      let its = keyed x.0 was in
      let known : id ≡ its.0 = y.2 ∙ ap (λ r. id_in (rowid r)) x.2 ∙ ap id_in (keeps_id x.0 was ∙ its.1) in
      (x.0, x.1, its.1 ∙ ap Int (sym known))

  fails_there : (r : Row) → Has tree r → Lacks (ids_of read) r → test r ≡ false
  fails_there r h lacks =
      let id = keyed r h in
      let tie : has_rowid id.0 r ≡ true = ap (λ v. is_eq (value_cmp v (Int id.0))) id.1 ∙ ap is_eq (tied_itself value_cmp_total (Int id.0)) in
      let other : test r ≡ true → has_rowid id.0 r ≡ false = λ passes. lacks id.0 (taken r (has_kept test tree r h passes) id.0 id.1) in
      grind (arith, tie, other)

  pub lacks_it : (r : Row) → Has tree r → test r ≡ false → Lacks (ids_of read) r
  lacks_it r h fails id there =
      let n = row_of_id id there in
      let was = has_filtered test tree n.0 n.1 in
      let same : has_rowid id r ≡ true → r ≡ n.0 = λ has. apart r n.0 h was.0 (ap (value_cmp (rowid r)) n.2 ∙ is_equal _ has) in
      grind (arith, same, was.1, fails)

  -- the rows that pass are taken out
  pub left : IsTable tree → without_all tree (ids_of read) ≡ filter (λ r. not (test r)) tree
  left up = same_rows _ _ (without_all_table (ids_of read) tree up) (ascending-filter _ (λ r. not (test r)) tree up)
      (λ r h. let was = left_from (ids_of read) tree r h in has_kept (λ y. not (test y)) tree r was.0 (ap not (fails_there r was.0 was.1)))
      (λ r h. let was = has_filtered (λ y. not (test y)) tree r h in left_has (ids_of read) tree r was.0 (lacks_it r was.0 (not-true _ was.1)))

  -- and put in again, in a form
  module _ (form : Row → Row) (keeps : (r : Row) → Has tree r → rowid (form (show r)) ≡ rowid r) (fresh : are_fresh (without_all tree (ids_of read)) (map form read) ≡ true) where
    abbrev pub change_if : Bool → Row → Row
    change_if b r = if b then form (show r) else r

    abbrev pub changed_row : Row → Row
    changed_row r = change_if (test r) r

    pub keeps_row : (r : Row) → Has tree r → rowid (changed_row r) ≡ rowid r
    keeps_row r h = grind (arith, keeps r h)

    pub to : (r : Row) → Has (put_all (without_all tree (ids_of read)) (map form read)) r → Has (map changed_row tree) r
    to r h = elim (put_all_has (map form read) (without_all tree (ids_of read)) r h) [
      | inl new ↦
          let y = has_mapped form read r new in
          let x = has_mapped show (filter test tree) y.0 (permuted read _ (IsPermutation-sym _ _ same) y.0 y.1) in
          let was = has_filtered test tree x.0 x.1 in
          subst (Has (map changed_row tree)) (ap (λ b. change_if b x.0) was.1 ∙ sym (y.2 ∙ ap form x.2)) (mapped_has changed_row tree x.0 was.0)
      | inr still ↦
          let was = left_from (ids_of read) tree r still in
          subst (Has (map changed_row tree)) (ap (λ b. change_if b r) (fails_there r was.0 was.1)) (mapped_has changed_row tree r was.0)
    ]

    pub back : (r : Row) → Has (map changed_row tree) r → Has (put_all (without_all tree (ids_of read)) (map form read)) r
    back r h =
        let x = has_mapped changed_row tree r h in
        let left = without_all tree (ids_of read) in
        elim (cases_Bool (test x.0)) [
          | inl passes ↦
              let there = permuted _ read same (show x.0) (mapped_has show (filter test tree) x.0 (has_kept test tree x.0 x.1 passes)) in
              subst (Has (put_all left (map form read))) (sym (x.2 ∙ ap (λ b. change_if b x.0) passes)) (put_all_adds (map form read) left (form (show x.0)) fresh (mapped_has form read (show x.0) there))
          | inr fails ↦ subst (Has (put_all left (map form read))) (sym (x.2 ∙ ap (λ b. change_if b x.0) fails)) (put_all_keeps (map form read) left x.0 fresh (left_has (ids_of read) tree x.0 x.1 (lacks_it x.0 x.1 fails)))
        ]

    after_table : IsTable tree → IsTable (map changed_row tree)
    after_table up = map_table changed_row tree keeps_row up

    pub changed : IsTable tree → put_all (without_all tree (ids_of read)) (map form read) ≡ map changed_row tree
    changed up = same_rows _ _ (put_all_table (map form read) (without_all tree (ids_of read)) (without_all_table (ids_of read) tree up)) (after_table up) to back

-- ---- typed rows

-- each row of the table is a typed row after a rowid
had : {X : Type 0} (cells : X → Row) (tree : List Row) (xs : List X) → HaveCells tree (map cells xs) → (r : Row) → Has tree r → (id : ℤ) × (x : X) × (r ≡ Int id ∷ cells x)
had cells [] xs h r has = absurd has
had cells (t ∷ tree) [] h r has = absurd h
had cells (t ∷ tree) (x ∷ xs) h r (inl same) = (h.0.0, x, same ∙ h.0.1)
had cells (t ∷ tree) (x ∷ xs) h r (inr later) = had cells tree xs h.1 r later

pub have_filtered : {X : Type 0} (cells : X → Row) (test : Row → Bool) (p : X → Bool) → ((id : ℤ) (x : X) → test (Int id ∷ cells x) ≡ p x)
    → (tree : List Row) (xs : List X) → HaveCells tree (map cells xs) → HaveCells (filter test tree) (map cells (filter p xs))
have_filtered cells test p tests [] [] h = tt
have_filtered cells test p tests (r ∷ tree) (x ∷ xs) h =
    let more = have_filtered cells test p tests tree xs h.1 in
    let same : test r ≡ p x = ap test h.0.1 ∙ tests h.0.0 x in
    elim (cases_Bool (p x)) [
      | inl t ↦ rw (same, t) (h.0, more)
      | inr e ↦ rw (same, e) more
    ]
have_filtered cells test p tests tree xs h = absurd h

have_mapped : {X : Type 0} (cells : X → Row) (f : Row → Row) (g : X → X) → ((id : ℤ) (x : X) → f (Int id ∷ cells x) ≡ Int id ∷ cells (g x))
    → (tree : List Row) (xs : List X) → HaveCells tree (map cells xs) → HaveCells (map f tree) (map cells (map g xs))
have_mapped cells f g formed_if [] [] h = tt
have_mapped cells f g formed_if (r ∷ tree) (x ∷ xs) h = ((h.0.0, ap f h.0.1 ∙ formed_if h.0.0 x), have_mapped cells f g formed_if tree xs h.1)
have_mapped cells f g formed_if tree xs h = absurd h

module _ {X : Type 0} (cells : X → Row) (tree : List Row) (xs : List X) (stores : Stores tree (map cells xs)) (test : Row → Bool) (p : X → Bool) (tests : (id : ℤ) (x : X) → test (Int id ∷ cells x) ≡ p x)
    -- what the statement read, whose first column is the rowid
    (show : Row → Row) (first : (id : ℤ) (x : X) → rowid (show (Int id ∷ cells x)) ≡ Int id) (read : List Row) (same : IsPermutation (map show (filter test tree)) read) where
  ids : HaveIds tree
  ids r h = let it = had cells tree xs stores.have r h in (it.0, ap rowid it.2)

  apart : NumbersDiffer tree
  apart a b = λ h k. tied_same tree a b stores.rise h k

  keeps_id : (r : Row) → Has tree r → rowid (show r) ≡ rowid r
  keeps_id r h = let it = had cells tree xs stores.have r h in ap (λ y. rowid (show y)) it.2 ∙ first it.0 it.1 ∙ sym (ap rowid it.2)

  pub stores_left : Stores (without_all tree (ids_of read)) (map cells (filter (λ x. not (p x)) xs))
  stores_left =
      subst (λ rows. Stores rows (map cells (filter (λ x. not (p x)) xs))) (sym (left tree ids apart test show keeps_id read same stores.rise)) (record {
        rise = ascending-filter _ (λ r. not (test r)) tree stores.rise;
        have = have_filtered cells (λ r. not (test r)) (λ x. not (p x)) (λ id x. ap not (tests id x)) tree xs stores.have;
      })

  module _ (form : Row → Row) (g : X → X) (forms : (id : ℤ) (x : X) → form (show (Int id ∷ cells x)) ≡ Int id ∷ cells (g x)) (fresh : are_fresh (without_all tree (ids_of read)) (map form read) ≡ true) where
    abbrev formed : Row → Row
    formed r = form (show r)

    keeps : (r : Row) → Has tree r → rowid (formed r) ≡ rowid r
    keeps r h = let it = had cells tree xs stores.have r h in ap (λ y. rowid (formed y)) it.2 ∙ ap rowid (forms it.0 it.1) ∙ sym (ap rowid it.2)

    pub stores_changed : Stores (put_all (without_all tree (ids_of read)) (map form read)) (map cells (map (λ x. if p x then g x else x) xs))
    stores_changed =
        subst (λ rows. Stores rows (map cells (map (λ x. if p x then g x else x) xs))) (sym (changed tree ids apart test show keeps_id read same form keeps fresh stores.rise)) (record {
          rise = after_table tree ids apart test show keeps_id read same form keeps fresh stores.rise;
          have = have_mapped cells (λ r. if test r then formed r else r) (λ x. if p x then g x else x) (λ id x. grind (arith, tests id x, forms id x)) tree xs stores.have;
        })
