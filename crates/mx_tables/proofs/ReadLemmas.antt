-- What the queries answer from the rows of a book.
use Rattle.mx_tables.proofs.Common.{◌≡◌, List, [], ◌∷◌, length, Some, None, refl, inl, inr, arith, ℕ, ℤ, Bool, true, filter, Option, ◌∙◌, codes, IsPermutation, length-map, Ordering, eq_by_cmp, AllByRecursion, option_map, Int, Text, Row, Term, col, Database, Rows, office_schema, Holds, Name, PurseRow}
use Rattle.std.proofs.Common.{map, ap, subst, T, sym, Less}
use Rattle.std.proofs.lemmas.List.Sorted.{length_permutation, IsPermutation-sym, IsPermutation-trans, IsPermutation-map}
use Rattle.std.proofs.lemmas.Bool.{cases_Bool}
use Rattle.std.specs.FinMap as fmap
use Rattle.sqlite.proofs.Callers.{one_permutation, reads_as}
use Rattle.mx_tables.specs.Answers.{at_key, one_or_none, about_text, shown_about, text_shown, next_shown}
use Rattle.mx_cells.specs.Cells.{member_shown, purse_shown}
use Rattle.std.specs.FinMap as fmap
use Rattle.std.specs.FinMap.Entries.{is_sorted, below_all}
use Rattle.sqlite_value.specs.declared.keys.Key.{Key}
use Rattle.sqlite_trees.specs.Tree.{IsAscending}
use Rattle.sqlite_trees.proofs.ListLemmas.{map-map}
use Rattle.sqlite_sql.specs.Term.{eval_all}
use Rattle.sqlite_sql.specs.Query.{Output, output, output_cmp}
use Rattle.sqlite_sql.proofs.QueryLemmas.{output_cmp_total}
use Rattle.sqlite_keyed.proofs.SortLemmas.{sorted_unique}
use Rattle.sqlite_keyed.proofs.ListLemmas.{IsPermutation-filter, ascending-map}
use Rattle.sqlite_schema.specs.declared.command.Command.TheVariants.{Select}
use Rattle.sqlite.specs.Effect.{Reads}
use Rattle.sqlite.specs.State.{State, Shown}
use Rattle.mx_pay.proofs.TestLemmas.{first_true, second_true, is_less}
use Rattle.mx_tables.specs.Holds.{HaveCells}
use Rattle.mx_tables.proofs.Texts.{scan, alone, IsSelect, is_given}
use Rattle.mx_tables.proofs.Statements.{selected, picked, shown_rows, env, passes}
use Rattle.mx_tables.proofs.Places.{Place, Belongs, stored, in_map}
use Rattle.sqlite_tied.specs.Compute.{everything}
use Rattle.sqlite.specs.Listing.{understood}
use Rattle.mx_pay.proofs.SameLemmas.{names_turned}
use Rattle.mx_tables.specs.declared.asking.About.{About}
use Rattle.mx_tables.specs.declared.asking.About.TheVariants.{Member, Holder, Purse, Owner, Next}
use Rattle.mx_tables.specs.States.{IsQuery}
use Rattle.mx_tables.proofs.StoredLemmas.{and_true, same_text}
use Rattle.mx_tables.proofs.KeptLemmas as kept

-- a value whose image is there
pub one_mapped : {A B : Type 0} (f : A → B) (o : Option A) (b : B) → Some b ≡ option_map f o → (x : A) × (o ≡ Some x) × (f x ≡ b)
one_mapped f None b e = absurd (cc)
one_mapped f (Some x) b e = (x, refl, cc)

-- ---- what a query at a key answers

module _ {K V A : Type 0} (R : K → K → Ordering) (show : V → A) (q : K) where
  abbrev shown : List (K × V) → List A
  shown es = map (λ (e : K × V). show e.1) (at_key R q es)

  none_at : (es : List (K × V)) → length (at_key R q es) ≡ 0 → fmap.find R q es ≡ None
  none_at [] h = refl
  none_at (e ∷ es) h = grind (arith, none_at es)

  one_shown : (es : List (K × V)) (x : A) → shown es ≡ x ∷ [] → option_map show (fmap.find R q es) ≡ Some x
  one_shown [] x h = absurd (let n = ap length h in omega (arith, n))
  one_shown (e ∷ es) x h = grind (arith, h, one_shown es x)

  -- no row: no such key
  pub found_none : (es : List (K × V)) (rows : List A) → IsPermutation (shown es) rows → rows ≡ [] → fmap.find R q es ≡ None
  found_none es rows h none =
      let size = length_permutation _ _ h in
      let made = length-map (at_key R q es) (λ (e : K × V). show e.1) in
      none_at es (omega (arith, size, made, ap length none))

  -- one row: the key's
  pub found_one : (es : List (K × V)) (rows : List A) (x : A) → IsPermutation (shown es) rows → rows ≡ x ∷ [] → (v : V) × (fmap.find R q es ≡ Some v) × (show v ≡ x)
  found_one es rows x h one = one_mapped show (fmap.find R q es) x (sym (one_shown es x (one_permutation x _ (IsPermutation-sym _ _ (subst (IsPermutation (shown es)) one h)))))

-- a query of one tree answers what it shows of the typed rows that pass
pub answered : {X : Type 0} (sql : List ℕ) (tree : ℕ) (terms project : List Term) (names : List (List ℕ)) → IsSelect sql tree terms project [] names
    → (params : Row) (cells : X → Row) (p : X → Bool) (f : X → Row)
    → ((id : ℤ) (x : X) → passes terms params (Int id ∷ cells x) ≡ p x) → ((id : ℤ) (x : X) → eval_all project (env params (Int id ∷ cells x)) ≡ f x)
    → (old new : State) (rows : List Row) → Shown sql params old new rows → old.now.schema ≡ office_schema
    → (xs : List X) → HaveCells (old.now.trees tree) (map cells xs) → IsPermutation (map f (filter p xs)) rows
answered sql tree terms project names text params cells p f tests shows old new rows h has xs have =
    let read = reads_as sql params old new office_schema has _ text.is text.query.plain text.unlisted rows h in
    let got = picked tree terms project [] names old.now params rows read in
    subst (λ all. IsPermutation all rows) (shown_rows cells (passes terms params) (λ r. eval_all project (env params r)) p f tests shows (old.now.trees tree) xs have) got

-- what a query at a key answers is what it shows of the key's value
pub got : {K V : Type 0} (R : K → K → Ordering) (show : V → Row) (q : K) (m : fmap.FinMap R V) (rows : List Row) (found : Option Row) → IsPermutation (map (λ (e : K × V). show e.1) (at_key R q (fmap.entries m))) rows
    → rows ≡ one_or_none found → found ≡ option_map show (fmap.get m q)
got R show q m rows None h only = grind (arith, fmap.get-entries m q, found_none R show q (fmap.entries m) rows h only)
got R show q m rows (Some x) h only = let one = found_one R show q (fmap.entries m) rows x h only in rw (fmap.get-entries m q ∙ one.1) (ap Some (sym one.2))

module _ {K V : Type 0} {R : K → K → Ordering} {t : Place R V} (table : Belongs t) where
  -- a query of one table answers what it shows of the rows that pass
  pub answers : (sql : List ℕ) (terms project : List Term) (names : List (List ℕ)) → IsSelect sql t.table.tree terms project [] names
      → (params : Row) (p : K × V → Bool) (f : K × V → Row)
      → ((id : ℤ) (e : K × V) → passes terms params (Int id ∷ t.cells e) ≡ p e) → ((id : ℤ) (e : K × V) → eval_all project (env params (Int id ∷ t.cells e)) ≡ f e)
      → (old new : State) (rows : List Row) → Shown sql params old new rows → (r : Rows) → Holds old.now r → IsPermutation (map f (filter p (fmap.entries (t.map.get r)))) rows
  answers sql terms project names text params p f tests shows old new rows shown r h =
      let got = answered sql t.table.tree terms project names text params t.cells p f tests shows old new rows shown h.has.schema (t.list.get h.contents) (stored table.kept old.now h.contents h.has).have in
      IsPermutation-trans _ _ _ (IsPermutation-sym _ _ (IsPermutation-map f _ _ (IsPermutation-filter p _ _ (in_map table old.now r h)))) got

  -- a query at a key answers what it shows of the key's value
  pub keyed : (q : K) (sql : List ℕ) (terms project : List Term) (names : List (List ℕ)) → IsSelect sql t.table.tree terms project [] names
      → (params : Row) (show : V → Row)
      → ((id : ℤ) (e : K × V) → passes terms params (Int id ∷ t.cells e) ≡ eq_by_cmp R q e.0) → ((id : ℤ) (e : K × V) → eval_all project (env params (Int id ∷ t.cells e)) ≡ show e.1)
      → (old new : State) (rows : List Row) → Shown sql params old new rows → (r : Rows) → Holds old.now r
      → (found : Option Row) → rows ≡ one_or_none found → found ≡ option_map show (fmap.get (t.map.get r) q)
  keyed q sql terms project names text params show tests shows old new rows shown r h found =
      got R show q (t.map.get r) rows found (answers sql terms project names text params (λ e. eq_by_cmp R q e.0) (λ e. show e.1) tests shows old new rows shown r h)

  module _ (terms project : List Term) (order : List (Term × Key)) (params : Row) (p : K × V → Bool) (out : K × V → Output)
      (tests : (id : ℤ) (e : K × V) → passes terms params (Int id ∷ t.cells e) ≡ p e)
      (outs : (id : ℤ) (e : K × V) → output (scan t.table.tree terms project order) (env params (Int id ∷ t.cells e)) ≡ out e)
      (rising : (a b : K × V) → p a ≡ true → p b ≡ true → R a.0 b.0 ≡ Less → output_cmp (scan t.table.tree terms project order) (out a) (out b) ≡ Less) where
    abbrev Rises : K × V → K × V → Type 0
    Rises a b = output_cmp (scan t.table.tree terms project order) (out a) (out b) ≡ Less

    all_above : (a : K × V) (es : List (K × V)) → p a ≡ true → T (below_all R a.0 es) → AllByRecursion (Rises a) (filter p es)
    all_above a [] at h = tt
    all_above a (e ∷ es) at h =
        let more = all_above a es at (second_true _ _ h) in
        elim (cases_Bool (p e)) [
          | inl t ↦ rw t (rising a e at t (is_less _ (first_true _ _ h)), more)
          | inr f ↦ rw f more
        ]

    ascends : (es : List (K × V)) → T (is_sorted R es) → IsAscending Rises (filter p es)
    ascends [] h = tt
    ascends (e ∷ es) h =
        let more = ascends es (second_true _ _ h) in
        elim (cases_Bool (p e)) [
          | inl t ↦ rw t (all_above e es t (first_true _ _ h), more)
          | inr f ↦ rw f more
        ]

    -- and in order, where the order of the query is that of the keys
    pub reads_in_order : (names : List (List ℕ)) (db : Database) (rows : List Row) → Reads (Select (alone (scan t.table.tree terms project order)) names) db params rows
        → (r : Rows) → Holds db r → rows ≡ map (λ e. (out e).1) (filter p (fmap.entries (t.map.get r)))
    reads_in_order names db rows read r h =
        let q = scan t.table.tree terms project order in
        let l = t.list.get h.contents in
        let got = selected t.table.tree terms project order names db params rows read in
        let found = filter (passes terms params) (db.trees t.table.tree) in
        let es = filter p (fmap.entries (t.map.get r)) in
        let typed : map (output q) (map (env params) found) ≡ map out (filter p l) =
        map-map (output q) (env params) found
        ∙ shown_rows t.cells (passes terms params) (λ x. output q (env params x)) p out tests outs (db.trees t.table.tree) l (stored table.kept db h.contents h.has).have in
        let same = IsPermutation-map out _ _ (IsPermutation-filter p _ _ (in_map table db r h)) in
        let other : IsPermutation (map out es) got.0 =
        IsPermutation-trans (map out es) (map out (filter p l)) got.0 (IsPermutation-sym _ _ same) (subst (λ x. IsPermutation x got.0) typed got.1) in
        let up = ascending-map (λ a b. output_cmp q a b ≡ Less) out es (ascends (fmap.entries (t.map.get r)) (fmap.entries_sorted (t.map.get r))) in
        let order : got.0 ≡ map out es = sorted_unique (output_cmp q) (output_cmp_total q) (map out es) got.0 up other got.2 in
        got.3 ∙ ap (map (λ (o : Output). o.1)) order ∙ map-map (λ (o : Output). o.1) out es

    pub answers_in_order : (sql : List ℕ) (names : List (List ℕ)) → IsSelect sql t.table.tree terms project order names
        → (old new : State) (rows : List Row) → Shown sql params old new rows → (r : Rows) → Holds old.now r → rows ≡ map (λ e. (out e).1) (filter p (fmap.entries (t.map.get r)))
    answers_in_order sql names text old new rows shown r h =
        reads_in_order names old.now rows (reads_as sql params old new office_schema h.has.schema _ text.is text.query.plain text.unlisted rows shown) r h

-- what is asked about a name: the tree, the columns that are shown, and their names
abbrev pub asked : About → ℕ × List Term × List (List ℕ)
asked Member = (1, col 1 2 ∷ col 1 3 ∷ [], codes "granted" ∷ codes "unspent" ∷ [])
asked Holder = (6, col 1 2 ∷ [], codes "member" ∷ [])
asked Purse = (
  8,
  col 1 2 ∷ col 1 3 ∷ col 1 4 ∷ col 1 5 ∷ col 1 6 ∷ col 1 7 ∷ col 1 8 ∷ col 1 9 ∷ [],
  codes "holder" ∷ codes "balance" ∷ codes "next_number" ∷ codes "status" ∷ codes "details" ∷ codes "log" ∷ codes "line_count" ∷ codes "next_message" ∷ [],
)
asked Owner = (8, col 1 2 ∷ [], codes "holder" ∷ [])
asked Next = (8, col 1 9 ∷ [], codes "next_message" ∷ [])

pub selects : (a : About) → IsSelect (about_text a) (asked a).0 (is_given 1 0 ∷ []) (asked a).1 [] (asked a).2
unfolding understood everything
selects Member = record { is = refl; query = record { plain = (refl, refl); silent = λ _ _. refl }; unlisted = refl }
selects a = record { is = refl; query = record { plain = (refl, refl); silent = λ _ _. refl }; unlisted = refl }

pub about_query : (a : About) → IsQuery (about_text a)
about_query a = (selects a).query

module _ (p : Name) (old new : State) (rows : List Row) (r : Rows) (h : Holds old.now r) (found : Option Row) (only : rows ≡ one_or_none found) where
  pub about_is : (a : About) → Shown (about_text a) (Text p ∷ []) old new rows → found ≡ shown_about a r p
  about_is Member shown = keyed kept.members p _ _ _ _ (selects Member) (Text p ∷ []) member_shown (λ id e. rw (same_text e.0 p) (and_true _ ∙ names_turned e.0 p)) (λ id e. refl) old new rows shown r h found only
  about_is Holder shown = keyed kept.holders p _ _ _ _ (selects Holder) (Text p ∷ []) text_shown (λ id e. rw (same_text e.0 p) (and_true _ ∙ names_turned e.0 p)) (λ id e. refl) old new rows shown r h found only
  about_is Purse shown = keyed kept.purses p _ _ _ _ (selects Purse) (Text p ∷ []) purse_shown (λ id e. rw (same_text e.0 p) (and_true _ ∙ names_turned e.0 p)) (λ id e. refl) old new rows shown r h found only
  about_is Owner shown = keyed kept.purses p _ _ _ _ (selects Owner) (Text p ∷ []) (λ (x : PurseRow). text_shown x.holder) (λ id e. rw (same_text e.0 p) (and_true _ ∙ names_turned e.0 p)) (λ id e. refl) old new rows shown r h found only
  about_is Next shown = keyed kept.purses p _ _ _ _ (selects Next) (Text p ∷ []) next_shown (λ id e. rw (same_text e.0 p) (and_true _ ∙ names_turned e.0 p)) (λ id e. refl) old new rows shown r h found only
