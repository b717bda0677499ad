-- Why a read as a whole fails.
use Rattle.mx_tables.proofs.Common.{◌≡◌, inl, inr, ℕ, ℤ, Int, ◌≤◌, List, [], ◌∷◌, length, true, false, Ok, Option, Some, None, refl, ◌∙◌, arith, is_eq, Row, column, number, Term, Text, IsPermutation, length-map, Ordering, eq_by_cmp, office_schema, Rows, Name, Holds}
use Rattle.std.proofs.Common.{Err, Result, T, Less, map, sym, ap, subst, le_refl}
use Rattle.std.specs.Prelude.{IfSome, option_map}
use Rattle.std.proofs.lemmas.Bool.{cases_Bool}
use Rattle.std.proofs.lemmas.List.Sorted.{length_permutation}
use Rattle.std.specs.FinMap as fmap
use Rattle.std.specs.FinMap.{IsAntisymmetric}
use Rattle.std.specs.FinMap.Entries.{is_sorted, below_all}
use Rattle.sqlite_value.specs.declared.keys.Key.{Key}
use Rattle.sqlite_trees.specs.Tree.{Trees}
use Rattle.sqlite_schema.specs.declared.command.Command.TheVariants.{Select}
use Rattle.sqlite_resolve.specs.declared.compiled.Compiled.{Compiled}
use Rattle.sqlite_resolve.specs.declared.error.CompileError.{CompileError}
use Rattle.sqlite_tied.specs.Compute.{everything}
use Rattle.sqlite.specs.Effect.{IsShown}
use Rattle.sqlite.specs.Listing.{understood}
use Rattle.sqlite.specs.State.{State, Shown}
use Rattle.sqlite.proofs.Callers.{command_of}
use Rattle.mx_pay.proofs.TestLemmas.{first_true, second_true, is_less, is_equal}
use Rattle.mx_book.specs.World.{World}
use Rattle.mx_book.specs.declared.values.PurseRow.{PurseRow}
use Rattle.sqlite_sql.specs.Term.{eval_all}
use Rattle.mx_tables.specs.Answers.{at_key, about_text, text_shown, next_shown}
use Rattle.mx_purse.specs.State.{IsPurse}
use Rattle.mx_cells.specs.Cells.{member_shown, purse_columns, purse_shown}
use Rattle.mx_tables.specs.declared.asking.About.{About}
use Rattle.mx_tables.specs.declared.asking.About.TheVariants.{Member, Holder, Purse, Owner, Next}
use Rattle.mx_tables.specs.States.{Accepts, HasOneAtMost, AcceptsText, AcceptsCommand}
use Rattle.mx_tables.proofs.Places.{Place, Belongs}
use Rattle.mx_tables.proofs.Statements.{env, passes}
use Rattle.mx_tables.proofs.StoredLemmas.{and_true, same_text}
use Rattle.mx_pay.proofs.SameLemmas.{names_turned}
use Rattle.mx_tables.proofs.Texts.{scan, alone, IsSelect, is_given}
use Rattle.mx_tables.proofs.ReadLemmas.{answers, selects, asked}
use Rattle.mx_tables.proofs.KeptLemmas as kept
use Rattle.mx_tables.proofs.SoundLemmas.{holders_named, members_named, members_valid, purses_valid}
use Rattle.mx_book.specs.Spells as book
use Rattle.mx_book.specs.declared.values.MemberRow.{MemberRow}
use Rattle.mx_pay.specs.Limits.{most_number}
use Rattle.mx_pay.specs.Names.{is_name_text}

-- ---- a key has one row at most

module _ {K V : Type 0} (R : K → K → Ordering) (exact : IsAntisymmetric R) (q : K) where
  none_above : (a : K) (es : List (K × V)) → eq_by_cmp R q a ≡ true → T (below_all R a es) → at_key R q es ≡ []
  none_above a [] at h = refl
  none_above a (e ∷ es) at h =
      let less : R a e.0 ≡ Less = is_less _ (first_true _ _ h) in
      let same : q ≡ a = exact q a (is_equal _ at) in
      let apart : eq_by_cmp R q e.0 ≡ false = ap (λ k. is_eq (R k e.0)) same ∙ ap is_eq less in
      rw apart (none_above a es at (second_true _ _ h))

  pub at_most_one : (es : List (K × V)) → T (is_sorted R es) → length (at_key R q es) ≤ 1
  at_most_one [] h = omega arith
  at_most_one (e ∷ es) h = elim (cases_Bool (eq_by_cmp R q e.0)) [
    | inl t ↦ rw (t, none_above e.0 es t (first_true _ _ h)) (omega arith)
    | inr f ↦ rw f (at_most_one es (second_true _ _ h))
  ]

  pub none_listed : (es : List (K × V)) → fmap.find R q es ≡ None → at_key R q es ≡ []
  none_listed [] h = refl
  none_listed (e ∷ es) h = grind (arith, h, none_listed es)

  pub few : {A : Type 0} (m : fmap.FinMap R V) (f : K × V → A) (rows : List A) → IsPermutation (map f (at_key R q (fmap.entries m))) rows → length rows ≤ 1
  few m f rows h =
      let size = length_permutation _ _ h in
      let made = length-map (at_key R q (fmap.entries m)) f in
      let most = at_most_one (fmap.entries m) (fmap.entries_sorted m) in
      omega (arith, size, made, most)

-- ---- a scan is not refused

scan_accepted : (tree : ℕ) (terms project : List Term) (order : List (Term × Key)) (names : List (List ℕ)) (params : Row) (db : Trees)
    → (IsShown (λ (r : Row). r) (record { schema = office_schema; trees = db }) (alone (scan tree terms project order)) params None → ⊥)
    → AcceptsCommand params db (Select (alone (scan tree terms project order)) names)
scan_accepted tree terms project order names params db typed e (inl h) = typed h.1
scan_accepted tree terms project order names params db typed e (inr (inl h)) = elim h.1 [ inl never ↦ never | inr any ↦ any.4 ]
scan_accepted tree terms project order names params db typed e (inr (inr h)) = absurd (let x = h.1 in cc)

-- the text is one statement, with so many parameters
abbrev pub IsWhole : List ℕ → ℕ → Result Compiled CompileError → Type 0
IsWhole sql count (Ok c) = (length sql ≤ c.tail) × (count ≡ length c.names)
IsWhole sql count (Err e) = ⊥

accepted_as : (sql : List ℕ) (params : Row) (db : Trees) (r : Result Compiled CompileError) {k : _} → command_of r ≡ k → IsWhole sql (length params) r → AcceptsCommand params db k → AcceptsText sql params db r
accepted_as sql params db (Ok c) is whole accepts = (whole.0, whole.1, subst (AcceptsCommand params db) (sym is) accepts)
accepted_as sql params db (Err e) is whole accepts = whole

pub select_accepted : (sql : List ℕ) (tree : ℕ) (terms project : List Term) (order : List (Term × Key)) (names : List (List ℕ)) → IsSelect sql tree terms project order names
    → (params : Row) (db : Trees) → IsWhole sql (length params) (understood office_schema sql)
    → (IsShown (λ (r : Row). r) (record { schema = office_schema; trees = db }) (alone (scan tree terms project order)) params None → ⊥) → Accepts sql params db
select_accepted sql tree terms project order names text params db whole typed = record {
  accepts = accepted_as sql params db (understood office_schema sql) text.is whole (scan_accepted tree terms project order names params db typed);
  unlisted = text.unlisted;
}

-- ---- what is asked about a name

about_whole : (a : About) → IsWhole (about_text a) 1 (understood office_schema (about_text a))
unfolding understood everything
about_whole Member = (le_refl _, refl)
about_whole a = (le_refl _, refl)

about_typed : (a : About) (p : Name) (db : Trees) → IsShown (λ (r : Row). r) (record { schema = office_schema; trees = db }) (alone (scan (asked a).0 (is_given 1 0 ∷ []) (asked a).1 [])) (Text p ∷ []) None → ⊥
about_typed Member p db h = cc
about_typed a p db h = cc

about_accepted : (a : About) (p : Name) (db : Trees) → Accepts (about_text a) (Text p ∷ []) db
about_accepted a p db = select_accepted (about_text a) _ _ _ [] _ (selects a) (Text p ∷ []) db (about_whole a) (about_typed a p db)

-- a query at a key answers one row at most
pub keyed_few : {K V : Type 0} {R : K → K → Ordering} {t : Place R V} (table : Belongs t) (q : K) (sql : List ℕ) (terms project : List Term) (names : List (List ℕ)) → IsSelect sql t.table.tree terms project [] names
    → (params : Row) (show : V → Row)
    → ((id : ℤ) (e : K × V) → passes terms params (Int id ∷ t.cells e) ≡ eq_by_cmp R q e.0) → ((id : ℤ) (e : K × V) → eval_all project (env params (Int id ∷ t.cells e)) ≡ show e.1)
    → (old new : State) (rows : List Row) → Shown sql params old new rows → (r : Rows) → Holds old.now r → length rows ≤ 1
keyed_few {R = R} {t = t} table q sql terms project names text params show tests shows old new rows shown r h =
    few R table.kept.key.exact q (t.map.get r) (λ e. show e.1) rows (answers table sql terms project names text params (λ e. eq_by_cmp R q e.0) (λ e. show e.1) tests shows old new rows shown r h)

-- no query about a name answers two rows
about_few : (a : About) (p : Name) (old new : State) (rows : List Row) (r : Rows) → Holds old.now r → Shown (about_text a) (Text p ∷ []) old new rows → length rows ≤ 1
about_few Member p old new rows r h shown = keyed_few kept.members p _ _ _ _ (selects Member) (Text p ∷ []) member_shown (λ id e. rw (same_text e.0 p) (and_true _ ∙ names_turned e.0 p)) (λ id e. refl) old new rows shown r h
about_few Holder p old new rows r h shown = keyed_few kept.holders p _ _ _ _ (selects Holder) (Text p ∷ []) text_shown (λ id e. rw (same_text e.0 p) (and_true _ ∙ names_turned e.0 p)) (λ id e. refl) old new rows shown r h
about_few Purse p old new rows r h shown = keyed_few kept.purses p _ _ _ _ (selects Purse) (Text p ∷ []) purse_shown (λ id e. rw (same_text e.0 p) (and_true _ ∙ names_turned e.0 p)) (λ id e. refl) old new rows shown r h
about_few Owner p old new rows r h shown = keyed_few kept.purses p _ _ _ _ (selects Owner) (Text p ∷ []) (λ (x : PurseRow). text_shown x.holder) (λ id e. rw (same_text e.0 p) (and_true _ ∙ names_turned e.0 p)) (λ id e. refl) old new rows shown r h
about_few Next p old new rows r h shown = keyed_few kept.purses p _ _ _ _ (selects Next) (Text p ∷ []) next_shown (λ id e. rw (same_text e.0 p) (and_true _ ∙ names_turned e.0 p)) (λ id e. refl) old new rows shown r h

pub about_one : (a : About) (p : Name) (old new : State) (r : Rows) → Holds old.now r → HasOneAtMost (about_text a) (Text p ∷ []) old new
about_one a p old new r h = record { accepts = about_accepted a p old.now.trees; few = λ rows shown. about_few a p old new rows r h shown }

-- ---- what the rows of a World show is read

-- the first column shows a name
abbrev pub HasName : Row → Type 0
HasName c = (name : Name) × (is_name_text name ≡ true) × (column c 0 ≡ Text name)

-- the first two columns show grants and a float within their limits
abbrev pub HasMoney : Row → Type 0
HasMoney c = (x : MemberRow) × (x.granted ≤ most_number) × (x.float ≤ most_number) × (column c 0 ≡ number x.granted) × (column c 1 ≡ number x.float)

-- the holder of a purse that is shown has a name
pub owner_read : (r : Rows) (w : World) → book.Spells r w → (p : Name) (row : Option Row) → row ≡ option_map (λ (x : PurseRow). text_shown x.holder) (fmap.get r.purses p) → IfSome row HasName
owner_read r w h p row is = subst (λ o. IfSome o HasName) (sym is) (by (fmap.get r.purses p) refl)
  where
    by : (o : Option PurseRow) → fmap.get r.purses p ≡ o → IfSome (option_map (λ (x : PurseRow). text_shown x.holder) o) HasName
    by None e = tt
    by (Some x) e = (x.holder, holders_named r w h p x e, refl)

-- the member of a holder that is shown has a name
pub holder_read : (r : Rows) (w : World) → book.Spells r w → (k : Name) (row : Option Row) → row ≡ option_map text_shown (fmap.get r.holders k) → IfSome row HasName
holder_read r w h k row is = subst (λ o. IfSome o HasName) (sym is) (by (fmap.get r.holders k) refl)
  where
    by : (o : Option Name) → fmap.get r.holders k ≡ o → IfSome (option_map text_shown o) HasName
    by None e = tt
    by (Some m) e = (m, members_named r w h k m e, refl)

-- the columns show a purse of that name
abbrev pub HasPurse : Name → Row → Type 0
HasPurse p c = (x : PurseRow) × IsPurse x.purse × (x.purse.name ≡ p) × (is_name_text x.holder ≡ true) × (purse_columns c ≡ purse_shown x)

-- a purse that is shown is one
pub purse_read : (r : Rows) (w : World) → book.Spells r w → (p : Name) (row : Option Row) → row ≡ option_map purse_shown (fmap.get r.purses p) → IfSome row (HasPurse p)
purse_read r w h p row is = subst (λ o. IfSome o (HasPurse p)) (sym is) (by (fmap.get r.purses p) refl)
  where
    by : (o : Option PurseRow) → fmap.get r.purses p ≡ o → IfSome (option_map purse_shown o) (HasPurse p)
    by None e = tt
    by (Some x) e = let it = purses_valid r w h p x e in (x, it.1, it.0, holders_named r w h p x e, refl)

-- the money of a member that is shown is within its limit
pub member_read : (r : Rows) (w : World) → book.Spells r w → (m : Name) (row : Option Row) → row ≡ option_map member_shown (fmap.get r.members m) → IfSome row HasMoney
member_read r w h m row is = subst (λ o. IfSome o HasMoney) (sym is) (by (fmap.get r.members m) refl)
  where
    by : (o : Option MemberRow) → fmap.get r.members m ≡ o → IfSome (option_map member_shown o) HasMoney
    by None e = tt
    by (Some x) e = let it = members_valid r w h m x e in (x, it.0, it.1, refl, refl)
