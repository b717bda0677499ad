-- The statements on the tray and the archive.
use Rattle.mx_tables.proofs.Common.{◌≡◌, ℕ, pos, ◌+◌, ◌<◌, Bool, true, ◌&&◌, List, [], ◌∷◌, ◌++◌, filter, take, length, codes, Ok, refl, ◌∙◌, arith, Option, Some, is_eq, IsPermutation, eq_by_cmp, nat_cmp, Null, Int, Text, Row, column, col, Database, Executes, is_name, Name, Rows, rewritten, office_schema, number, Holds, Brings}
use Rattle.std.proofs.Common.{le_refl, if◌then◌else◌, ◌||◌, map, get_or, sym, ap, ap₂, subst, length-append, is_some}
use Rattle.std.specs.List.{list_any}
use Rattle.std.specs.FinMap as fmap
use Rattle.std.specs.FinSet.{FinSet}
use Rattle.std.specs.Cmp.Lexicographic.{slice_cmp}
use Rattle.std.proofs.lemmas.Cmp.{tied_itself}
use Rattle.std.proofs.ByRecursion.{All-push}
use Rattle.std.specs.Cmp.{both_ways}
use Rattle.std.proofs.Math.Bool.{and-true}
use Rattle.std.proofs.lemmas.List.{take_more, map-append}
use Rattle.std.proofs.lemmas.List.Folds.{list_any-append}
use Rattle.std.proofs.lemmas.List.Sorted.{list_any-IsPermutation}
use Rattle.sqlite_value.specs.declared.value.Value.{Value}
use Rattle.sqlite_trees.proofs.ListLemmas.{map-map, all-map, all-filter, all-permutation, all_weaker, filter_same, pull_back}
use Rattle.sqlite_sql.specs.Term.{lit}
use Rattle.sqlite.specs.State.{State, Shown}
use Rattle.sqlite.specs.Listing.{understood}
use Rattle.sqlite_tied.specs.Compute.{everything}
use Rattle.mx_pay.proofs.SameLemmas.{names_turned, has-none_logged}
use Rattle.mx_pay.specs.Details.{Details, IsDetails, is_details}
use Rattle.mx_pay.specs.Codes.{entry_text}
use Rattle.mx_pay.specs.Log.{Entries, has_logged, none_logged, with_entry}
use Rattle.mx_pay.specs.Orders.{details_exact}
use Rattle.mx_pay.proofs.LogLemmas.{details_total}
use Rattle.mx_pay.proofs.TestLemmas.{is_equal}
use Rattle.mx_book.specs.World.{result_cmp, results_of, results_but, and_results}
use Rattle.mx_book.specs.RowReads.{of_name}
use Rattle.mx_book.specs.RowEdits.{row_tray_of}
use Rattle.mx_book.specs.declared.edits.Edit.TheVariants.{ArchiveTray}
use Rattle.mx_book.proofs.NameLemmas.{same_name, name_itself}
use Rattle.mx_book.proofs.MapLemmas.{AllEntries, all_entries}
use Rattle.mx_book.proofs.LogLemmas.{same_members, has_kept, under_has}
use Rattle.mx_book.proofs.ResultLemmas.{has-both, results_total, results_exact}
use Rattle.mx_tables.specs.States.{Sees}
use Rattle.mx_tables.specs.Answers.{at_key}
use Rattle.mx_tables.specs.Results.{Archives, details_shown, first_one, AreDetails, Shows, and_details}
use Rattle.mx_tables.proofs.ValueLemmas.{same_made}
use Rattle.mx_tables.proofs.MapLists.{any_mapped}
use Rattle.mx_tables.proofs.Texts.{is_given, IsInsert, IsSelect, IsDelete}
use Rattle.mx_tables.proofs.StoredLemmas.{and_true, same_text, cast_null}
use Rattle.sqlite_trees.specs.Tree.{Trees}
use Rattle.mx_tables.specs.States.{Accepts}
use Rattle.mx_tables.proofs.FaultLemmas.{IsWhole, select_accepted}
use Rattle.mx_tables.proofs.ReadLemmas.{answers}
use Rattle.mx_tables.proofs.StateLemmas.{brings_none}
use Rattle.mx_tables.proofs.WriteLemmas.{adds, drops, no_actions, goes_as, goes_then}
use Rattle.mx_tables.proofs.Statements.{inserted}
use Rattle.mx_pay.proofs.TextLemmas.{same_entry}
use Rattle.mx_tables.proofs.KeptLemmas as kept

abbrev pub Result : Type 0
Result = (Name × Details) × Unit {0}

-- ---- the texts

abbrev pub insert_tray : List ℕ
insert_tray = codes "INSERT INTO tray (purse, details) VALUES (?1, ?2)"

pub insert_tray_is : IsInsert insert_tray 7 (lit Null ∷ col 0 0 ∷ col 0 1 ∷ []) 3
unfolding understood everything
insert_tray_is = record { is = refl; plain = (refl, refl) }

abbrev pub insert_archive : List ℕ
insert_archive = codes "INSERT INTO archive (purse, details) VALUES (?1, ?2)"

pub insert_archive_is : IsInsert insert_archive 8 (lit Null ∷ col 0 0 ∷ col 0 1 ∷ []) 3
unfolding understood everything
insert_archive_is = record { is = refl; plain = (refl, refl) }

abbrev pub delete_tray : List ℕ
delete_tray = codes "DELETE FROM tray WHERE purse = ?1"

pub delete_tray_is : IsDelete delete_tray 7 14 (is_given 1 0 ∷ []) (col 1 0 ∷ [])
unfolding understood everything
delete_tray_is = record { is = refl; plain = (refl, refl) }

abbrev pub select_tray : List ℕ
select_tray = codes "SELECT details FROM tray WHERE purse = ?1"

pub select_tray_is : IsSelect select_tray 14 (is_given 1 0 ∷ []) (col 1 2 ∷ []) [] (codes "details" ∷ [])
unfolding understood everything
select_tray_is = record { is = refl; query = record { plain = (refl, refl); silent = λ _ _. refl }; unlisted = refl }

abbrev pub select_archived : List ℕ
select_archived = codes "SELECT 1 FROM archive WHERE purse = ?1 AND details = ?2"

pub select_archived_is : IsSelect select_archived 16 (is_given 1 0 ∷ is_given 2 1 ∷ []) (lit (Int (pos 1)) ∷ []) [] (codes "1" ∷ [])
unfolding understood everything
select_archived_is = record { is = refl; query = record { plain = (refl, refl); silent = λ _ _. refl }; unlisted = refl }

-- ---- writes

pub adds_tray : (p : Name) (d : Details) (old new : State) (count : ℕ) → old.now.schema ≡ office_schema → Executes insert_tray (Text p ∷ Text (entry_text d) ∷ []) old new (Ok count)
    → Brings (λ r. record r { tray = fmap.insert r.tray (p, d) tt }) old new
adds_tray p d = adds kept.tray insert_tray _ _ insert_tray_is (Text p ∷ Text (entry_text d) ∷ []) ((p, d), tt) (rw cast_null refl)

pub archives_one : (p text : List ℕ) (old new : State) (count : ℕ) → old.now.schema ≡ office_schema → Executes insert_archive (Text p ∷ Text text ∷ []) old new (Ok count) → Archives p ((Text text ∷ []) ∷ []) old new
archives_one p text old new count has ran =
    let wrote = (inserted office_schema 8 kept.archive_place.table refl (no_actions kept.archive_place.table) insert_archive (Text p ∷ Text text ∷ []) old new has insert_archive_is.plain count ran
    (lit Null ∷ col 0 0 ∷ col 0 1 ∷ []) 3 (Text p ∷ Text text ∷ []) insert_archive_is.is refl (rw cast_null refl)).0 in
    record { schema = wrote.schema_is; goes = one }
  where
    one : (ds : List Details) → map details_shown ds ≡ (Text text ∷ []) ∷ [] → Brings (λ r. record r { archive = and_details p r.archive ds }) old new
    one (d ∷ []) from =
        let same : text ≡ entry_text d = cc in
        adds kept.archive insert_archive _ _ insert_archive_is (Text p ∷ Text (entry_text d) ∷ []) ((p, d), tt) (rw cast_null refl) old new count has
        (subst (λ t. Executes insert_archive (Text p ∷ Text t ∷ []) old new (Ok count)) same ran)
    one ds from = absurd (let k = ap length from in omega (arith, k))

pub drops_tray : (p : Name) (old new : State) (count : ℕ) → old.now.schema ≡ office_schema → Executes delete_tray (Text p ∷ []) old new (Ok count)
    → Brings (λ r. record r { tray = results_but p r.tray }) old new
drops_tray p = drops kept.tray delete_tray _ _ delete_tray_is (Text p ∷ []) (λ (k : Name × Details). is_name p k.0)
    (λ id e. rw (same_text e.0.0 p) (and_true _ ∙ names_turned e.0.0 p)) (λ id e. refl)

-- ---- reads

pub finds_tray : (p : Name) (old new : State) (rows : List Row) → Shown select_tray (Text p ∷ []) old new rows → (r : Rows) → Holds old.now r
    → IsPermutation (map (λ (e : Result). details_shown e.0.1) (of_name p (fmap.entries r.tray))) rows
finds_tray p = answers kept.tray select_tray _ _ _ select_tray_is (Text p ∷ []) (λ (e : Result). is_name p e.0.0) (λ (e : Result). details_shown e.0.1)
    (λ id e. rw (same_text e.0.0 p) (and_true _ ∙ names_turned e.0.0 p)) (λ id e. refl)

-- texts of details within their limits are the same where the details are
pub same_texts : (d e : Details) → IsDetails d → IsDetails e → eq_by_cmp (slice_cmp nat_cmp) (entry_text e) (entry_text d) ≡ is_details d e
same_texts d e one two = both_ways _ _
    (λ t. let same : d ≡ e = same_entry d e one two (same_name (entry_text d) (entry_text e) (names_turned (entry_text d) (entry_text e) ∙ t)) in rw (← same) (ap is_eq (tied_itself details_total d)))
    (λ t. let same : d ≡ e = details_exact d e (is_equal _ t) in rw same (name_itself (entry_text e)))

pair_eq : (p : Name) (d : Details) (k : Name × Details) → eq_by_cmp result_cmp (p, d) k ≡ (is_name p k.0 && is_details d k.1)
pair_eq p d k = grind arith

abbrev Valid : Name × Details → Unit {0} → Type 0
Valid k x = IsDetails k.1

same_found : (p : Name) (d : Details) → IsDetails d → (es : List Result) → AllEntries Valid es
    → filter (λ (e : Result). is_name p e.0.0 && eq_by_cmp (slice_cmp nat_cmp) (entry_text e.0.1) (entry_text d)) es ≡ at_key result_cmp (p, d) es
same_found p d valid es each =
    filter_same _ (λ (e : Result). eq_by_cmp result_cmp (p, d) e.0) es
    (all_weaker (λ (e : Result). IsDetails e.0.1) _ (λ e h. ap (λ b. is_name p e.0.0 && b) (same_texts d e.0.1 valid h) ∙ sym (pair_eq p d e.0)) es each)

pub finds_archived : (p : Name) (d : Details) → IsDetails d → (old new : State) (rows : List Row) → Shown select_archived (Text p ∷ Text (entry_text d) ∷ []) old new rows → (r : Rows) → Holds old.now r → AreDetails r.archive
    → IsPermutation (map (λ (e : Result). number 1 ∷ []) (at_key result_cmp (p, d) (fmap.entries r.archive))) rows
finds_archived p d valid old new rows shown r h each =
    subst (λ es. IsPermutation (map (λ (e : Result). number 1 ∷ []) es) rows) (same_found p d valid (fmap.entries r.archive) (all_entries results_total Valid r.archive each))
    (answers kept.archive select_archived _ _ _ select_archived_is (Text p ∷ Text (entry_text d) ∷ []) (λ (e : Result). is_name p e.0.0 && eq_by_cmp (slice_cmp nat_cmp) (entry_text e.0.1) (entry_text d)) (λ (e : Result). number 1 ∷ [])
    (λ id e. ap₂ (λ a b. a && b) (same_text e.0.0 p ∙ names_turned e.0.0 p) (and_true _ ∙ same_text (entry_text e.0.1) (entry_text d))) (λ id e. refl) old new rows shown r h)

-- ---- a result among those of a purse

-- what is found in one more row, by tests alone
some_found : (at : Bool) (x : Unit {0}) (found : Option (Unit {0})) → is_some (if at then Some x else found) ≡ (at || is_some found)
some_found at x found = grind arith

among_step : (named at own found : Bool) (f : Result → Bool) (some : Bool) (e : Result) (es : List Result) → (named ≡ true → f e ≡ at) → (at ≡ true → own ≡ named)
    → list_any f es ≡ (found && own) → some ≡ (at || found) → list_any f (if named then e ∷ es else es) ≡ (some && own)
among_step named at own found f some e es one two more is = grind arith

module _ (p : Name) (k : Name × Details) where
  abbrev pub of_purse : Result → Bool
  of_purse e = eq_by_cmp result_cmp k (p, e.0.1)

  among : (es : List Result) → list_any of_purse (of_name p es) ≡ (is_some (fmap.find result_cmp k es) && is_name p k.0)
  among [] = refl
  among (e ∷ es) =
      let one : is_name p e.0.0 ≡ true → of_purse e ≡ eq_by_cmp result_cmp k e.0 = λ t. ap (λ n. eq_by_cmp result_cmp k (n, e.0.1)) (same_name p e.0.0 t) in
      let two : eq_by_cmp result_cmp k e.0 ≡ true → is_name p k.0 ≡ is_name p e.0.0 = λ u. ap (λ (x : Name × Details). is_name p x.0) (results_exact k e.0 (is_equal _ u)) in
      among_step (is_name p e.0.0) (eq_by_cmp result_cmp k e.0) (is_name p k.0) (is_some (fmap.find result_cmp k es)) of_purse _ e (of_name p es) one two
      (among es) (some_found (eq_by_cmp result_cmp k e.0) tt (fmap.find result_cmp k es))

  pub among_tray : (s : FinSet result_cmp) (zs : List Result) → IsPermutation (of_name p (fmap.entries s)) zs → list_any of_purse zs ≡ (fmap.contains_key s k && is_name p k.0)
  among_tray s zs same =
      sym (list_any-IsPermutation of_purse _ _ same) ∙ among (fmap.entries s) ∙ ap (λ (o : Option (Unit {0})). is_some o && is_name p k.0) (sym (fmap.get-entries s k))

-- ---- the tray as a log

pub added_is : (b : Bool) (new old : Entries) (d : Details) → b ≡ true → new ≡ (if b then with_entry old d else old) → new ≡ with_entry old d
added_is b new old d h is = grind arith

pub shows_none : (rows : List Row) (log : Entries) → log ≡ none_logged → Shows log (take 0 rows)
shows_none rows log is = record { details = []; shown = refl; valid = tt; has = λ d. ap (λ l. has_logged l d) is ∙ has-none_logged d }

pub shows_more : (rows : List Row) (at : ℕ) (row : Row) (old new : Entries) (d : Details) → at < length rows → row ≡ get_or rows at row → column row 0 ≡ Text (entry_text d) → IsDetails d → new ≡ with_entry old d
    → Shows old (take at rows) → Shows new (take (at + 1) rows)
shows_more rows at row old new d within is shown valid made h = record {
  details = h.details ++ d ∷ [];
  shown = ap (map first_one) (take_more rows at row within ∙ ap (λ r. take at rows ++ r ∷ []) (sym is)) ∙ map-append first_one (take at rows) (row ∷ [])
      ∙ ap₂ (λ xs v. xs ++ (v ∷ []) ∷ []) h.shown shown ∙ sym (map-append details_shown h.details (d ∷ []));
  valid = All-push IsDetails h.details d h.valid valid;
  has = λ e. ap (λ l. has_logged l e) made ∙ grind (arith, fmap.get-insert details_total old d tt e, h.has e, list_any-append (is_details e) h.details (d ∷ []));
}

pub same_shown : (d e : Details) → IsDetails d → IsDetails e → details_shown d ≡ details_shown e → d ≡ e
same_shown d e one two h = same_entry d e one two (cc)

abbrev pub second : Result → Details
second e = e.0.1

pub any_second : (p : Name) (d : Details) (zs : List Result) → list_any (is_details d) (map second zs) ≡ list_any (of_purse p (p, d)) zs
any_second p d [] = refl
any_second p d (z ∷ zs) = ap₂ (λ a b. a || b) (sym (pair_eq p d (p, second z) ∙ ap (λ b. b && is_details d (second z)) (name_itself p))) (any_second p d zs)

pub tray_read : (p : Name) (r : Rows) → AreDetails r.tray → (rows items : List Row) (log : Entries) → Shows log rows → rows ≡ items → IsPermutation (map (λ (e : Result). details_shown e.0.1) (of_name p (fmap.entries r.tray))) items
    → log ≡ row_tray_of r p
tray_read p r each rows items log h is same =
    let of = pull_back (λ (e : Result). details_shown e.0.1) _ items same (of_name p (fmap.entries r.tray)) refl in
    let zs = of.0 in
    let own = all-filter (λ e. IsDetails (second e)) (λ e. is_name p e.0.0) (fmap.entries r.tray) (all_entries results_total Valid r.tray each) in
    let valid = all-map IsDetails second zs (all-permutation (λ e. IsDetails (second e)) (of_name p (fmap.entries r.tray)) zs of.1 own) in
    let again : map first_one rows ≡ map details_shown (map second zs) =
    ap (map first_one) (is ∙ of.2) ∙ map-map first_one (λ (e : Result). details_shown e.0.1) zs ∙ sym (map-map details_shown second zs) in
    let found : h.details ≡ map second zs = same_made IsDetails details_shown same_shown h.details (map second zs) h.valid valid (sym h.shown ∙ again) in
    same_members details_total details_exact log (row_tray_of r p) (λ d.
    h.has d ∙ ap (list_any (is_details d)) found ∙ any_second p d zs ∙ among_tray p (p, d) r.tray zs of.1
    ∙ ap (λ b. fmap.contains_key r.tray (p, d) && b) (name_itself p) ∙ and-true (fmap.contains_key r.tray (p, d)) ∙ sym (under_has p r.tray d))

-- ---- the tray in the archive

has_details : (p : Name) (k : Name × Details) (s : FinSet result_cmp) (ds : List Details) → fmap.contains_key (and_details p s ds) k ≡ (fmap.contains_key s k || list_any (λ d. eq_by_cmp result_cmp k (p, d)) ds)
has_details p k s [] = grind arith
has_details p k s (d ∷ ds) = grind (arith, has_details p k (fmap.insert s (p, d) tt) ds, fmap.get-insert results_total s (p, d) tt k)

pub archive_all : (p : Name) (tray archive : FinSet result_cmp) (zs : List Result) → IsPermutation (of_name p (fmap.entries tray)) zs
    → and_details p archive (map second zs) ≡ and_results archive (fmap.keys (results_of p tray))
archive_all p tray archive zs same =
    same_members results_total results_exact _ _ (λ k.
    has_details p k archive (map second zs)
    ∙ ap (λ b. fmap.contains_key archive k || b) (any_mapped (λ d. eq_by_cmp result_cmp k (p, d)) second zs ∙ among_tray p k tray zs same ∙ sym (has_kept results_exact tray (λ result. is_name p result.0) k))
    ∙ sym (has-both archive (results_of p tray) k))

details_last : (p : Name) (s : FinSet result_cmp) (ds : List Details) (d : Details) → and_details p s (ds ++ d ∷ []) ≡ fmap.insert (and_details p s ds) (p, d) tt
details_last p s [] d = refl
details_last p s (e ∷ ds) d = details_last p (fmap.insert s (p, e) tt) ds d

-- no row goes to the archive
pub archives_none : (p : Name) (s : State) → s.now.schema ≡ office_schema → Archives p [] s s
archives_none p s has = record { schema = has; goes = none }
  where
    none : (ds : List Details) → map details_shown ds ≡ [] → Brings (λ r. record r { archive = and_details p r.archive ds }) s s
    none [] from = brings_none s has
    none (d ∷ ds) from = absurd (let k = ap length from in omega (arith, k))

last_shown : (ds : List Details) (rows : List Row) (row : Row) → map details_shown ds ≡ rows ++ row ∷ []
    → (es : List Details) × (d : Details) × (ds ≡ es ++ d ∷ []) × (map details_shown es ≡ rows) × (details_shown d ≡ row)
last_shown (d ∷ []) [] row from = ([], d, refl, refl, cc)
last_shown (d ∷ ds) (x ∷ rows) row from =
    let first : details_shown d ≡ x = cc in
    let more = last_shown ds rows row (cc) in
    (d ∷ more.0, more.1, ap (λ es. d ∷ es) more.2, ap₂ (λ y ys. y ∷ ys) first more.3, more.4)
last_shown ds rows row from = absurd (let k = ap length from in omega (arith, k, length-append rows (row ∷ [])))

-- one row more goes to the archive
pub archives_more : (p : Name) (rows : List Row) (at : ℕ) (row : Row) (text : List ℕ) (a b c : State) → at < length rows → row ≡ get_or rows at row → column row 0 ≡ Text text
    → Archives p (take at rows) a b → Archives p ((Text text ∷ []) ∷ []) b c → Archives p (take (at + 1) rows) a c
archives_more p rows at row text a b c within is shows one two = record {
  schema = two.schema;
  goes = λ ds from.
      let it = last_shown ds (take at rows) row (from ∙ take_more rows at row within ∙ ap (λ r. take at rows ++ r ∷ []) (sym is)) in
      let cell : ◌≡◌ {A = Value} (Text (entry_text it.1)) (Text text) = ap (λ (r : Row). column r 0) it.4 ∙ shows in
      goes_as _ _ a c (λ (r : Rows) holds. ap (λ s. record r { archive = s }) (sym (ap (and_details p r.archive) it.2 ∙ details_last p r.archive it.0 it.1)))
      (goes_then _ _ a b c (one.goes it.0 it.3) (two.goes (it.1 ∷ []) (ap (λ (v : Value). (v ∷ []) ∷ []) cell)));
}

-- what is read of a tray, added to the archive and dropped from the tray, has moved
pub archives : (p : Name) (rows items : List Row) (first read put last : State) → rows ≡ items
    → Sees first read (λ r. IsPermutation (map (λ (e : Result). details_shown e.0.1) (of_name p (fmap.entries r.tray))) items)
    → Archives p rows read put → Brings (λ r. record r { tray = results_but p r.tray }) put last → Brings (λ r. rewritten r (ArchiveTray p)) first last
archives p rows items first read put last is found moved emptied = record {
  schema = emptied.schema;
  rows = λ r holds.
      let of = pull_back (λ (e : Result). details_shown e.0.1) _ items (found.value r holds) (of_name p (fmap.entries r.tray)) refl in
      let moves = moved.goes (map second of.0) (map-map details_shown second of.0 ∙ sym of.2 ∙ sym is) in
      let after = emptied.rows _ (moves.rows r (subst (λ (d : Database). Holds d r) (sym found.same) holds)) in
      subst (λ s. Holds last.now (record r { tray = results_but p r.tray; archive = s })) (archive_all p r.tray r.archive of.0 of.1) after;
}

archived_whole : IsWhole select_archived 2 (understood office_schema select_archived)
unfolding understood everything
archived_whole = (le_refl _, refl)

-- the database refuses no such query
pub archived_accepted : (p t : List ℕ) (db : Trees) → Accepts select_archived (Text p ∷ Text t ∷ []) db
archived_accepted p t db = select_accepted select_archived _ _ _ [] _ select_archived_is (Text p ∷ Text t ∷ []) db archived_whole (λ h. cc)
