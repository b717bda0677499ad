-- The statements on the settled details.
use Rattle.mx_tables.proofs.Common.{◌≡◌, ℕ, pos, List, [], ◌∷◌, filter, codes, Ok, refl, ◌∙◌, IsPermutation, eq_by_cmp, nat_cmp, Null, Int, Text, Row, col, Executes, Rows, office_schema, number, Holds, Brings}
use Rattle.std.proofs.Common.{le_refl, map, subst}
use Rattle.std.specs.Cmp.Lexicographic.{slice_cmp}
use Rattle.std.specs.FinMap as fmap
use Rattle.sqlite.specs.Listing.{understood}
use Rattle.sqlite.specs.State.{State, Shown}
use Rattle.sqlite_sql.specs.Term.{lit}
use Rattle.sqlite_tied.specs.Compute.{everything}
use Rattle.sqlite_trees.proofs.ListLemmas.{all_weaker, filter_same}
use Rattle.mx_pay.proofs.LogLemmas.{details_total}
use Rattle.mx_pay.specs.Codes.{entry_text}
use Rattle.mx_pay.specs.Details.{Details, IsDetails, details_cmp}
use Rattle.mx_book.proofs.FoundLemmas.{some_of}
use Rattle.mx_book.proofs.MapLemmas.{all_entries}
use Rattle.mx_book.specs.Conditions.{AreSettled}
use Rattle.mx_book.specs.declared.edits.Edit.TheVariants.{AddSettled}
use Rattle.mx_book.specs.RowEdits.{rewritten}
use Rattle.mx_tables.specs.Answers.{at_key}
use Rattle.mx_tables.proofs.KeptLemmas as kept
use Rattle.sqlite_trees.specs.Tree.{Trees}
use Rattle.mx_tables.specs.States.{Accepts}
use Rattle.mx_tables.proofs.FaultLemmas.{IsWhole, select_accepted}
use Rattle.mx_tables.proofs.ReadLemmas.{answers}
use Rattle.mx_tables.proofs.ResultLemmas.{same_texts}
use Rattle.mx_tables.proofs.StoredLemmas.{and_true, cast_null, same_text}
use Rattle.mx_tables.proofs.Texts.{is_given, IsInsert, IsSelect}
use Rattle.mx_tables.proofs.WriteLemmas.{adds}

abbrev pub insert_settled : List ℕ
insert_settled = codes "INSERT INTO settled (details) VALUES (?1)"

insert_settled_is : IsInsert insert_settled 11 (lit Null ∷ col 0 0 ∷ []) 2
unfolding understood everything
insert_settled_is = record { is = refl; plain = (refl, refl) }

abbrev pub select_settled : List ℕ
select_settled = codes "SELECT 1 FROM settled WHERE details = ?1"

pub select_settled_is : IsSelect select_settled 22 (is_given 1 0 ∷ []) (lit (Int (pos 1)) ∷ []) [] (codes "1" ∷ [])
unfolding understood everything
select_settled_is = record { is = refl; query = record { plain = (refl, refl); silent = λ _ _. refl }; unlisted = refl }

pub adds_settled : (d : Details) (old new : State) (count : ℕ) → old.now.schema ≡ office_schema → Executes insert_settled (Text (entry_text d) ∷ []) old new (Ok count)
    → Brings (λ r. rewritten r (AddSettled d)) old new
adds_settled d = adds kept.settled insert_settled _ _ insert_settled_is (Text (entry_text d) ∷ []) (d, tt) (rw cast_null refl)

abbrev Settled : Type 0
Settled = Details × Unit {0}

-- what has the text of details is these details
same_settled : (d : Details) → IsDetails d → (r : Rows) → AreSettled r.settled
    → filter (λ (e : Settled). eq_by_cmp (slice_cmp nat_cmp) (entry_text e.0) (entry_text d)) (fmap.entries r.settled) ≡ at_key details_cmp d (fmap.entries r.settled)
same_settled d valid r each =
    filter_same _ (λ (e : Settled). eq_by_cmp details_cmp d e.0) (fmap.entries r.settled)
    (all_weaker (λ (e : Settled). IsDetails e.0) _ (λ e h. same_texts d e.0 valid h) (fmap.entries r.settled)
    (all_entries details_total (λ k x. IsDetails k) r.settled (λ k x at. each k (some_of (fmap.get r.settled k) x at))))

pub finds_settled : (d : Details) → IsDetails d → (old new : State) (rows : List Row) → Shown select_settled (Text (entry_text d) ∷ []) old new rows → (r : Rows) → Holds old.now r → AreSettled r.settled
    → IsPermutation (map (λ (e : Settled). number 1 ∷ []) (at_key details_cmp d (fmap.entries r.settled))) rows
finds_settled d valid old new rows shown r h each =
    subst (λ es. IsPermutation (map (λ (e : Settled). number 1 ∷ []) es) rows) (same_settled d valid r each)
    (answers kept.settled select_settled _ _ _ select_settled_is (Text (entry_text d) ∷ []) (λ (e : Settled). eq_by_cmp (slice_cmp nat_cmp) (entry_text e.0) (entry_text d)) (λ (e : Settled). number 1 ∷ [])
    (λ id e. and_true _ ∙ same_text (entry_text e.0) (entry_text d)) (λ id e. refl) old new rows shown r h)

settled_whole : IsWhole select_settled 1 (understood office_schema select_settled)
unfolding understood everything
settled_whole = (le_refl _, refl)

-- the database refuses no such query
pub settled_accepted : (t : List ℕ) (db : Trees) → Accepts select_settled (Text t ∷ []) db
settled_accepted t db = select_accepted select_settled _ _ _ [] _ select_settled_is (Text t ∷ []) db settled_whole (λ h. cc)
