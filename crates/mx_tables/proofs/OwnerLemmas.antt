-- The index of purses by holder, which a pass over the table of purses makes.
use Rattle.mx_tables.proofs.Common.{[], arith, Bool, column, is_name, length, List, name_cmp, Name, None, PurseRow, refl, Row, Rows, Some, take, Text, ◌&&◌, ◌++◌, ◌+◌, ◌<◌, ◌∙◌, ◌∷◌, ◌≡◌, ℕ, Holds, IsPermutation}
use Rattle.std.proofs.Common.{map, sym, ap, subst, get_or}
use Rattle.std.specs.FinMap as fmap
use Rattle.std.specs.List.{list_any}
use Rattle.std.proofs.lemmas.List.{take_more}
use Rattle.std.proofs.lemmas.List.Sorted.{list_any-IsPermutation, IsPermutation-sym, IsPermutation-to_front}
use Rattle.sqlite.specs.State.{State, Shown}
use Rattle.mx_book.specs.Index.{index_cmp, IsHeld, IsIndex}
use Rattle.mx_book.proofs.IndexLemmas.{has-added}
use Rattle.mx_book.proofs.NameLemmas.{names_total}
use Rattle.std.specs.FinSet.{FinSet}
use Rattle.mx_tables.specs.Answers.{is_owned_in}
use Rattle.mx_tables.proofs.KeptLemmas.{purses}
use Rattle.mx_tables.proofs.LoadLemmas.{any_named}
use Rattle.mx_tables.proofs.MapLists.{any_mapped}
use Rattle.mx_tables.proofs.MemberLemmas.{filter_everything}
use Rattle.mx_tables.proofs.ReadLemmas.{answers}
use Rattle.mx_tables.proofs.Texts.{select_owners, select_owners_is}

abbrev Index : Type 0
Index = FinSet (index_cmp name_cmp)

-- the index tells the purses that these rows name, each under its holder
abbrev pub Lists : List Row → Index → Type 0
Lists rows held = IsIndex name_cmp (λ h p. list_any (is_owned_in h p) rows) held

pub lists_none : (held : Index) → held ≡ fmap.empty → Lists [] held
lists_none held none n None = grind (arith, none, fmap.gets)
lists_none held none n (Some q) = grind (arith, none, fmap.gets)

-- one row more
pub lists_next : (all : List Row) (held : Index) (at : ℕ) (row : Row) (p h : Name) → at < length all → row ≡ get_or all at row → column row 0 ≡ Text p → column row 1 ≡ Text h
    → Lists (take at all) held → Lists (take (at + 1) all) (fmap.insert held (h, Some p) tt)
lists_next all held at row p h within is name holder it n None = has-added name_cmp names_total held n h None p ∙ grind (arith, it n None)
lists_next all held at row p h within is name holder it n (Some q) =
    let more : take at all ++ row ∷ [] ≡ take (at + 1) all = ap (λ r. take at all ++ r ∷ []) is ∙ sym (take_more all at row within) in
    let one : list_any (is_owned_in n q) (take (at + 1) all) ≡ list_any (is_owned_in n q) (row ∷ take at all) = ap (list_any (is_owned_in n q)) (sym more) ∙ list_any-IsPermutation (is_owned_in n q) _ _ (IsPermutation-to_front (take at all) row) in
    let there : is_owned_in n q row ≡ (is_name q p && is_name n h) = rw (name, holder) refl in
    has-added name_cmp names_total held n h (Some q) p ∙ grind (arith, it n (Some q), there, one)

abbrev owner_shown : Name × PurseRow → Row
owner_shown e = Text e.0 ∷ Text e.1.holder ∷ []

-- what the pass over the table lists is held
pub held_listed : (old new : State) (rows : List Row) (held : Index) → Shown select_owners [] old new rows → (r : Rows) → Holds old.now r → Lists rows held → IsHeld r.purses held
held_listed old new rows held shown r h it n None = it n None
held_listed old new rows held shown r h it n (Some p) =
    let all = answers purses select_owners _ _ _ select_owners_is [] (λ _. Bool.true) owner_shown (λ id e. refl) (λ id e. refl) old new rows shown r h in
    let same = subst (λ es. IsPermutation (map owner_shown es) rows) (filter_everything (fmap.entries r.purses)) all in
    it n (Some p) ∙ list_any-IsPermutation (is_owned_in n p) _ _ (IsPermutation-sym _ _ same) ∙ any_mapped (is_owned_in n p) owner_shown (fmap.entries r.purses) ∙ any_named (λ (x : PurseRow). is_name n x.holder) p r.purses
