-- The statements on purses, and what they show.
use Rattle.mx_tables.proofs.Common.{◌≡◌, ℕ, ◌+◌, ℤ, pos, Bool, true, length, List, [], ◌∷◌, codes, Ok, Option, Some, None, refl, ◌∙◌, arith, ◌&&◌, option_map, eq_by_cmp, nat_cmp, Null, Int, Text, Row, column, Term, col, Executes, Binary, name_cmp, is_name, Name, rewritten, Rows, PurseRow, office_schema, number, Holds}
use Rattle.std.proofs.Common.{drop, map, sym, ap, ap₂}
use Rattle.std.specs.Prelude.{nat_lt}
use Rattle.mx_pay.specs.Limits.{most_number}
use Rattle.mx_book.specs.Limits.{most_messages}
use Rattle.std.specs.FinMap.{nat_cmp-IsAntisymmetric}
use Rattle.std.specs.FinMap as fmap
use Rattle.sqlite_rules.specs.Cast.{cast_row}
use Rattle.sqlite_sql.specs.Term.{eval_all}
use Rattle.sqlite.specs.State.{State, Shown}
use Rattle.sqlite_trees.proofs.ListLemmas.{map-map}
use Rattle.sqlite_value.specs.Keys.{ascending}
use Rattle.sqlite_value.proofs.OrderLemmas.{value_cmp-Text, then-Equal}
use Rattle.mx_pay.specs.Codes.{code, entry_texts}
use Rattle.mx_pay.proofs.CodeLemmas.{none_is}
use Rattle.mx_purse.specs.State.{new_purse, State as Purse}
use Rattle.mx_purse.specs.Words.{status_word, status_details}
use Rattle.mx_book.specs.RowEdits.{on_purse, member_at}
use Rattle.mx_book.specs.declared.edits.Edit.TheVariants.{NewPurse, SetPurse}
use Rattle.mx_book.specs.RowReads.{row_finds_place, of_name}
use Rattle.mx_cells.specs.Cells.{purse_cells}
use Rattle.mx_tables.specs.States.{Brings}
use Rattle.mx_tables.specs.Answers.{next_shown, text_shown}
use Rattle.mx_tables.proofs.Texts.{is_given, select_purses, select_purses_is, insert_purse, insert_purse_is, update_purse, update_purse_is, raise_next, raise_next_is}
use Rattle.mx_pay.proofs.TestLemmas.{is_equal}
use Rattle.mx_tables.proofs.Statements.{env, passes}
use Rattle.mx_tables.proofs.StoredLemmas.{and_true, same_text, same_numbers, cast_int, cast_null}
use Rattle.mx_tables.proofs.WriteLemmas.{adds, alters_one, was_there}
use Rattle.mx_tables.proofs.MemberLemmas.{filter_everything}
use Rattle.mx_tables.proofs.ReadLemmas.{answers_in_order}
use Rattle.mx_tables.proofs.KeptLemmas.{purse_place, purses}

-- ---- writes

-- a row of a purse at rest with nothing in it, but for the text of its log
abbrev blank_cells : Name → Name → List ℕ → List Row
blank_cells p h log =
    (Null ∷ Text p ∷ Text h ∷ number 0 ∷ number 0 ∷ Text (codes "eaFrom") ∷ Text [] ∷ Text log ∷ number 0 ∷ number 0 ∷ []) ∷ []

pub adds_purse : (p h : Name) (old new : State) (count : ℕ) → old.now.schema ≡ office_schema → Executes insert_purse (Text p ∷ Text h ∷ []) old new (Ok count) → Brings (λ r. rewritten r (NewPurse p h)) old new
adds_purse p h =
    adds purses insert_purse _ _ insert_purse_is (Text p ∷ Text h ∷ []) (p, record { holder = h; purse = new_purse p; next_message = 0 })
    (rw (cast_null, cast_int (pos 0)) (ap (blank_cells p h) (sym (ap entry_texts none_is))))

-- the columns of an UPDATE that leaves the name and the holder
abbrev pub with_owner : List Term → List Term
with_owner others = col 1 0 ∷ col 1 0 ∷ col 1 1 ∷ col 1 2 ∷ others

abbrev purse_params : Purse → Row
purse_params q = number q.balance ∷ number q.next ∷ Text (status_word q.status) ∷ Text (status_details q.status) ∷ Text (code q.log) ∷ number q.lines ∷ []

pub sets_purse : (q : Purse) → (old new : State) → old.now.schema ≡ office_schema → Executes update_purse (Text q.name ∷ purse_params q) old new (Ok 1) → Brings (λ r. rewritten r (SetPurse q)) old new
sets_purse q old new has ran =
    alters_one purses update_purse _ _ update_purse_is (Text q.name ∷ purse_params q) q.name (λ _. true) (λ x. record x { purse = q }) (λ id e. ap (λ b. b && true) (same_text e.0 q.name)) (λ id e. refl)
    (λ id e. rw (cast_int id, cast_int (pos q.balance), cast_int (pos q.next), cast_int (pos q.lines), cast_int (pos e.1.next_message)) refl) old new has ran
    _ (λ r x at. ap (λ o. on_purse o r (λ x. record r { purses = fmap.insert r.purses q.name (record x { purse = q }) })) at)

abbrev raise_columns : List Term
raise_columns = col 1 3 ∷ col 1 4 ∷ col 1 5 ∷ col 1 6 ∷ col 1 7 ∷ col 1 8 ∷ col 0 1 ∷ []

-- an UPDATE of the number of one purse's next message, where it is n
module _ (p : Name) (n : ℕ) (old new : State) (has : old.now.schema ≡ office_schema) (ran : Executes raise_next (Text p ∷ number (n + 1) ∷ number n ∷ []) old new (Ok 1)) where
  abbrev raised : PurseRow → PurseRow
  raised x = record x { next_message = n + 1 }

  abbrev is_next : PurseRow → Bool
  is_next x = eq_by_cmp nat_cmp x.next_message n

  abbrev given : Row
  given = Text p ∷ number (n + 1) ∷ number n ∷ []

  tests : (id : ℤ) (e : Name × PurseRow) → passes (is_given 1 0 ∷ is_given 9 2 ∷ []) given (Int id ∷ purse_cells e) ≡ (is_name e.0 p && is_next e.1)
  tests id e = ap₂ (λ x y. x && y) (same_text e.0 p) (and_true _ ∙ same_numbers e.1.next_message n)

  forms : (id : ℤ) (e : Name × PurseRow) → cast_row purse_place.table (drop 1 (eval_all (with_owner raise_columns) (env given (Int id ∷ purse_cells e)))) ≡ Int id ∷ purse_cells (e.0, raised e.1)
  forms id e = rw (cast_int id, cast_int (pos e.1.purse.balance), cast_int (pos e.1.purse.next), cast_int (pos e.1.purse.lines), cast_int (pos (n + 1))) refl

  pub was_next : (r : Rows) → Holds old.now r → option_map (λ (x : PurseRow). x.next_message) (fmap.get r.purses p) ≡ Some n
  was_next r h =
      let it = was_there purses raise_next _ _ raise_next_is _ p is_next raised tests (λ id e. refl) forms old new has ran r h in
      ap (option_map (λ (x : PurseRow). x.next_message)) it.1 ∙ ap Some (nat_cmp-IsAntisymmetric it.0.next_message n (is_equal _ it.2))

  pub raises_next : Brings (λ r. on_purse (fmap.get r.purses p) r (λ x. record r { purses = fmap.insert r.purses p (raised x) })) old new
  raises_next =
      alters_one purses raise_next _ _ raise_next_is _ p is_next raised tests (λ id e. refl) forms old new has ran
      _ (λ r x at. ap (λ o. on_purse o r (λ x. record r { purses = fmap.insert r.purses p (raised x) })) at)

-- ---- the names

pub lists_purses : (old new : State) (rows : List Row) → Shown select_purses [] old new rows → (r : Rows) → Holds old.now r → rows ≡ map text_shown (fmap.keys r.purses)
lists_purses old new rows shown r h =
    answers_in_order purses [] (col 1 1 ∷ []) ((col 1 1, ascending Binary) ∷ []) [] (λ _. true) (λ (e : Name × PurseRow). (text_shown e.0, text_shown e.0)) (λ id e. refl) (λ id e. refl)
    (λ a b _ _ low. then-Equal _ ∙ value_cmp-Text a.0 b.0 ∙ low) select_purses (codes "name" ∷ []) select_purses_is old new rows shown r h
    ∙ ap (map (λ (e : Name × PurseRow). text_shown e.0)) (filter_everything (fmap.entries r.purses))
    ∙ sym (map-map text_shown (λ (e : Name × PurseRow). e.0) (fmap.entries r.purses))

-- ---- what a look at one column says of a row

pub next_found : (o : Option PurseRow) (row : Option Row) (n : Option ℕ) → row ≡ option_map next_shown o → option_map (λ r. column r 0) row ≡ option_map number n → n ≡ option_map (λ (x : PurseRow). x.next_message) o
next_found o row n is read = grind (arith, is, read)

pub row_absent : {X : Type 0} (f : PurseRow → X) (o : Option PurseRow) → None ≡ option_map f o → o ≡ None
row_absent f o e = grind (arith, e)

pub member_found : (holders : fmap.FinMap name_cmp Name) (o : Option PurseRow) (h : Name) → Some h ≡ option_map (λ (x : PurseRow). x.holder) o → member_at holders o ≡ fmap.get holders h
member_found holders o h e = grind (arith, e)

-- a purse that is there finds a place by its inbox and its next number
pub place_found : (r : Rows) (p : Name) (x : PurseRow) (room : Bool) → fmap.get r.purses p ≡ Some x → room ≡ nat_lt (length (of_name p (fmap.entries r.inbox))) most_messages → (room && nat_lt x.next_message most_number) ≡ row_finds_place r p
place_found r p x room at is = grind (arith, at, is)
