-- The statements on lines, and what is read of the lines of a purse.
use Rattle.mx_tables.proofs.Common.{◌≡◌, ℕ, pos, List, [], ◌∷◌, codes, Ok, refl, arith, ◌+◌, ◌≤◌, ◌&&◌, ◌++◌, take, length, ◌∙◌, Some, None, Null, Text, Int, col, Term, Executes, is_name, Name, Rows, office_schema, number, Brings, AllByRecursion, length-map, Binary, Row, Database, state, Holds}
use Rattle.std.proofs.Common.{map, sym, ap, ap₂}
use Rattle.std.specs.FinMap as fmap
use Rattle.std.specs.Ordering.{is_gt}
use Rattle.std.proofs.lemmas.Bool.Decides.{nat_tests}
use Rattle.sqlite_sql.specs.Term.{lit, op2}
use Rattle.sqlite.specs.State.{State, Shown}
use Rattle.sqlite.specs.Listing.{understood}
use Rattle.sqlite_tied.specs.Compute.{everything}
use Rattle.mx_book.specs.Rows.{line_row}
use Rattle.mx_book.specs.Words.{kind_text, note_text}
use Rattle.mx_book.specs.declared.values.Line.{Line}
use Rattle.mx_book.specs.declared.values.LineRow.{LineRow}
use Rattle.mx_tables.proofs.Texts.{IsInsert, scan, alone, is_given, IsSelect}
use Rattle.mx_tables.proofs.StoredLemmas.{cast_int, cast_null, and_true, same_text, if_truth, numbers_cmp}
use Rattle.mx_tables.proofs.WriteLemmas.{adds}
use Rattle.mx_tables.proofs.KeptLemmas as kept
use Rattle.std.specs.Prelude.{nat_lt}
use Rattle.std.specs.List.{take-map}
use Rattle.std.specs.Cmp.{first_so}
use Rattle.std.proofs.Math.Seq.{take-nil}
use Rattle.sqlite_trees.proofs.ListLemmas.{all_weaker, all-filter}
use Rattle.std.proofs.ByRecursion.{All-map, All-take}
use Rattle.std.proofs.lemmas.List.{take_at, take_all, map-append}
use Rattle.sqlite_value.specs.declared.keys.Key.{Key}
use Rattle.sqlite_value.specs.Keys.{ascending}
use Rattle.sqlite_value.proofs.OrderLemmas.{value_cmp-Int, then-Equal}
use Rattle.sqlite_trees.proofs.ListLemmas.{map-map, filter_none}
use Rattle.sqlite_sql.specs.declared.ops.BinaryOp.TheVariants.{Compare}
use Rattle.sqlite_sql.specs.declared.ops.CompareOp.TheVariants.{Gt}
use Rattle.sqlite_sql.specs.Ops.{binary, is_true}
use Rattle.sqlite_schema.specs.declared.command.Command.TheVariants.{Select}
use Rattle.sqlite_trees.specs.declared.store.Store as store
use Rattle.sqlite.specs.Effect.{Reads}
use Rattle.sqlite.specs.Given.{HasGiven}
use Rattle.sqlite.specs.Held.{Held}
use Rattle.sqlite.proofs.Callers.{reads_as, begins_as, given_begin}
use Rattle.mx_pay.proofs.SameLemmas.{names_turned}
use Rattle.mx_pay.specs.Limits.{most_number}
use Rattle.mx_book.specs.RowReads.{row_lines_of, line_of_row}
use Rattle.mx_book.specs.Conditions.{IsNote}
use Rattle.mx_book.proofs.MapLemmas.{all_entries}
use Rattle.mx_book.proofs.WordLemmas.{same_kind}
use Rattle.mx_tables.specs.Pages.{lines_above, GivesLine, AreLines}
use Rattle.mx_cells.specs.Cells.{line_shown, first_five}
use Rattle.mx_tables.proofs.ReadLemmas.{reads_in_order}
use Rattle.mx_tables.proofs.InboxLemmas.{second_less, same_first}
use Rattle.mx_tables.proofs.ValueLemmas.{same_made, same_note}

abbrev pub insert_line : List ℕ
insert_line = codes "INSERT INTO line (purse, number, kind, amount, balance, note) VALUES (?1, ?2, ?3, ?4, ?5, ?6)"

pub insert_line_is : IsInsert insert_line 6 (lit Null ∷ col 0 0 ∷ col 0 1 ∷ col 0 2 ∷ col 0 3 ∷ col 0 4 ∷ col 0 5 ∷ []) 7
unfolding understood everything
insert_line_is = record { is = refl; plain = (refl, refl) }

pub adds_line : (p : Name) (l : Line) (old new : State) (count : ℕ) → old.now.schema ≡ office_schema
    → Executes insert_line (Text p ∷ number l.number ∷ Text (kind_text l.kind) ∷ number l.amount ∷ number l.balance ∷ Text (note_text l.note) ∷ []) old new (Ok count)
    → Brings (λ r. record r { lines = fmap.insert r.lines (p, l.number) (line_row l) }) old new
adds_line p l =
    adds kept.lines insert_line _ _ insert_line_is (Text p ∷ number l.number ∷ Text (kind_text l.kind) ∷ number l.amount ∷ number l.balance ∷ Text (note_text l.note) ∷ []) ((p, l.number), line_row l)
    (rw (cast_null, cast_int (pos l.number), cast_int (pos l.amount), cast_int (pos l.balance)) refl)

-- ---- the page of a purse

abbrev pub select_lines : List ℕ
select_lines = codes "SELECT number, kind, amount, balance, note FROM line WHERE purse = ?1 AND number > ?2 ORDER BY number"

-- the number of the row is above the parameter
abbrev is_above : Term
is_above = op2 (Compare Gt Binary) (col 1 2) (col 0 1)

above_is : (m n : ℕ) → is_true (binary (Compare Gt Binary) (Int (pos m)) (Int (pos n))) ≡ nat_lt n m
unfolding binary
above_is m n = if_truth _ ∙ ap is_gt (value_cmp-Int (pos m) (pos n) ∙ numbers_cmp m n) ∙ grind (arith, nat_tests)

abbrev terms : List Term
terms = is_given 1 0 ∷ is_above ∷ []

abbrev project : List Term
project = col 1 2 ∷ col 1 3 ∷ col 1 4 ∷ col 1 5 ∷ col 1 6 ∷ []

abbrev order : List (Term × Key)
order = (col 1 2, ascending Binary) ∷ []

abbrev names : List (List ℕ)
names = codes "number" ∷ codes "kind" ∷ codes "amount" ∷ codes "balance" ∷ codes "note" ∷ []

pub select_lines_is : IsSelect select_lines 12 terms project order names
unfolding understood everything
select_lines_is = record { is = refl; query = record { plain = (refl, refl); silent = λ _ _. refl }; unlisted = refl }

module _ (p : Name) (after : ℕ) where
  abbrev pub given : Row
  given = Text p ∷ number after ∷ []

  abbrev pub all_shown : Rows → List Row
  all_shown r = map (λ e. line_shown (line_of_row e)) (lines_above p after r)

  reads_lines : (db : Database) (rows : List Row) → Reads (Select (alone (scan 12 terms project order)) names) db given rows → (r : Rows) → Holds db r → rows ≡ all_shown r
  reads_lines =
      reads_in_order kept.lines terms project order given
      (λ (e : (Name × ℕ) × LineRow). is_name p e.0.0 && nat_lt after e.0.1) (λ (e : (Name × ℕ) × LineRow). (number e.0.1 ∷ [], line_shown (line_of_row e)))
      (λ id e. ap₂ (λ a b. a && b) (same_text e.0.0 p ∙ names_turned e.0.0 p) (and_true _ ∙ above_is e.0.1 after)) (λ id e. refl)
      (λ a b s t low. then-Equal _ ∙ value_cmp-Int (pos a.0.1) (pos b.0.1) ∙ numbers_cmp a.0.1 b.0.1 ∙ second_less _ _ (same_first p a.0.0 b.0.0 (first_so (is_name p a.0.0) (nat_lt after a.0.1) s) (first_so (is_name p b.0.0) (nat_lt after b.0.1) t)) low)
      names

  -- the query ended: its rows are those of all lines
  pub ended : (old new : State) (rows : List Row) → Shown select_lines given old new rows → (r : Rows) → Holds old.now r → rows ≡ all_shown r
  ended old new rows shown r h =
      reads_lines old.now rows (reads_as select_lines given old new office_schema h.has.schema _ select_lines_is.is select_lines_is.query.plain select_lines_is.unlisted rows shown) r h

  -- it has given some rows: those of all lines begin with them
  pub begins : {S : Type 0} (g : store.Ghosts S) (h : Held S) (rows : List Row) → HasGiven g select_lines given h rows → (r : Rows) → Holds (state g h).now r → (tail : List Row) × (rows ++ tail ≡ all_shown r)
  begins g h rows has r holds =
      let s = state g h in
      let first = begins_as select_lines given s s office_schema holds.has.schema _ select_lines_is.is select_lines_is.query.plain select_lines_is.unlisted rows (given_begin g select_lines given h rows has) in
      (first.1.0, reads_lines s.now (rows ++ first.1.0) (record { typed = first.0; answer = first.1.1 }) r holds)

-- ---- one line more

module _ {S : Type 0} (g : store.Ghosts S) (sql : List ℕ) (params : Row) (old new : Held S) (rows : List Row) (has : HasGiven g sql params old rows) where
  pub gives_one : (ls : List Line) → map first_five rows ≡ map line_shown ls → (l : Line) → GivesLine g old new (Some l) → (all : List Row) × HasGiven g sql params new all × (map first_five all ≡ map line_shown (ls ++ l ∷ []))
  gives_one ls read l (None, gives, is) = absurd (cc)
  gives_one ls read l (Some row, gives, is) =
      let here : first_five row ≡ line_shown l = cc in
      (rows ++ row ∷ [], gives sql params rows has, map-append first_five rows (row ∷ []) ∙ ap₂ (λ a b. a ++ b ∷ []) read here ∙ sym (map-append line_shown ls (l ∷ [])))

  pub no_more : GivesLine g old new None → Shown sql params (state g old) (state g new) rows
  no_more (None, gives, is) = gives sql params rows has
  no_more (Some row, gives, is) = absurd (cc)

-- ---- lines that show the same rows are the same

abbrev pub Noted : Line → Type 0
Noted l = IsNote l.note

same_line : (a b : Line) → Noted a → Noted b → line_shown a ≡ line_shown b → a ≡ b
same_line a b one two h =
    let kind = same_kind a.kind b.kind (cc) in
    let note = same_note a.note b.note one two (cc) in
    grind (arith, h, kind, note)

-- ---- a page of lines

abbrev IsPageRow : Name × ℕ → LineRow → Type 0
IsPageRow k x = (k.1 ≤ most_number + 2) × IsNote x.note

module _ (p : Name) (after most : ℕ) (r : Rows) (valid : AreLines r) where
  page_read : (rows : List Row) (ls : List Line) → map first_five (take most rows) ≡ map line_shown ls → AllByRecursion (λ l. IsNote l.note) ls → rows ≡ all_shown p after r → ls ≡ row_lines_of r p after most
  page_read rows ls read mine is =
      let found = take most (lines_above p after r) in
      let page : map first_five (take most rows) ≡ map line_shown (map line_of_row found) =
      ap (λ rs. map first_five (take most rs)) is ∙ ap (map first_five) (take-map (λ e. line_shown (line_of_row e)) most (lines_above p after r))
      ∙ map-map first_five (λ e. line_shown (line_of_row e)) found ∙ sym (map-map line_shown line_of_row found) in
      let all = all_entries kept.pairs_key.total (λ _ x. IsNote x.note) r.lines (λ k x at. (valid k x at).1) in
      let above = all-filter (λ (e : (Name × ℕ) × LineRow). IsNote e.1.note) _ (fmap.entries r.lines) all in
      let noted = All-map Noted line_of_row found (All-take (λ (e : (Name × ℕ) × LineRow). IsNote e.1.note) most (lines_above p after r) above) in
      same_made Noted line_shown same_line ls (map line_of_row found) mine noted (sym read ∙ page)

  -- as many rows were taken as the page has at most
  pub full_page : (rows tail : List Row) (ls : List Line) → map first_five rows ≡ map line_shown ls → AllByRecursion (λ l. IsNote l.note) ls → length ls ≡ most → rows ++ tail ≡ all_shown p after r → ls ≡ row_lines_of r p after most
  full_page rows tail ls read mine many is =
      let count : length rows ≡ most = sym (length-map rows first_five) ∙ ap length read ∙ length-map ls line_shown ∙ many in
      page_read (rows ++ tail) ls (ap (map first_five) (take_at rows tail most count) ∙ read) mine is

  -- the rows ended before
  pub last_page : (rows : List Row) (ls : List Line) → map first_five rows ≡ map line_shown ls → AllByRecursion (λ l. IsNote l.note) ls → length ls ≤ most → rows ≡ all_shown p after r → ls ≡ row_lines_of r p after most
  last_page rows ls read mine few is =
      let count : length rows ≡ length ls = sym (length-map rows first_five) ∙ ap length read ∙ length-map ls line_shown in
      page_read rows ls (ap (map first_five) (take_all most rows (omega (arith, count, few))) ∙ read) mine is

-- no line is numbered above the most
pub no_page : (p : Name) (after most : ℕ) (r : Rows) → AreLines r → most_number + 2 ≤ after → row_lines_of r p after most ≡ []
no_page p after most r valid high =
    ap (λ es. map line_of_row (take most es))
    (filter_none _ (fmap.entries r.lines)
    (all_weaker (λ (e : (Name × ℕ) × LineRow). IsPageRow e.0 e.1) _ (λ e h. grind (arith, nat_tests, h.0, high)) (fmap.entries r.lines)
    (all_entries kept.pairs_key.total IsPageRow r.lines valid)))
    ∙ ap (map line_of_row) (take-nil most)
