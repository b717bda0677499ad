-- What is stored of a typed row, what its query shows of it, and that a row is read in one way.
use Rattle.std.proofs.Common.{◌≡◌, ℕ, ℤ, Bool, false, true, [], ◌∷◌, Option, Some, pos, length, drop, refl, sym, ◌∙◌, ap, subst, arith}
use Rattle.std.specs.Prelude.{IsTrue}
use Rattle.std.specs.List.{AllByRecursion}
use Rattle.std.specs.Cmp.{first_so, second_so}
use Rattle.sqlite_value.specs.declared.value.Value.{Value}
use Rattle.sqlite_value.specs.declared.value.Value.TheVariants.{Null, Int}
use Rattle.sqlite_value.specs.Order.{Row, column}
use Rattle.sqlite_trees.specs.Tree.{rowid}
use Rattle.sqlite_trees.specs.View.{is_int}
use Rattle.sqlite_schema.specs.declared.schema.Table.{Table}
use Rattle.sqlite_schema.specs.Rules.{are_typed}
use Rattle.sqlite_sql.specs.Ops.{is_null}
use Rattle.hex.specs.Hex.{encode_lower}
use Rattle.mx_pay.specs.Tokens.{token_of, IsToken}
use Rattle.mx_pay.proofs.TextLemmas.{same_entry}
use Rattle.mx_purse.proofs.WordLemmas.{same_message}
use Rattle.mx_book.specs.World.{Name}
use Rattle.mx_book.specs.World as book
use Rattle.mx_book.specs.Conditions.{IsNote}
use Rattle.mx_book.specs.declared.values.LineRow.{LineRow}
use Rattle.mx_book.specs.declared.values.MemberRow.{MemberRow}
use Rattle.mx_book.specs.declared.values.Redemption as values
use Rattle.mx_book.proofs.WordLemmas.{same_kind}
use Rattle.mx_cells.specs.Cells.{number, token_cells, member_cells, holder_cells, purse_cells, message_cells, line_cells, result_cells, load_cells, redemption_cells, settled_cells, purse_shown}
use Rattle.mx_cells.specs.Entries.{HasColumns}
use Rattle.mx_cells.proofs.TextLemmas.{token_back}
use Rattle.mx_tables.specs.Schema as schema
use Rattle.mx_tables.proofs.ValueLemmas.{same_caller, purse_back, same_note}
use Rattle.mx_tables.proofs.Places.{but_number}
use Rattle.mx_audit.specs.Audited.{shown_of}
use Rattle.mx_audit.specs.Typed.{source_of, kept, IsTyped, IsShown}
use Rattle.mx_audit.specs.declared.typed.Source.{Source}
use Rattle.mx_audit.specs.declared.typed.Source.TheVariants as source
use Rattle.mx_audit.specs.declared.typed.TypedRow.{TypedRow}
use Rattle.mx_audit.specs.declared.typed.TypedRow.TheVariants.{Version, Member, Holder, Token, Purse, Message, Line, Laid, Archived, Load, Redemption, Settled}
use Rattle.mx_audit.proofs.CellLemmas.{At, IsPresent, few_columns, stores_cells}

-- what is stored of it after its number
abbrev pub cells_of_row : TypedRow → Row
cells_of_row Version = Null ∷ number 2 ∷ []
cells_of_row (Member name member) = member_cells (name, member)
cells_of_row (Holder holder member) = holder_cells (holder, member)
cells_of_row (Token token caller) = token_cells (token, caller)
cells_of_row (Purse name purse) = purse_cells (name, purse)
cells_of_row (Message purse number message) = message_cells ((purse, number), message)
cells_of_row (Line purse number line) = line_cells ((purse, number), line)
cells_of_row (Laid purse details) = result_cells ((purse, details), tt)
cells_of_row (Archived purse details) = result_cells ((purse, details), tt)
cells_of_row (Load purse reference amount) = load_cells ((purse, reference), amount)
cells_of_row (Redemption purse reference redemption) = redemption_cells ((purse, reference), redemption)
cells_of_row (Settled details) = settled_cells (details, tt)

-- the number that it may have: that of the version is 1
abbrev pub MayHave : TypedRow → ℤ → Type 0
MayHave Version id = id ≡ pos 1
MayHave _ id = Unit {0}

-- a row stores it
pub record StoresRow (row : Row) (e : TypedRow) : Type 0 where
  pub id : ℤ
  pub is : row ≡ Int id ∷ cells_of_row e
  pub may : MayHave e id

-- the table of each source
abbrev pub table_of : Source → Table
table_of source.Meta = schema.meta
table_of source.Members = schema.member
table_of source.Holders = schema.holder
table_of source.Tokens = schema.token
table_of source.Purses = schema.purse
table_of source.Inbox = schema.inbox
table_of source.Lines = schema.line
table_of source.Tray = schema.tray
table_of source.Archive = schema.archive
table_of source.Loads = schema.load
table_of source.Redemptions = schema.redemption
table_of source.Settled = schema.settled

-- a row has a number, and the types of its table
pub record IsRaw (from : Source) (row : Row) : Type 0 where
  pub numbered : IsTrue (is_int (rowid row))
  pub typed : are_typed (table_of from).key 0 (table_of from).columns (drop 1 row) ≡ true

-- ---- what is stored is shown so

pub shown_stored : (e : TypedRow) (id : ℤ) → MayHave e id → HasColumns (shown_of (source_of e) (Int id ∷ cells_of_row e)) 0 (kept e)
shown_stored Version id is = (refl, (ap Int is, tt))
shown_stored (Member name member) id is = (refl, (refl, (refl, tt)))
shown_stored (Holder holder member) id is = (refl, (refl, tt))
shown_stored (Token token caller) id is = (refl, (refl, (refl, tt)))
shown_stored (Purse name purse) id is = (refl, (refl, (refl, (refl, (refl, (refl, (refl, (refl, (refl, tt)))))))))
shown_stored (Message purse number message) id is = (refl, (refl, (refl, (refl, tt))))
shown_stored (Line purse number line) id is = (refl, (refl, (refl, (refl, (refl, (refl, tt))))))
shown_stored (Laid purse details) id is = (refl, (refl, tt))
shown_stored (Archived purse details) id is = (refl, (refl, tt))
shown_stored (Load purse reference amount) id is = (refl, (refl, (refl, tt)))
shown_stored (Redemption purse reference redemption) id is = (refl, (refl, (refl, (refl, tt))))
shown_stored (Settled details) id is = (refl, tt)

-- ---- and what is shown so is stored

pub null_is : (v : Value) → is_null v ≡ true → v ≡ Null
null_is v h = grind arith

pub never : ◌≡◌ {A = Bool} false true → ⊥
never h = cc

version_stored : (row : Row) → IsRaw source.Meta row → HasColumns (shown_of source.Meta row) 0 (kept Version) → StoresRow row Version
version_stored [] raw h = absurd (cc)
version_stored (x ∷ []) raw h = absurd (cc)
version_stored (x ∷ y ∷ []) raw h = absurd (cc)
version_stored (x ∷ y ∷ z ∷ []) raw h =
    let first : x ≡ number 1 = h.1.0 in
    let null = null_is y (first_so _ _ raw.typed) in
    let last : z ≡ number 2 = h.0 in
    record { id = pos 1; is = cc; may = refl }
version_stored (x ∷ y ∷ z ∷ w ∷ row) raw h = absurd (never (second_so _ _ (second_so _ _ raw.typed)))

module _ (from : Source) (row : Row) (raw : IsRaw from row) where
  stores : (e : TypedRow) → (MayHave e ≡ λ _. Unit {0}) → length (table_of from).columns ≡ length (cells_of_row e)
      → AllByRecursion IsPresent (cells_of_row e) → At row 1 (cells_of_row e) → StoresRow row e
  stores e free wide there at =
      let few = few_columns (table_of from).key 0 (table_of from).columns (drop 1 row) raw.typed in
      let it = stores_cells row (cells_of_row e) raw.numbered (omega (arith, few, wide)) there at in
      record { id = it.0; is = it.1; may = subst (λ (T : ℤ → Type 0). T it.0) (sym free) tt }

stored_cells : (e : TypedRow) (row : Row) → IsRaw (source_of e) row → HasColumns (shown_of (source_of e) row) 0 (kept e) → StoresRow row e
stored_cells Version row raw h = version_stored row raw h
stored_cells (Member name member) row raw h =
    stores source.Members row raw (Member name member) refl refl (tt, (tt, (tt, tt))) (h.1.1.0, (h.0, (h.1.0, tt)))
stored_cells (Holder holder member) row raw h = stores source.Holders row raw (Holder holder member) refl refl (tt, (tt, tt)) (h.1.0, (h.0, tt))
stored_cells (Token token caller) row raw h =
    stores source.Tokens row raw (Token token caller) refl refl (tt, (tt, (tt, tt))) (h.1.1.0, (h.0, (h.1.0, tt)))
stored_cells (Purse name purse) row raw h =
    stores source.Purses row raw (Purse name purse) refl refl (tt, (tt, (tt, (tt, (tt, (tt, (tt, (tt, (tt, tt)))))))))
    (h.1.1.1.1.1.1.1.1.0, (h.0, (h.1.0, (h.1.1.0, (h.1.1.1.0, (h.1.1.1.1.0, (h.1.1.1.1.1.0, (h.1.1.1.1.1.1.0, (h.1.1.1.1.1.1.1.0, tt)))))))))
stored_cells (Message purse number message) row raw h =
    stores source.Inbox row raw (Message purse number message) refl refl (tt, (tt, (tt, (tt, tt)))) (h.1.1.1.0, (h.0, (h.1.0, (h.1.1.0, tt))))
stored_cells (Line purse number line) row raw h =
    stores source.Lines row raw (Line purse number line) refl refl (tt, (tt, (tt, (tt, (tt, (tt, tt))))))
    (h.1.1.1.1.1.0, (h.0, (h.1.0, (h.1.1.0, (h.1.1.1.0, (h.1.1.1.1.0, tt))))))
stored_cells (Laid purse details) row raw h = stores source.Tray row raw (Laid purse details) refl refl (tt, (tt, tt)) (h.1.0, (h.0, tt))
stored_cells (Archived purse details) row raw h = stores source.Archive row raw (Archived purse details) refl refl (tt, (tt, tt)) (h.1.0, (h.0, tt))
stored_cells (Load purse reference amount) row raw h =
    stores source.Loads row raw (Load purse reference amount) refl refl (tt, (tt, (tt, tt))) (h.1.1.0, (h.1.0, (h.0, tt)))
stored_cells (Redemption purse reference redemption) row raw h =
    stores source.Redemptions row raw (Redemption purse reference redemption) refl refl (tt, (tt, (tt, (tt, tt))))
    (h.1.1.1.0, (h.1.1.0, (h.0, (h.1.0, tt))))
stored_cells (Settled details) row raw h = stores source.Settled row raw (Settled details) refl refl (tt, tt) (h.0, tt)

pub shows_stored : (from : Source) (row : Row) (e : TypedRow) → source_of e ≡ from → StoresRow row e → IsShown from (shown_of from row) e
shows_stored from row e is it =
    let own = subst (λ (r : Row). HasColumns (shown_of (source_of e) r) 0 (kept e)) (sym it.is) (shown_stored e it.id it.may) in
    record { source = is; columns = subst (λ (s : Source). HasColumns (shown_of s row) 0 (kept e)) is own }

pub stored_shown : (from : Source) (row : Row) (e : TypedRow) → IsRaw from row → IsShown from (shown_of from row) e → StoresRow row e
stored_shown from row e raw shown =
    let back = sym shown.source in
    stored_cells e row (subst (λ (s : Source). IsRaw s row) back raw)
    (subst (λ (s : Source). HasColumns (shown_of s row) 0 (kept e)) back shown.columns)

-- ---- a row is read in one way

same_token : (s t : book.Token) → IsToken s → IsToken t → encode_lower s ≡ encode_lower t → s ≡ t
same_token s t one two h =
    let it : ◌≡◌ {A = Option book.Token} (Some s) (Some t) = sym (token_back s one) ∙ ap token_of h ∙ token_back t two in
    cc

tells_member : (e f : Name × MemberRow) → member_cells e ≡ member_cells f → e ≡ f
tells_member e f h = grind (arith, h)

tells_line : (e f : (Name × ℕ) × LineRow) → IsNote e.1.note → IsNote f.1.note → line_cells e ≡ line_cells f → e ≡ f
tells_line e f one two h =
    let kind = same_kind e.1.kind f.1.kind (cc) in
    let note = same_note e.1.note f.1.note one two (cc) in
    grind (arith, h, kind, note)

tells_redemption : (e f : (Name × Name) × values.Redemption) → redemption_cells e ≡ redemption_cells f → e ≡ f
tells_redemption e f h = grind (arith, h)

-- what is stored alike is the same
same_stored : (e f : TypedRow) → IsTyped e → IsTyped f → source_of e ≡ source_of f → cells_of_row e ≡ cells_of_row f → e ≡ f
same_stored Version Version one two is h = refl
same_stored (Member n x) (Member m y) one two is h = ap (λ (e : Name × MemberRow). Member e.0 e.1) (tells_member (n, x) (m, y) h)
same_stored (Holder n m) (Holder k l) one two is h = cc
same_stored (Token s c) (Token t d) one two is h =
    let token = same_token s t one.0 two.0 (cc) in
    let caller = same_caller c d (cc) (cc) in
    cc
same_stored (Purse p x) (Purse q y) one two is h =
    let name : p ≡ q = cc in
    let row = purse_back x y (purse_shown x) one.purse two.purse (one.named ∙ name ∙ sym two.named) refl (ap but_number h) in
    cc
same_stored (Message p n m) (Message q k l) one two is h = let message = same_message m l one.1 two.1 (cc) (cc) in cc
same_stored (Line p n x) (Line q k y) one two is h =
    ap (λ (e : (Name × ℕ) × LineRow). Line e.0.0 e.0.1 e.1) (tells_line ((p, n), x) ((q, k), y) one.note two.note h)
same_stored (Laid p d) (Laid q e) one two is h = let details = same_entry d e one.1 two.1 (cc) in cc
same_stored (Archived p d) (Archived q e) one two is h = let details = same_entry d e one.1 two.1 (cc) in cc
same_stored (Load p r m) (Load q s l) one two is h = cc
same_stored (Redemption p r x) (Redemption q s y) one two is h =
    ap (λ (e : (Name × Name) × values.Redemption). Redemption e.0.0 e.0.1 e.1) (tells_redemption ((p, r), x) ((q, s), y) h)
same_stored (Settled d) (Settled e) one two is h = let details = same_entry d e one two (cc) in cc
same_stored e f one two is h = absurd (cc)

-- the cells of a row that a query shows
abbrev cells_shown : Source → Row → Row
cells_shown source.Meta r = Null ∷ column r 0 ∷ []
cells_shown source.Members r = column r 2 ∷ column r 0 ∷ column r 1 ∷ []
cells_shown source.Holders r = column r 1 ∷ column r 0 ∷ []
cells_shown source.Tokens r = column r 2 ∷ column r 0 ∷ column r 1 ∷ []
cells_shown source.Purses r =
    column r 8 ∷ column r 0 ∷ column r 1 ∷ column r 2 ∷ column r 3 ∷ column r 4 ∷ column r 5 ∷ column r 6 ∷ column r 7 ∷ []
cells_shown source.Inbox r = column r 3 ∷ column r 0 ∷ column r 1 ∷ column r 2 ∷ []
cells_shown source.Lines r = column r 5 ∷ column r 0 ∷ column r 1 ∷ column r 2 ∷ column r 3 ∷ column r 4 ∷ []
cells_shown source.Tray r = column r 1 ∷ column r 0 ∷ []
cells_shown source.Archive r = column r 1 ∷ column r 0 ∷ []
cells_shown source.Loads r = column r 2 ∷ column r 1 ∷ column r 0 ∷ []
cells_shown source.Redemptions r = column r 3 ∷ column r 2 ∷ column r 0 ∷ column r 1 ∷ []
cells_shown source.Settled r = column r 0 ∷ []

cells_are : (e : TypedRow) (row : Row) → HasColumns row 0 (kept e) → cells_shown (source_of e) row ≡ cells_of_row e
cells_are Version row h = cc
cells_are (Member name member) row h = cc
cells_are (Holder holder member) row h = cc
cells_are (Token token caller) row h = cc
cells_are (Purse name purse) row h = cc
cells_are (Message purse number message) row h = cc
cells_are (Line purse number line) row h = cc
cells_are (Laid purse details) row h = cc
cells_are (Archived purse details) row h = cc
cells_are (Load purse reference amount) row h = cc
cells_are (Redemption purse reference redemption) row h = cc
cells_are (Settled details) row h = cc

shown_cells_are : (from : Source) (row : Row) (e : TypedRow) → IsShown from row e → cells_shown from row ≡ cells_of_row e
shown_cells_are from row e shown = ap (λ (s : Source). cells_shown s row) (sym shown.source) ∙ cells_are e row shown.columns

pub unique : (from : Source) (row : Row) (e f : TypedRow) → IsTyped e → IsTyped f → IsShown from row e → IsShown from row f → e ≡ f
unique from row e f one two a b =
    same_stored e f one two (a.source ∙ sym b.source) (sym (shown_cells_are from row e a) ∙ shown_cells_are from row f b)
