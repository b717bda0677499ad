-- The tables of the office, each as one value: how it is made, where it stands, how its rows are stored and what is stored of a row. A database spells one World at most.
use Rattle.mx_tables.proofs.Common.{◌≡◌, ℕ, ℤ, List, [], ◌∷◌, ◌++◌, Option, Some, refl, ◌∙◌, arith, fold, codes, nat_cmp, Ordering, AllByRecursion, Int, column, Database, name_cmp, Name, Rows, PurseRow, Holds, rewritten}
use Rattle.std.proofs.Common.{suc, map, slice_get, sym, ap, subst}
use Rattle.std.specs.FinMap as fmap
use Rattle.std.specs.Cmp.{nat_cmp_total}
use Rattle.std.specs.FinMap.{nat_cmp-IsAntisymmetric}
use Rattle.mx_pay.specs.Tokens.{token_cmp, token_of, IsToken}
use Rattle.mx_pay.specs.Details.{Details, IsDetails, details_cmp}
use Rattle.mx_pay.specs.Orders.{details_exact}
use Rattle.mx_pay.proofs.LogLemmas.{details_total}
use Rattle.mx_purse.specs.declared.message.Message.{Message}
use Rattle.mx_book.specs.World.{result_cmp, World, Token}
use Rattle.mx_book.specs.Under.{pair_cmp}
use Rattle.mx_book.specs.declared.values.Caller.{Caller}
use Rattle.mx_book.specs.declared.values.MemberRow.{MemberRow}
use Rattle.mx_book.specs.declared.values.LineRow.{LineRow}
use Rattle.mx_book.specs.declared.values.Redemption.{Redemption}
use Rattle.mx_book.proofs.NameLemmas.{names_total, names_exact}
use Rattle.mx_book.proofs.UnderLemmas.{pair_total, pair_exact}
use Rattle.mx_book.proofs.RowLemmas.{keys_total, keys_exact}
use Rattle.mx_book.proofs.ResultLemmas.{results_total, results_exact}
use Rattle.mx_tables.specs.Schema as schema
use Rattle.mx_tables.specs.Schema.{Contents, tokens_of, cells_of, rows_of, schema_of}
use Rattle.mx_cells.specs.Cells.{member_cells, token_cells, holder_cells, purse_cells, message_cells, line_cells, result_cells, load_cells, redemption_cells, settled_cells, purse_shown}
use Rattle.mx_tables.specs.Holds.{HasContents, Spells, SpellsOne}
use Rattle.hex.specs.Hex.{encode_lower}
use Rattle.mx_pay.proofs.TextLemmas.{same_entry}
use Rattle.mx_purse.specs.State.{IsPurse}
use Rattle.mx_purse.specs.Messages.{IsMessage}
use Rattle.mx_purse.proofs.WordLemmas.{same_message}
use Rattle.mx_book.specs.Spells as book
use Rattle.mx_book.specs.Spells.{one_world}
use Rattle.mx_book.specs.Conditions.{IsNote}
use Rattle.mx_book.proofs.WordLemmas.{same_kind}
use Rattle.mx_tables.proofs.ValueLemmas.{same_caller, purse_back, same_note}
use Rattle.mx_cells.proofs.TextLemmas.{token_back}
use Rattle.mx_tables.proofs.SoundLemmas.{messages_valid, purses_valid, lines_valid, tray_valid, archive_valid, settled_valid}
use Rattle.mx_book.specs.RowEdits.{all_rewritten}
use Rattle.mx_book.specs.Edits.{Fits, all_edited}
use Rattle.mx_book.specs.declared.edits.Edit.{Edit}
use Rattle.mx_book.proofs.SpellLemmas.{applied}
use Rattle.mx_tables.proofs.Places.{Place, IsKey, Ties, Kept, Written, Belongs, stored, listed_once, same_lists, but_number}
use Rattle.sqlite.specs.Listing.{understood}
use Rattle.sqlite_tied.specs.Compute.{everything}
use Rattle.mx_tables.specs.Made.{IsCreate, Makes, made, also}
use Rattle.mx_tables.specs.declared.making.Version.{Version}
use Rattle.mx_tables.specs.declared.making.Version.TheVariants.{One, Two}
use Rattle.sqlite_schema.specs.declared.schema.Schema.{Schema}

-- ---- the orders of keys

pub names_key : IsKey name_cmp
names_key = record { total = names_total; exact = names_exact }

pub pairs_key : IsKey (pair_cmp name_cmp nat_cmp)
pairs_key = record { total = pair_total names_total nat_cmp_total; exact = pair_exact names_exact nat_cmp-IsAntisymmetric }

pub references_key : IsKey (pair_cmp name_cmp name_cmp)
references_key = record { total = keys_total; exact = keys_exact }

pub results_key : IsKey result_cmp
results_key = record { total = results_total; exact = results_exact }

pub details_key : IsKey details_cmp
details_key = record { total = details_total; exact = details_exact }

-- ---- members

-- a table that belongs to the rows of a book, by what its place says
belongs : {K V : Type 0} {R : K → K → Ordering} (p : Place R V) → IsKey R
    → ((i j : ℤ) (k : K) (v w : V) → AllByRecursion (λ n. Ties (column (Int i ∷ p.cells (k, v)) n) (column (Int j ∷ p.cells (k, w)) n)) p.table.primary)
    → slice_get schema.office_schema.tables (suc p.at) ≡ Some p.table → ((c : Contents) → slice_get (cells_of c) (suc p.at) ≡ Some (map p.cells (p.list.get c)))
    → ((c : Contents) → p.map.get (rows_of c) ≡ fmap.from_entries (p.list.get c)) → ((l : List (K × V)) (c : Contents) → Written p l c) → Belongs p
belongs p key ties found cells_are is written = record { kept = record { found = found; key = key; ties = ties; cells_are = cells_are }; is = is; written = written }

abbrev pub member_place : Place name_cmp MemberRow
member_place = record {
  at = 0;
  table = record schema.member { tree = 1 };
  cells = member_cells;
  list = record { get = λ c. c.members; put = λ l c. record c { members = l } };
  map = record { get = λ r. r.members; put = λ m r. record r { members = m } };
}

pub members : Belongs member_place
members = belongs member_place names_key (λ i j k v w. ((refl, refl), tt)) refl (λ c. refl) (λ c. refl) (λ l c. record { listed = refl; cells = refl; tokens = refl; rows = refl })

tells_member : (e f : Name × MemberRow) → Unit {0} → Unit {0} → member_cells e ≡ member_cells f → e ≡ f
tells_member e f _ _ h = grind (arith, h)

-- ---- tokens

-- the operator's token is among them, which isn't in the map of a book
abbrev pub token_place : Place token_cmp Caller
token_place = record {
  at = 1;
  table = record schema.token { tree = 3 };
  cells = token_cells;
  list = record { get = tokens_of; put = λ l c. record c { tokens = l } };
  map = record { get = λ r. r.tokens; put = λ m r. record r { tokens = m } };
}

pub token_rows : Kept token_place
token_rows = record { found = refl; key = names_key; ties = λ i j k v w. ((refl, refl), tt); cells_are = λ c. refl }

same_token : (s t : Token) → IsToken s → IsToken t → encode_lower s ≡ encode_lower t → s ≡ t
same_token s t one two h = let it : ◌≡◌ {A = Option Token} (Some s) (Some t) = sym (token_back s one) ∙ ap token_of h ∙ token_back t two in cc

tells_token : (e f : Token × Caller) → IsToken e.0 → IsToken f.0 → token_cells e ≡ token_cells f → e ≡ f
tells_token (s, c) (t, d) one two h =
    let token = same_token s t one two (cc) in
    let caller = same_caller c d (cc) (cc) in
    cc

-- ---- holders

abbrev pub holder_place : Place name_cmp Name
holder_place = record {
  at = 2;
  table = record schema.holder { tree = 6 };
  cells = holder_cells;
  list = record { get = λ c. c.holders; put = λ l c. record c { holders = l } };
  map = record { get = λ r. r.holders; put = λ m r. record r { holders = m } };
}

pub holders : Belongs holder_place
holders = belongs holder_place names_key (λ i j k v w. ((refl, refl), tt)) refl (λ c. refl) (λ c. refl) (λ l c. record { listed = refl; cells = refl; tokens = refl; rows = refl })

tells_holder : (e f : Name × Name) → Unit {0} → Unit {0} → holder_cells e ≡ holder_cells f → e ≡ f
tells_holder (n, m) (k, l) _ _ h = cc

-- ---- purses

abbrev pub purse_place : Place name_cmp PurseRow
purse_place = record {
  at = 3;
  table = record schema.purse { tree = 8 };
  cells = purse_cells;
  list = record { get = λ c. c.purses; put = λ l c. record c { purses = l } };
  map = record { get = λ r. r.purses; put = λ m r. record r { purses = m } };
}

pub purses : Belongs purse_place
purses = belongs purse_place names_key (λ i j k v w. ((refl, refl), tt)) refl (λ c. refl) (λ c. refl) (λ l c. record { listed = refl; cells = refl; tokens = refl; rows = refl })

-- a purse, under its name
abbrev IsRow : Name × PurseRow → Type 0
IsRow e = (e.1.purse.name ≡ e.0) × IsPurse e.1.purse

tells_purse : (e f : Name × PurseRow) → IsRow e → IsRow f → purse_cells e ≡ purse_cells f → e ≡ f
tells_purse (p, x) (q, y) one two h =
    let name : p ≡ q = cc in
    let row = purse_back x y (purse_shown x) one.1 two.1 (one.0 ∙ name ∙ sym two.0) refl (ap but_number h) in
    cc

-- ---- inboxes

abbrev pub inbox_place : Place (pair_cmp name_cmp nat_cmp) Message
inbox_place = record {
  at = 4;
  table = record schema.inbox { tree = 10 };
  cells = message_cells;
  list = record { get = λ c. c.inbox; put = λ l c. record c { inbox = l } };
  map = record { get = λ r. r.inbox; put = λ m r. record r { inbox = m } };
}

pub inbox : Belongs inbox_place
inbox = belongs inbox_place pairs_key (λ i j k v w. ((refl, refl), ((refl, refl), tt))) refl (λ c. refl) (λ c. refl) (λ l c. record { listed = refl; cells = refl; tokens = refl; rows = refl })

tells_message : (e f : (Name × ℕ) × Message) → IsMessage e.1 → IsMessage f.1 → message_cells e ≡ message_cells f → e ≡ f
tells_message ((p, n), m) ((q, k), l) one two h = let message = same_message m l one two (cc) (cc) in cc

-- ---- lines

abbrev pub line_place : Place (pair_cmp name_cmp nat_cmp) LineRow
line_place = record {
  at = 5;
  table = record schema.line { tree = 12 };
  cells = line_cells;
  list = record { get = λ c. c.lines; put = λ l c. record c { lines = l } };
  map = record { get = λ r. r.lines; put = λ m r. record r { lines = m } };
}

pub lines : Belongs line_place
lines = belongs line_place pairs_key (λ i j k v w. ((refl, refl), ((refl, refl), tt))) refl (λ c. refl) (λ c. refl) (λ l c. record { listed = refl; cells = refl; tokens = refl; rows = refl })

tells_line : (e f : (Name × ℕ) × LineRow) → IsNote e.1.note → IsNote f.1.note → line_cells e ≡ line_cells f → e ≡ f
tells_line e f one two h =
    let kind = same_kind e.1.kind f.1.kind (cc) in
    let note = same_note e.1.note f.1.note one two (cc) in
    grind (arith, h, kind, note)

-- ---- trays

abbrev pub tray_place : Place result_cmp (Unit {0})
tray_place = record {
  at = 6;
  table = record schema.tray { tree = 14 };
  cells = result_cells;
  list = record { get = λ c. c.tray; put = λ l c. record c { tray = l } };
  map = record { get = λ r. r.tray; put = λ m r. record r { tray = m } };
}

pub tray : Belongs tray_place
tray = belongs tray_place results_key (λ i j k v w. ((refl, refl), ((refl, refl), tt))) refl (λ c. refl) (λ c. refl) (λ l c. record { listed = refl; cells = refl; tokens = refl; rows = refl })

tells_result : (e f : (Name × Details) × Unit {0}) → IsDetails e.0.1 → IsDetails f.0.1 → result_cells e ≡ result_cells f → e ≡ f
tells_result e f one two h = let details = same_entry e.0.1 f.0.1 one two (cc) in grind (arith, h, details)

-- ---- archives

abbrev pub archive_place : Place result_cmp (Unit {0})
archive_place = record {
  at = 7;
  table = record schema.archive { tree = 16 };
  cells = result_cells;
  list = record { get = λ c. c.archive; put = λ l c. record c { archive = l } };
  map = record { get = λ r. r.archive; put = λ m r. record r { archive = m } };
}

pub archive : Belongs archive_place
archive = belongs archive_place results_key (λ i j k v w. ((refl, refl), ((refl, refl), tt))) refl (λ c. refl) (λ c. refl) (λ l c. record { listed = refl; cells = refl; tokens = refl; rows = refl })

-- ---- loads

abbrev pub load_place : Place (pair_cmp name_cmp name_cmp) ℕ
load_place = record {
  at = 8;
  table = record schema.load { tree = 18 };
  cells = load_cells;
  list = record { get = λ c. c.loads; put = λ l c. record c { loads = l } };
  map = record { get = λ r. r.loads; put = λ m r. record r { loads = m } };
}

pub loads : Belongs load_place
loads = belongs load_place references_key (λ i j k v w. ((refl, refl), ((refl, refl), tt))) refl (λ c. refl) (λ c. refl) (λ l c. record { listed = refl; cells = refl; tokens = refl; rows = refl })

tells_load : (e f : (Name × Name) × ℕ) → Unit {0} → Unit {0} → load_cells e ≡ load_cells f → e ≡ f
tells_load ((p, r), m) ((q, s), l) _ _ h = cc

-- ---- redemptions

abbrev pub redemption_place : Place (pair_cmp name_cmp name_cmp) Redemption
redemption_place = record {
  at = 9;
  table = record schema.redemption { tree = 20 };
  cells = redemption_cells;
  list = record { get = λ c. c.redemptions; put = λ l c. record c { redemptions = l } };
  map = record { get = λ r. r.redemptions; put = λ m r. record r { redemptions = m } };
}

pub redemptions : Belongs redemption_place
redemptions = belongs redemption_place references_key (λ i j k v w. ((refl, refl), ((refl, refl), tt))) refl (λ c. refl) (λ c. refl) (λ l c. record { listed = refl; cells = refl; tokens = refl; rows = refl })

tells_redemption : (e f : (Name × Name) × Redemption) → Unit {0} → Unit {0} → redemption_cells e ≡ redemption_cells f → e ≡ f
tells_redemption e f _ _ h = grind (arith, h)

-- ---- settled details

abbrev pub settled_place : Place details_cmp (Unit {0})
settled_place = record {
  at = 10;
  table = record schema.settled { tree = 22 };
  cells = settled_cells;
  list = record { get = λ c. c.settled; put = λ l c. record c { settled = l } };
  map = record { get = λ r. r.settled; put = λ m r. record r { settled = m } };
}

pub settled : Belongs settled_place
settled = belongs settled_place details_key (λ i j k v w. ((refl, refl), tt)) refl (λ c. refl) (λ c. refl) (λ l c. record { listed = refl; cells = refl; tokens = refl; rows = refl })

tells_settled : (e f : Details × Unit {0}) → IsDetails e.0 → IsDetails f.0 → settled_cells e ≡ settled_cells f → e ≡ f
tells_settled e f one two h = let details = same_entry e.0 f.0 one two (cc) in grind (arith, h, details)

-- ---- how they are made

-- the statements that make the tables of version 1, in the order of the schema: each makes its table, in the schema that those before it made
abbrev create_meta : List ℕ
create_meta = codes "CREATE TABLE meta (id INTEGER PRIMARY KEY, version INTEGER NOT NULL) STRICT"

makes_meta : IsCreate schema.no_schema create_meta schema.meta
unfolding understood everything
makes_meta = record { creates = (refl, refl); plain = (refl, refl); defined = refl; uncounted = refl }

abbrev create_member : List ℕ
create_member = codes "CREATE TABLE member (name TEXT NOT NULL PRIMARY KEY, granted INTEGER NOT NULL, unspent INTEGER NOT NULL) STRICT"

makes_member : IsCreate schema.schema_1 create_member schema.member
unfolding understood everything
makes_member = record { creates = (refl, refl); plain = (refl, refl); defined = refl; uncounted = refl }

abbrev create_token : List ℕ
create_token = codes "CREATE TABLE token (token TEXT NOT NULL PRIMARY KEY, kind TEXT NOT NULL, name TEXT NOT NULL, UNIQUE (kind, name)) STRICT"

makes_token : IsCreate schema.schema_2 create_token schema.token
unfolding understood everything
makes_token = record { creates = (refl, refl); plain = (refl, refl); defined = refl; uncounted = refl }

abbrev create_holder : List ℕ
create_holder = codes "CREATE TABLE holder (name TEXT NOT NULL PRIMARY KEY, member TEXT NOT NULL REFERENCES member (name)) STRICT"

makes_holder : IsCreate schema.schema_3 create_holder schema.holder
unfolding understood everything
makes_holder = record { creates = (refl, refl); plain = (refl, refl); defined = refl; uncounted = refl }

abbrev create_purse : List ℕ
create_purse = codes "CREATE TABLE purse (name TEXT NOT NULL PRIMARY KEY, holder TEXT NOT NULL REFERENCES holder (name), balance INTEGER NOT NULL, next_number INTEGER NOT NULL, status TEXT NOT NULL, details TEXT NOT NULL, log TEXT NOT NULL, line_count INTEGER NOT NULL, next_message INTEGER NOT NULL) STRICT"

makes_purse : IsCreate schema.schema_4 create_purse schema.purse
unfolding understood everything
makes_purse = record { creates = (refl, refl); plain = (refl, refl); defined = refl; uncounted = refl }

abbrev create_inbox : List ℕ
create_inbox = codes "CREATE TABLE inbox (purse TEXT NOT NULL, number INTEGER NOT NULL, kind TEXT NOT NULL, details TEXT NOT NULL, PRIMARY KEY (purse, number)) STRICT"

makes_inbox : IsCreate schema.schema_5 create_inbox schema.inbox
unfolding understood everything
makes_inbox = record { creates = (refl, refl); plain = (refl, refl); defined = refl; uncounted = refl }

abbrev create_line : List ℕ
create_line = codes "CREATE TABLE line (purse TEXT NOT NULL, number INTEGER NOT NULL, kind TEXT NOT NULL, amount INTEGER NOT NULL, balance INTEGER NOT NULL, note TEXT NOT NULL, PRIMARY KEY (purse, number)) STRICT"

makes_line : IsCreate schema.schema_6 create_line schema.line
unfolding understood everything
makes_line = record { creates = (refl, refl); plain = (refl, refl); defined = refl; uncounted = refl }

abbrev create_tray : List ℕ
create_tray = codes "CREATE TABLE tray (purse TEXT NOT NULL, details TEXT NOT NULL, PRIMARY KEY (purse, details)) STRICT"

makes_tray : IsCreate schema.schema_7 create_tray schema.tray
unfolding understood everything
makes_tray = record { creates = (refl, refl); plain = (refl, refl); defined = refl; uncounted = refl }

abbrev create_archive : List ℕ
create_archive = codes "CREATE TABLE archive (purse TEXT NOT NULL, details TEXT NOT NULL, PRIMARY KEY (purse, details)) STRICT"

makes_archive : IsCreate schema.schema_8 create_archive schema.archive
unfolding understood everything
makes_archive = record { creates = (refl, refl); plain = (refl, refl); defined = refl; uncounted = refl }

abbrev create_load : List ℕ
create_load = codes "CREATE TABLE load (purse TEXT NOT NULL, reference TEXT NOT NULL, amount INTEGER NOT NULL, PRIMARY KEY (purse, reference)) STRICT"

makes_load : IsCreate schema.schema_9 create_load schema.load
unfolding understood everything
makes_load = record { creates = (refl, refl); plain = (refl, refl); defined = refl; uncounted = refl }

abbrev create_redemption : List ℕ
create_redemption = codes "CREATE TABLE redemption (purse TEXT NOT NULL, reference TEXT NOT NULL, amount INTEGER NOT NULL, collected INTEGER NOT NULL, PRIMARY KEY (purse, reference)) STRICT"

makes_redemption : IsCreate schema.schema_10 create_redemption schema.redemption
unfolding understood everything
makes_redemption = record { creates = (refl, refl); plain = (refl, refl); defined = refl; uncounted = refl }

abbrev pub texts_1 : List (List ℕ)
texts_1 =
    create_meta ∷ create_member ∷ create_token ∷ create_holder ∷ create_purse ∷ create_inbox
    ∷ create_line ∷ create_tray ∷ create_archive ∷ create_load ∷ create_redemption ∷ []

makes_1 : Makes schema.no_schema texts_1 schema.schema_11
makes_1 =
    also schema.meta makes_meta (
    also schema.member makes_member (
    also schema.token makes_token (
    also schema.holder makes_holder (
    also schema.purse makes_purse (
    also schema.inbox makes_inbox (
    also schema.line makes_line (
    also schema.tray makes_tray (
    also schema.archive makes_archive (
    also schema.load makes_load (
    also schema.redemption makes_redemption (
    made)))))))))))

-- and the statements after these make the others
abbrev pub later_texts : List (List ℕ)
later_texts = codes "CREATE TABLE settled (details TEXT NOT NULL PRIMARY KEY) STRICT" ∷ []

pub makes_settled : IsCreate schema.schema_11 (codes "CREATE TABLE settled (details TEXT NOT NULL PRIMARY KEY) STRICT") schema.settled
unfolding understood everything
makes_settled = record { creates = (refl, refl); plain = (refl, refl); defined = refl; uncounted = refl }

makes_later : Makes schema.schema_11 later_texts schema.office_schema
makes_later = also schema.settled makes_settled made

makes_then : {first second third : Schema} {texts more : List (List ℕ)} → Makes first texts second → Makes second more third → Makes first (texts ++ more) third
makes_then made later = later
makes_then (also table is rest) later = also table is (makes_then rest later)

-- the statements of a version
abbrev pub texts_of : Version → List (List ℕ)
texts_of One = texts_1
texts_of Two = texts_1 ++ later_texts

pub makes_version : (v : Version) → Makes schema.no_schema (texts_of v) (schema_of v)
makes_version One = makes_1
makes_version Two = makes_then makes_1 makes_later

-- ---- all tables

first_and_others : (s t : Token) (xs ys : List (Token × Caller)) (c : Caller) → ◌≡◌ {A = List (Token × Caller)} ((s, c) ∷ xs) ((t, c) ∷ ys) → (s ≡ t) × (xs ≡ ys)
first_and_others s t xs ys c h = let first : ◌≡◌ {A = Token × Caller} (s, c) (t, c) = cc in (ap (λ (e : Token × Caller). e.0) first, (cc))

tokens_once : (db : Database) (b c : Contents) → HasContents db b → HasContents db c → (b.operator ≡ c.operator) × (b.tokens ≡ c.tokens)
tokens_once db b c h g = first_and_others _ _ _ _ _
    (same_lists token_cells (λ e. IsToken e.0) tells_token (db.trees 3) (tokens_of b) (tokens_of c) (stored token_rows db b h).have (stored token_rows db c g).have h.tokens g.tokens)

-- a database holds one book's rows at most that spell a World
pub one_held : (db : Database) (v w : World) (h : Spells db v) (g : Spells db w) → h.rows ≡ g.rows
one_held db v w h g =
    let r = h.rows in
    let s = g.rows in
    let tokens = tokens_once db h.holds.contents g.holds.contents h.holds.has g.holds.has in
    let contents : h.holds.contents ≡ g.holds.contents = λ i. record {
      operator = tokens.0 i;
      tokens = tokens.1 i;
      members = listed_once members (λ _. Unit {0}) tells_member db r s h.holds g.holds (λ _ _ _. tt) (λ _ _ _. tt) i;
      holders = listed_once holders (λ _. Unit {0}) tells_holder db r s h.holds g.holds (λ _ _ _. tt) (λ _ _ _. tt) i;
      purses = listed_once purses IsRow tells_purse db r s h.holds g.holds (purses_valid r v h.spells) (purses_valid s w g.spells) i;
      inbox = listed_once inbox (λ e. IsMessage e.1) tells_message db r s h.holds g.holds (messages_valid r v h.spells) (messages_valid s w g.spells) i;
      lines = listed_once lines (λ e. IsNote e.1.note) tells_line db r s h.holds g.holds (λ k x at. (lines_valid r v h.spells k x at).1) (λ k x at. (lines_valid s w g.spells k x at).1) i;
      tray = listed_once tray (λ e. IsDetails e.0.1) tells_result db r s h.holds g.holds (tray_valid r v h.spells) (tray_valid s w g.spells) i;
      archive = listed_once archive (λ e. IsDetails e.0.1) tells_result db r s h.holds g.holds (archive_valid r v h.spells) (archive_valid s w g.spells) i;
      loads = listed_once loads (λ _. Unit {0}) tells_load db r s h.holds g.holds (λ _ _ _. tt) (λ _ _ _. tt) i;
      redemptions = listed_once redemptions (λ _. Unit {0}) tells_redemption db r s h.holds g.holds (λ _ _ _. tt) (λ _ _ _. tt) i;
      settled = listed_once settled (λ e. IsDetails e.0) tells_settled db r s h.holds g.holds (settled_valid r v h.spells) (settled_valid s w g.spells) i;
    } in
    sym h.holds.rows ∙ ap rows_of contents ∙ g.holds.rows

-- so it spells one World at most
one_spelled : (db : Database) (v w : World) → Spells db v → Spells db w → v ≡ w
one_spelled db v w h g = one_world g.rows v w (subst (λ (x : Rows). book.Spells x v) (one_held db v w h g) h.spells) g.spells

-- so one that it spells is the only one
pub spelled_one : {db : Database} {w : World} → Spells db w → SpellsOne db w
spelled_one {db} {w} h = record { spelled = h; only = λ v g. one_spelled db v w g h }

-- ---- after edits that fit

in_order : (es : List Edit) (r : Rows) → fold rewritten r es ≡ all_rewritten r es
in_order [] r = refl
in_order (e ∷ es) r = in_order es (rewritten r e)

-- the rows after edits spell the World after them
pub spells_after : (es : List Edit) (w : World) (r : Rows) → book.Spells r w → Fits w es → book.Spells (fold rewritten r es) (all_edited w es)
spells_after es w r h fits = applied r (fold rewritten r es) w es h fits (in_order es r)

pub spelled_after : (es : List Edit) (w : World) (old new : Database) (h : Spells old w) → Fits w es → Holds new (fold rewritten h.rows es) → Spells new (all_edited w es)
spelled_after es w old new h fits holds =
    record { rows = fold rewritten h.rows es; holds = holds; spells = spells_after es w h.rows h.spells fits }
