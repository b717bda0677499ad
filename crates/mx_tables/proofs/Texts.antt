-- The forms of the queries, and the texts of the statements with their meaning.
use Rattle.mx_tables.proofs.Common.{ℕ, List, [], None, pos, false, ◌≡◌, ◌∷◌, codes, refl, Int, Null, Text, Binary, Term, col, office_schema}
use Rattle.std.proofs.Common.{negsuc}
use Rattle.sqlite_value.specs.declared.keys.Key.{Key}
use Rattle.sqlite_sql.specs.declared.ops.BinaryOp.TheVariants.{Compare}
use Rattle.sqlite_sql.specs.declared.ops.CompareOp.TheVariants.{Eq}
use Rattle.sqlite_sql.specs.Term.{lit, op2}
use Rattle.sqlite_sql.specs.Query.{Query, inner, end}
use Rattle.sqlite_schema.specs.declared.program.Program.{Program}
use Rattle.sqlite_schema.specs.declared.command.Command.TheVariants.{Insert, Select, Update, Delete}
use Rattle.sqlite_schema.specs.declared.command.Source.TheVariants.{Values}
use Rattle.sqlite_tied.specs.Compute.{everything}
use Rattle.sqlite.specs.Listing.{understood, reads_listing}
use Rattle.sqlite.proofs.Callers.{command_of}
use Rattle.sqlite_value.specs.Keys.{ascending}
use Rattle.mx_tables.specs.States.{IsText, IsQuery}
use Rattle.mx_tables.specs.Schema.{schema_of}
use Rattle.mx_tables.specs.declared.making.Version.{Version}
use Rattle.mx_tables.specs.declared.making.Version.TheVariants.{One, Two}
use Rattle.sqlite.specs.Given.{IsPlain}
use Rattle.sqlite_schema.specs.declared.schema.Schema.{Schema}

-- the rows of one tree that pass the terms, in this order
abbrev pub scan : ℕ → List Term → List Term → List (Term × Key) → Query
scan tree filter project order = record {
  from = inner tree end;
  filter = filter;
  group = None;
  project = project;
  distinct = false;
  collations = [];
  order = order;
  limit = lit (Int (negsuc 0));
  offset = lit (Int (pos 0));
}

abbrev pub alone : Query → Program
alone q = record { lets = []; body = q }

-- the column of the row equals the parameter
abbrev pub is_given : ℕ → ℕ → Term
is_given column parameter = op2 (Compare Eq Binary) (col 1 column) (col 0 parameter)

-- the text is a query of the rows of one tree
pub record IsSelect (sql : List ℕ) (tree : ℕ) (terms project : List Term) (order : List (Term × Key)) (names : List (List ℕ)) : Type 0 where
  pub is : command_of (understood office_schema sql) ≡ Select (alone (scan tree terms project order)) names
  pub query : IsQuery sql
  pub unlisted : reads_listing office_schema sql ≡ false

-- the text is an INSERT of one row of the table at a place
pub record IsInsert (sql : List ℕ) (at : ℕ) (terms : List Term) (width : ℕ) : Type 0 where
  pub is : command_of (understood office_schema sql) ≡ Insert at (Values terms width)
  pub plain : IsText sql

-- the text is an UPDATE of the rows of one tree that pass the terms: the row number, and then the new row
pub record IsUpdate (sql : List ℕ) (at tree : ℕ) (terms project : List Term) : Type 0 where
  pub is : command_of (understood office_schema sql) ≡ Update at (alone (scan tree terms project []))
  pub plain : IsText sql

-- the text is a DELETE of the rows of one tree that pass the terms
pub record IsDelete (sql : List ℕ) (at tree : ℕ) (terms project : List Term) : Type 0 where
  pub is : command_of (understood office_schema sql) ≡ Delete at (alone (scan tree terms project []))
  pub plain : IsText sql

abbrev pub select_token : List ℕ
select_token = codes "SELECT kind, name FROM token WHERE token = ?1"

pub select_token_is : IsSelect select_token 3 (is_given 1 0 ∷ []) (col 1 2 ∷ col 1 3 ∷ []) [] (codes "kind" ∷ codes "name" ∷ [])
unfolding understood everything
select_token_is = record { is = refl; query = record { plain = (refl, refl); silent = λ _ _. refl }; unlisted = refl }

abbrev pub insert_token : List ℕ
insert_token = codes "INSERT INTO token (token, kind, name) VALUES (?1, ?2, ?3)"

pub insert_token_is : IsInsert insert_token 2 (lit Null ∷ col 0 0 ∷ col 0 1 ∷ col 0 2 ∷ []) 4
unfolding understood everything
insert_token_is = record { is = refl; plain = (refl, refl) }

abbrev pub insert_member : List ℕ
insert_member = codes "INSERT INTO member (name, granted, unspent) VALUES (?1, 0, 0)"

pub insert_member_is : IsInsert insert_member 1 (lit Null ∷ col 0 0 ∷ lit (Int (pos 0)) ∷ lit (Int (pos 0)) ∷ []) 4
unfolding understood everything
insert_member_is = record { is = refl; plain = (refl, refl) }

abbrev pub insert_holder : List ℕ
insert_holder = codes "INSERT INTO holder (name, member) VALUES (?1, ?2)"

pub insert_holder_is : IsInsert insert_holder 3 (lit Null ∷ col 0 0 ∷ col 0 1 ∷ []) 3
unfolding understood everything
insert_holder_is = record { is = refl; plain = (refl, refl) }

abbrev pub select_owners : List ℕ
select_owners = codes "SELECT name, holder FROM purse"

pub select_owners_is : IsSelect select_owners 8 [] (col 1 1 ∷ col 1 2 ∷ []) [] (codes "name" ∷ codes "holder" ∷ [])
unfolding understood everything
select_owners_is = record { is = refl; query = record { plain = (refl, refl); silent = λ _ _. refl }; unlisted = refl }

abbrev pub select_purses : List ℕ
select_purses = codes "SELECT name FROM purse ORDER BY name"

pub select_purses_is : IsSelect select_purses 8 [] (col 1 1 ∷ []) ((col 1 1, ascending Binary) ∷ []) (codes "name" ∷ [])
unfolding understood everything
select_purses_is = record { is = refl; query = record { plain = (refl, refl); silent = λ _ _. refl }; unlisted = refl }

abbrev pub select_members : List ℕ
select_members = codes "SELECT name FROM member ORDER BY name"

pub select_members_is : IsSelect select_members 1 [] (col 1 1 ∷ []) ((col 1 1, ascending Binary) ∷ []) (codes "name" ∷ [])
unfolding understood everything
select_members_is = record { is = refl; query = record { plain = (refl, refl); silent = λ _ _. refl }; unlisted = refl }

abbrev pub update_member : List ℕ
update_member = codes "UPDATE member SET granted = ?2, unspent = ?3 WHERE name = ?1"

pub update_member_is : IsUpdate update_member 1 1 (is_given 1 0 ∷ []) (col 1 0 ∷ col 1 0 ∷ col 1 1 ∷ col 0 1 ∷ col 0 2 ∷ [])
unfolding understood everything
update_member_is = record { is = refl; plain = (refl, refl) }

abbrev pub insert_meta : List ℕ
insert_meta = codes "INSERT INTO meta (id, version) VALUES (1, 2)"

pub insert_meta_is : IsInsert insert_meta 0 (lit (Int (pos 1)) ∷ lit Null ∷ lit (Int (pos 2)) ∷ []) 3
unfolding understood everything
insert_meta_is = record { is = refl; plain = (refl, refl) }

-- the row's number is 1
abbrev pub is_first : Term
is_first = op2 (Compare Eq Binary) (col 1 0) (lit (Int (pos 1)))

abbrev pub select_version : List ℕ
select_version = codes "SELECT version FROM meta WHERE id = 1"

pub version_query : IsQuery select_version
unfolding understood everything
version_query = record { plain = (refl, refl); silent = λ _ _. refl }

-- what it is in the schema of a version
pub record AsksVersion (schema : Schema) : Type 0 where
  pub is : command_of (understood schema select_version) ≡ Select (alone (scan 0 (is_first ∷ []) (col 1 2 ∷ []) [])) (codes "version" ∷ [])
  pub plain : IsPlain (understood schema select_version)
  pub unlisted : reads_listing schema select_version ≡ false

pub asks_version : (v : Version) → AsksVersion (schema_of v)
unfolding understood everything
asks_version One = record { is = refl; plain = (refl, refl); unlisted = refl }
asks_version Two = record { is = refl; plain = (refl, refl); unlisted = refl }

abbrev pub set_version : List ℕ
set_version = codes "UPDATE meta SET version = 2 WHERE id = 1"

pub set_version_is : IsUpdate set_version 0 0 (is_first ∷ []) (col 1 0 ∷ col 1 0 ∷ lit Null ∷ lit (Int (pos 2)) ∷ [])
unfolding understood everything
set_version_is = record { is = refl; plain = (refl, refl) }

abbrev pub insert_purse : List ℕ
insert_purse = codes "INSERT INTO purse (name, holder, balance, next_number, status, details, log, line_count, next_message) VALUES (?1, ?2, 0, 0, 'eaFrom', '', '', 0, 0)"

pub insert_purse_is : IsInsert insert_purse 4 (lit Null ∷ col 0 0 ∷ col 0 1 ∷ lit (Int (pos 0)) ∷ lit (Int (pos 0)) ∷ lit (Text (codes "eaFrom")) ∷ lit (Text []) ∷ lit (Text []) ∷ lit (Int (pos 0)) ∷ lit (Int (pos 0)) ∷ []) 10
unfolding understood everything
insert_purse_is = record { is = refl; plain = (refl, refl) }

abbrev pub select_inbox : List ℕ
select_inbox = codes "SELECT number, kind, details FROM inbox WHERE purse = ?1 ORDER BY number"

pub select_inbox_is : IsSelect select_inbox 10 (is_given 1 0 ∷ []) (col 1 2 ∷ col 1 3 ∷ col 1 4 ∷ []) ((col 1 2, ascending Binary) ∷ []) (codes "number" ∷ codes "kind" ∷ codes "details" ∷ [])
unfolding understood everything
select_inbox_is = record { is = refl; query = record { plain = (refl, refl); silent = λ _ _. refl }; unlisted = refl }

abbrev pub select_held_numbers : List ℕ
select_held_numbers = codes "SELECT number FROM inbox WHERE purse = ?1"

pub select_held_numbers_is : IsSelect select_held_numbers 10 (is_given 1 0 ∷ []) (col 1 2 ∷ []) [] (codes "number" ∷ [])
unfolding understood everything
select_held_numbers_is = record { is = refl; query = record { plain = (refl, refl); silent = λ _ _. refl }; unlisted = refl }

abbrev pub delete_message : List ℕ
delete_message = codes "DELETE FROM inbox WHERE purse = ?1 AND number = ?2"

pub delete_message_is : IsDelete delete_message 5 10 (is_given 1 0 ∷ is_given 2 1 ∷ []) (col 1 0 ∷ [])
unfolding understood everything
delete_message_is = record { is = refl; plain = (refl, refl) }

abbrev pub update_purse : List ℕ
update_purse = codes "UPDATE purse SET balance = ?2, next_number = ?3, status = ?4, details = ?5, log = ?6, line_count = ?7 WHERE name = ?1"

pub update_purse_is : IsUpdate update_purse 4 8 (is_given 1 0 ∷ []) (col 1 0 ∷ col 1 0 ∷ col 1 1 ∷ col 1 2 ∷ col 0 1 ∷ col 0 2 ∷ col 0 3 ∷ col 0 4 ∷ col 0 5 ∷ col 0 6 ∷ col 1 9 ∷ [])
unfolding understood everything
update_purse_is = record { is = refl; plain = (refl, refl) }

abbrev pub raise_next : List ℕ
raise_next = codes "UPDATE purse SET next_message = ?2 WHERE name = ?1 AND next_message = ?3"

pub raise_next_is : IsUpdate raise_next 4 8 (is_given 1 0 ∷ is_given 9 2 ∷ []) (col 1 0 ∷ col 1 0 ∷ col 1 1 ∷ col 1 2 ∷ col 1 3 ∷ col 1 4 ∷ col 1 5 ∷ col 1 6 ∷ col 1 7 ∷ col 1 8 ∷ col 0 1 ∷ [])
unfolding understood everything
raise_next_is = record { is = refl; plain = (refl, refl) }

abbrev pub select_message : List ℕ
select_message = codes "SELECT kind, details FROM inbox WHERE purse = ?1 AND number = ?2"

pub select_message_is : IsSelect select_message 10 (is_given 1 0 ∷ is_given 2 1 ∷ []) (col 1 3 ∷ col 1 4 ∷ []) [] (codes "kind" ∷ codes "details" ∷ [])
unfolding understood everything
select_message_is = record { is = refl; query = record { plain = (refl, refl); silent = λ _ _. refl }; unlisted = refl }

abbrev pub select_number : List ℕ
select_number = codes "SELECT number FROM inbox WHERE purse = ?1 AND number = ?2"

pub select_number_is : IsSelect select_number 10 (is_given 1 0 ∷ is_given 2 1 ∷ []) (col 1 2 ∷ []) [] (codes "number" ∷ [])
unfolding understood everything
select_number_is = record { is = refl; query = record { plain = (refl, refl); silent = λ _ _. refl }; unlisted = refl }

abbrev pub insert_message : List ℕ
insert_message = codes "INSERT INTO inbox (purse, number, kind, details) VALUES (?1, ?2, ?3, ?4)"

pub insert_message_is : IsInsert insert_message 5 (lit Null ∷ col 0 0 ∷ col 0 1 ∷ col 0 2 ∷ col 0 3 ∷ []) 5
unfolding understood everything
insert_message_is = record { is = refl; plain = (refl, refl) }
