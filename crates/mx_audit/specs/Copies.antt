-- What a copy of tables is.
use Rattle.std.specs.Prelude.{◌≡◌, ℕ, List, [], ◌∷◌, codes, map}
use Rattle.sqlite_value.specs.Order.{Row}
use Rattle.sqlite_trees.specs.Tree.{Trees, IsTable}
use Rattle.sqlite_trees.specs.declared.store.Store.{Ghosts}
use Rattle.sqlite_catalog.specs.Change.{KeepsRows}
use Rattle.sqlite_sql.specs.Term.{Term, col, eval_all}
use Rattle.sqlite.specs.Effect.{Database}
use Rattle.sqlite.specs.Values.{bound_value}
use Rattle.sqlite.specs.declared.savepoint.Savepoint.{Savepoint}
use Rattle.mx_tables.specs.Schema.{schema_of}
use Rattle.mx_tables.specs.States.{Runs, going}
use Rattle.mx_tables.specs.Migration.{Migrates}
use Rattle.mx_tables.specs.declared.making.Version.{Version}
use Rattle.mx_tables.specs.declared.migration.Migrated.{Migrated}
use Rattle.mx_tables.specs.declared.making.Version.TheVariants.{One, Two}
use Rattle.mx_audit.specs.Audited.{tree_of, sources}
use Rattle.mx_audit.specs.Scans.{Each, TakesAll}
use Rattle.mx_audit.specs.declared.typed.Source.{Source}
use Rattle.mx_audit.specs.declared.typed.Source.TheVariants.{Meta, Members, Holders, Tokens, Purses, Inbox, Lines, Tray, Archive, Loads, Redemptions, Settled}

-- both databases are of this version, and their tables have the same rows
pub record Copies (v : Version) (old new : Database) : Type 0 where
  pub from : old.schema ≡ schema_of v
  pub to : new.schema ≡ schema_of v
  pub rows : KeepsRows (schema_of v).tables old.trees new.trees

-- a database was copied, and the copy migrated
pub record HasRaised (made : Migrated) (old new : Database) : Type 0 where
  pub version : Version
  pub copy : Database
  pub copied : Copies version old copy
  pub migrated : Migrates made copy new

-- ---- table by table

-- a version has the table
abbrev pub IsAmong : Version → Source → Type 0
IsAmong One Settled = ⊥
IsAmong v from = Unit {0}

abbrev pub sources_in : Version → List Source
sources_in One = Meta ∷ Members ∷ Holders ∷ Tokens ∷ Purses ∷ Inbox ∷ Lines ∷ Tray ∷ Archive ∷ Loads ∷ Redemptions ∷ []
sources_in Two = sources

-- the query that shows the rows of a table with their numbers, in their order
abbrev pub rows_text : Source → List ℕ
rows_text Meta = codes "SELECT id, version FROM meta ORDER BY rowid"
rows_text Members = codes "SELECT rowid, name, granted, unspent FROM member ORDER BY rowid"
rows_text Holders = codes "SELECT rowid, name, member FROM holder ORDER BY rowid"
rows_text Tokens = codes "SELECT rowid, token, kind, name FROM token ORDER BY rowid"
rows_text Purses = codes "SELECT rowid, name, holder, balance, next_number, status, details, log, line_count, next_message FROM purse ORDER BY rowid"
rows_text Inbox = codes "SELECT rowid, purse, number, kind, details FROM inbox ORDER BY rowid"
rows_text Lines = codes "SELECT rowid, purse, number, kind, amount, balance, note FROM line ORDER BY rowid"
rows_text Tray = codes "SELECT rowid, purse, details FROM tray ORDER BY rowid"
rows_text Archive = codes "SELECT rowid, purse, details FROM archive ORDER BY rowid"
rows_text Loads = codes "SELECT rowid, purse, reference, amount FROM load ORDER BY rowid"
rows_text Redemptions = codes "SELECT rowid, purse, reference, amount, collected FROM redemption ORDER BY rowid"
rows_text Settled = codes "SELECT rowid, details FROM settled ORDER BY rowid"

-- the statement that adds such a row
abbrev pub row_text : Source → List ℕ
row_text Meta = codes "INSERT INTO meta (id, version) VALUES (?1, ?2)"
row_text Members = codes "INSERT INTO member (rowid, name, granted, unspent) VALUES (?1, ?2, ?3, ?4)"
row_text Holders = codes "INSERT INTO holder (rowid, name, member) VALUES (?1, ?2, ?3)"
row_text Tokens = codes "INSERT INTO token (rowid, token, kind, name) VALUES (?1, ?2, ?3, ?4)"
row_text Purses = codes "INSERT INTO purse (rowid, name, holder, balance, next_number, status, details, log, line_count, next_message) VALUES (?1, ?2, ?3, ?4, ?5, ?6, ?7, ?8, ?9, ?10)"
row_text Inbox = codes "INSERT INTO inbox (rowid, purse, number, kind, details) VALUES (?1, ?2, ?3, ?4, ?5)"
row_text Lines = codes "INSERT INTO line (rowid, purse, number, kind, amount, balance, note) VALUES (?1, ?2, ?3, ?4, ?5, ?6, ?7)"
row_text Tray = codes "INSERT INTO tray (rowid, purse, details) VALUES (?1, ?2, ?3)"
row_text Archive = codes "INSERT INTO archive (rowid, purse, details) VALUES (?1, ?2, ?3)"
row_text Loads = codes "INSERT INTO load (rowid, purse, reference, amount) VALUES (?1, ?2, ?3, ?4)"
row_text Redemptions = codes "INSERT INTO redemption (rowid, purse, reference, amount, collected) VALUES (?1, ?2, ?3, ?4, ?5)"
row_text Settled = codes "INSERT INTO settled (rowid, details) VALUES (?1, ?2)"

-- what is shown of a row
abbrev pub project_of : Source → List Term
project_of Meta = col 1 0 ∷ col 1 2 ∷ []
project_of Members = col 1 0 ∷ col 1 1 ∷ col 1 2 ∷ col 1 3 ∷ []
project_of Holders = col 1 0 ∷ col 1 1 ∷ col 1 2 ∷ []
project_of Tokens = col 1 0 ∷ col 1 1 ∷ col 1 2 ∷ col 1 3 ∷ []
project_of Purses = col 1 0 ∷ col 1 1 ∷ col 1 2 ∷ col 1 3 ∷ col 1 4 ∷ col 1 5 ∷ col 1 6 ∷ col 1 7 ∷ col 1 8 ∷ col 1 9 ∷ []
project_of Inbox = col 1 0 ∷ col 1 1 ∷ col 1 2 ∷ col 1 3 ∷ col 1 4 ∷ []
project_of Lines = col 1 0 ∷ col 1 1 ∷ col 1 2 ∷ col 1 3 ∷ col 1 4 ∷ col 1 5 ∷ col 1 6 ∷ []
project_of Tray = col 1 0 ∷ col 1 1 ∷ col 1 2 ∷ []
project_of Archive = col 1 0 ∷ col 1 1 ∷ col 1 2 ∷ []
project_of Loads = col 1 0 ∷ col 1 1 ∷ col 1 2 ∷ col 1 3 ∷ []
project_of Redemptions = col 1 0 ∷ col 1 1 ∷ col 1 2 ∷ col 1 3 ∷ col 1 4 ∷ []
project_of Settled = col 1 0 ∷ col 1 1 ∷ []

abbrev pub whole_of : Source → Row → Row
whole_of from r = eval_all (project_of from) ([] ∷ r ∷ [])

module _ {S : Type 0} (g : Ghosts S) where
  -- the same savepoint is lent
  pub record IsLent (old new : Savepoint S g) : Type 0 where
    pub same_reference : new.conn.ghost_name ≡ old.conn.ghost_name
    pub place : new.at ≡ old.at

  -- the row is added to the table
  abbrev pub Fills : Source → Savepoint S g → Row → Savepoint S g → Type 0
  Fills from old row new = Runs g (row_text from) (map bound_value row) old new going (λ _. Unit {0})

  -- all rows of a tree are, in their order
  abbrev pub FillsTable : Trees → Source → Savepoint S g → Savepoint S g → Type 0
  FillsTable db from old new = IsTable (db (tree_of from)) → TakesAll (Fills from) old (map (whole_of from) (db (tree_of from))) new

  -- and those of these tables
  abbrev pub FillsTables : Trees → List Source → Savepoint S g → Savepoint S g → Type 0
  FillsTables db = Each (FillsTable db)
