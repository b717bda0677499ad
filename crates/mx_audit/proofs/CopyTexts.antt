-- The statements that copy the rows of tables, in the schema of each version.
use Rattle.mx_tables.proofs.Common.{◌≡◌, ℕ, List, [], ◌∷◌, false, Some, codes, refl, length, Term, col, Null}
use Rattle.std.proofs.Common.{slice_get}
use Rattle.sqlite_sql.specs.Term.{lit}
use Rattle.sqlite_schema.specs.declared.command.Command.TheVariants.{Insert, Select}
use Rattle.sqlite_schema.specs.declared.command.Source.TheVariants.{Values}
use Rattle.sqlite_schema.specs.declared.schema.Table.{Table}
use Rattle.sqlite_tied.specs.Compute.{everything}
use Rattle.sqlite.specs.Given.{IsPlain}
use Rattle.sqlite.specs.Listing.{understood, reads_listing}
use Rattle.sqlite.proofs.Callers.{command_of}
use Rattle.mx_tables.specs.Schema.{schema_of}
use Rattle.mx_tables.specs.States.{IsSilent}
use Rattle.mx_tables.specs.declared.making.Version.{Version}
use Rattle.mx_tables.specs.declared.making.Version.TheVariants.{One, Two}
use Rattle.mx_tables.proofs.Texts.{alone, scan}
use Rattle.mx_audit.specs.Audited.{tree_of}
use Rattle.mx_audit.specs.Copies.{IsAmong, project_of, row_text, rows_text}
use Rattle.mx_audit.specs.declared.typed.Source.{Source}
use Rattle.mx_audit.specs.declared.typed.Source.TheVariants.{Meta, Members, Holders, Tokens, Purses, Inbox, Lines, Tray, Archive, Loads, Redemptions, Settled}
use Rattle.mx_audit.proofs.ScanLemmas.{by_number}
use Rattle.mx_audit.proofs.TypedLemmas.{table_of}

-- the place of a table in the schema
abbrev pub place_of : Source → ℕ
place_of Meta = 0
place_of Members = 1
place_of Holders = 3
place_of Tokens = 2
place_of Purses = 4
place_of Inbox = 5
place_of Lines = 6
place_of Tray = 7
place_of Archive = 8
place_of Loads = 9
place_of Redemptions = 10
place_of Settled = 11

abbrev pub table_at : Source → Table
table_at from = record (table_of from) { tree = tree_of from }

-- the names of what is shown
abbrev pub names_of : Source → List (List ℕ)
names_of Meta = codes "id" ∷ codes "version" ∷ []
names_of Members = codes "rowid" ∷ codes "name" ∷ codes "granted" ∷ codes "unspent" ∷ []
names_of Holders = codes "rowid" ∷ codes "name" ∷ codes "member" ∷ []
names_of Tokens = codes "rowid" ∷ codes "token" ∷ codes "kind" ∷ codes "name" ∷ []
names_of Purses = codes "rowid" ∷ codes "name" ∷ codes "holder" ∷ codes "balance" ∷ codes "next_number" ∷ codes "status" ∷ codes "details" ∷ codes "log" ∷ codes "line_count" ∷ codes "next_message" ∷ []
names_of Inbox = codes "rowid" ∷ codes "purse" ∷ codes "number" ∷ codes "kind" ∷ codes "details" ∷ []
names_of Lines = codes "rowid" ∷ codes "purse" ∷ codes "number" ∷ codes "kind" ∷ codes "amount" ∷ codes "balance" ∷ codes "note" ∷ []
names_of Tray = codes "rowid" ∷ codes "purse" ∷ codes "details" ∷ []
names_of Archive = codes "rowid" ∷ codes "purse" ∷ codes "details" ∷ []
names_of Loads = codes "rowid" ∷ codes "purse" ∷ codes "reference" ∷ codes "amount" ∷ []
names_of Redemptions = codes "rowid" ∷ codes "purse" ∷ codes "reference" ∷ codes "amount" ∷ codes "collected" ∷ []
names_of Settled = codes "rowid" ∷ codes "details" ∷ []

-- what a row is made of
abbrev pub terms_of : Source → List Term
terms_of Meta = col 0 0 ∷ lit Null ∷ col 0 1 ∷ []
terms_of Members = col 0 0 ∷ col 0 1 ∷ col 0 2 ∷ col 0 3 ∷ []
terms_of Holders = col 0 0 ∷ col 0 1 ∷ col 0 2 ∷ []
terms_of Tokens = col 0 0 ∷ col 0 1 ∷ col 0 2 ∷ col 0 3 ∷ []
terms_of Purses = col 0 0 ∷ col 0 1 ∷ col 0 2 ∷ col 0 3 ∷ col 0 4 ∷ col 0 5 ∷ col 0 6 ∷ col 0 7 ∷ col 0 8 ∷ col 0 9 ∷ []
terms_of Inbox = col 0 0 ∷ col 0 1 ∷ col 0 2 ∷ col 0 3 ∷ col 0 4 ∷ []
terms_of Lines = col 0 0 ∷ col 0 1 ∷ col 0 2 ∷ col 0 3 ∷ col 0 4 ∷ col 0 5 ∷ col 0 6 ∷ []
terms_of Tray = col 0 0 ∷ col 0 1 ∷ col 0 2 ∷ []
terms_of Archive = col 0 0 ∷ col 0 1 ∷ col 0 2 ∷ []
terms_of Loads = col 0 0 ∷ col 0 1 ∷ col 0 2 ∷ col 0 3 ∷ []
terms_of Redemptions = col 0 0 ∷ col 0 1 ∷ col 0 2 ∷ col 0 3 ∷ col 0 4 ∷ []
terms_of Settled = col 0 0 ∷ col 0 1 ∷ []

-- what its two statements are in the schema of a version that has the table
pub record IsKnown (v : Version) (from : Source) : Type 0 where
  pub found : slice_get (schema_of v).tables (place_of from) ≡ Some (table_at from)
  pub reads : command_of (understood (schema_of v) (rows_text from)) ≡ Select (alone (scan (tree_of from) [] (project_of from) by_number)) (names_of from)
  pub plain_read : IsPlain (understood (schema_of v) (rows_text from))
  pub unlisted : reads_listing (schema_of v) (rows_text from) ≡ false
  pub writes : command_of (understood (schema_of v) (row_text from)) ≡ Insert (place_of from) (Values (terms_of from) (length (terms_of from)))
  pub plain_write : IsPlain (understood (schema_of v) (row_text from))

pub known : (v : Version) (from : Source) → IsAmong v from → IsKnown v from
unfolding understood everything
known One Meta among = record { found = refl; reads = refl; plain_read = (refl, refl); unlisted = refl; writes = refl; plain_write = (refl, refl) }
known One Members among = record { found = refl; reads = refl; plain_read = (refl, refl); unlisted = refl; writes = refl; plain_write = (refl, refl) }
known One Holders among = record { found = refl; reads = refl; plain_read = (refl, refl); unlisted = refl; writes = refl; plain_write = (refl, refl) }
known One Tokens among = record { found = refl; reads = refl; plain_read = (refl, refl); unlisted = refl; writes = refl; plain_write = (refl, refl) }
known One Purses among = record { found = refl; reads = refl; plain_read = (refl, refl); unlisted = refl; writes = refl; plain_write = (refl, refl) }
known One Inbox among = record { found = refl; reads = refl; plain_read = (refl, refl); unlisted = refl; writes = refl; plain_write = (refl, refl) }
known One Lines among = record { found = refl; reads = refl; plain_read = (refl, refl); unlisted = refl; writes = refl; plain_write = (refl, refl) }
known One Tray among = record { found = refl; reads = refl; plain_read = (refl, refl); unlisted = refl; writes = refl; plain_write = (refl, refl) }
known One Archive among = record { found = refl; reads = refl; plain_read = (refl, refl); unlisted = refl; writes = refl; plain_write = (refl, refl) }
known One Loads among = record { found = refl; reads = refl; plain_read = (refl, refl); unlisted = refl; writes = refl; plain_write = (refl, refl) }
known One Redemptions among = record { found = refl; reads = refl; plain_read = (refl, refl); unlisted = refl; writes = refl; plain_write = (refl, refl) }
known One Settled among = absurd among
known Two Meta among = record { found = refl; reads = refl; plain_read = (refl, refl); unlisted = refl; writes = refl; plain_write = (refl, refl) }
known Two Members among = record { found = refl; reads = refl; plain_read = (refl, refl); unlisted = refl; writes = refl; plain_write = (refl, refl) }
known Two Holders among = record { found = refl; reads = refl; plain_read = (refl, refl); unlisted = refl; writes = refl; plain_write = (refl, refl) }
known Two Tokens among = record { found = refl; reads = refl; plain_read = (refl, refl); unlisted = refl; writes = refl; plain_write = (refl, refl) }
known Two Purses among = record { found = refl; reads = refl; plain_read = (refl, refl); unlisted = refl; writes = refl; plain_write = (refl, refl) }
known Two Inbox among = record { found = refl; reads = refl; plain_read = (refl, refl); unlisted = refl; writes = refl; plain_write = (refl, refl) }
known Two Lines among = record { found = refl; reads = refl; plain_read = (refl, refl); unlisted = refl; writes = refl; plain_write = (refl, refl) }
known Two Tray among = record { found = refl; reads = refl; plain_read = (refl, refl); unlisted = refl; writes = refl; plain_write = (refl, refl) }
known Two Archive among = record { found = refl; reads = refl; plain_read = (refl, refl); unlisted = refl; writes = refl; plain_write = (refl, refl) }
known Two Loads among = record { found = refl; reads = refl; plain_read = (refl, refl); unlisted = refl; writes = refl; plain_write = (refl, refl) }
known Two Redemptions among = record { found = refl; reads = refl; plain_read = (refl, refl); unlisted = refl; writes = refl; plain_write = (refl, refl) }
known Two Settled among = record { found = refl; reads = refl; plain_read = (refl, refl); unlisted = refl; writes = refl; plain_write = (refl, refl) }

pub reads_silent : (from : Source) → IsSilent (rows_text from)
unfolding understood everything
reads_silent Meta = λ _ _. refl
reads_silent Members = λ _ _. refl
reads_silent Holders = λ _ _. refl
reads_silent Tokens = λ _ _. refl
reads_silent Purses = λ _ _. refl
reads_silent Inbox = λ _ _. refl
reads_silent Lines = λ _ _. refl
reads_silent Tray = λ _ _. refl
reads_silent Archive = λ _ _. refl
reads_silent Loads = λ _ _. refl
reads_silent Redemptions = λ _ _. refl
reads_silent Settled = λ _ _. refl

pub uncounted : (from : Source) → (table_at from).is_counted ≡ false
uncounted Meta = refl
uncounted Members = refl
uncounted Holders = refl
uncounted Tokens = refl
uncounted Purses = refl
uncounted Inbox = refl
uncounted Lines = refl
uncounted Tray = refl
uncounted Archive = refl
uncounted Loads = refl
uncounted Redemptions = refl
uncounted Settled = refl
