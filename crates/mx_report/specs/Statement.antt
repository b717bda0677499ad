-- The statement of a purse, and the text of one and of all: comma-separated values (RFC 4180), as the crate csv writes them, with a line
-- feed after each record.
use Rattle.std.specs.Prelude.{ℕ, List, [], ◌∷◌, ◌++◌, Option, Some, None, codes, flat_map, option_map}
use Rattle.std.specs.Fmt.{decimal}
use Rattle.std.specs.FinMap as fmap
use Rattle.csv.specs.Writing.{default_writer, row_text}
use Rattle.mx_book.specs.declared.values.Line.{Line}
use Rattle.mx_book.specs.Reads.{of_purse, purse_names_of}
use Rattle.mx_book.specs.Words.{kind_text, note_text}
use Rattle.mx_book.specs.World.{World, Row, Name}

-- the lines of a purse, where there is such a purse
abbrev pub statement_of : World → Name → Option (List Line)
statement_of w p = option_map (λ (r : Row). r.holding.lines) (fmap.get w.rows p)

-- the lines of a purse, and none where there is no such purse
abbrev pub own_lines : World → Name → List Line
own_lines = of_purse [] (λ r. r.holding.lines)

-- the text of a record
abbrev pub record_text : List (List ℕ) → List ℕ
record_text fields = row_text default_writer fields

-- what the columns are called
abbrev pub statement_header : List (List ℕ)
statement_header = codes "number" ∷ codes "kind" ∷ codes "amount" ∷ codes "balance" ∷ codes "note" ∷ []

-- the fields of a line
abbrev pub line_fields : Line → List (List ℕ)
line_fields l = decimal l.number ∷ kind_text l.kind ∷ decimal l.amount ∷ decimal l.balance ∷ note_text l.note ∷ []

-- fields behind the name of a purse, where one is named
abbrev pub named : Option Name → List (List ℕ) → List (List ℕ)
named None fields = fields
named (Some p) fields = p ∷ fields

-- the records of lines, each behind the name of the purse, where one is named
abbrev pub lines_text : Option Name → List Line → List ℕ
lines_text purse lines = flat_map (λ l. record_text (named purse (line_fields l))) lines

-- the text of a statement: the header, and a record for each line
abbrev pub statement_text : List Line → List ℕ
statement_text lines = record_text statement_header ++ lines_text None lines

-- the text of the statements of all purses: the header, and purse by purse, in the order of their names, a record for each
-- line
abbrev pub statements_text : World → List ℕ
statements_text w =
    record_text (codes "purse" ∷ statement_header) ++ flat_map (λ p. lines_text (Some p) (own_lines w p)) (purse_names_of w)
