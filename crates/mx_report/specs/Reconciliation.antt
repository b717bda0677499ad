-- The reconciliation of the scheme, and its text.
use Rattle.std.specs.Prelude.{ℕ, List, [], ◌∷◌, ◌++◌, codes, flat_map}
use Rattle.std.specs.Fmt.{decimal}
use Rattle.mx_book.specs.declared.values.MemberTotals.{MemberTotals}
use Rattle.mx_book.specs.declared.values.Totals.{Totals}
use Rattle.mx_book.specs.World.{Name}
use Rattle.mx_report.specs.Statement.{record_text}

-- what the columns are called
abbrev pub reconciliation_header : List (List ℕ)
reconciliation_header =
    codes "row" ∷ codes "name" ∷ codes "granted" ∷ codes "float" ∷ codes "uncollected" ∷ codes "issued" ∷ codes "redeemed" ∷ codes "balances"
    ∷ codes "transit" ∷ codes "lost" ∷ []

-- the fields of a record: what it tells of, a name, six sums, and what is in transit and lost
abbrev pub sums_fields : List ℕ → List ℕ → MemberTotals → List ℕ → List ℕ → List (List ℕ)
sums_fields row name sums transit lost =
    row ∷ name ∷ decimal sums.granted ∷ decimal sums.float ∷ decimal sums.uncollected ∷ decimal sums.issued ∷ decimal sums.redeemed ∷ decimal sums.balances
    ∷ transit ∷ lost ∷ []

-- a member's record, whose transit and lost are empty, since these may cross members
abbrev pub member_text : Name × MemberTotals → List ℕ
member_text m = record_text (sums_fields (codes "member") m.0 m.1 [] [])

-- the first six sums of the scheme
abbrev pub six : Totals → MemberTotals
six sums = record {
  granted = sums.granted;
  float = sums.float;
  uncollected = sums.uncollected;
  issued = sums.issued;
  redeemed = sums.redeemed;
  balances = sums.balances;
}

-- the scheme's record, which has no name
abbrev pub scheme_text : Totals → List ℕ
scheme_text sums = record_text (sums_fields (codes "scheme") [] (six sums) (decimal sums.transit) (decimal sums.lost))

-- the records of members
abbrev pub members_text : List (Name × MemberTotals) → List ℕ
members_text members = flat_map member_text members

-- the text of a reconciliation: the header, a record for each member, and the scheme's
abbrev pub reconciliation_text : List (Name × MemberTotals) → Totals → List ℕ
reconciliation_text members scheme = record_text reconciliation_header ++ members_text members ++ scheme_text scheme
