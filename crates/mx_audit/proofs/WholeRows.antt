-- Rows of a database are kept as they are by the statements that copy them.
use Rattle.mx_tables.proofs.Common.{◌≡◌, ℕ, ◌+◌, ◌&&◌, Bool, true, false, List, [], ◌∷◌, None, refl, ◌∙◌, arith, length, Int, Null, Text, Row, column}
use Rattle.std.proofs.Common.{zero, suc, ◌||◌, ◌==◌, not, drop, map, ap, ap₂, sym, subst, ◌/◌}
use Rattle.std.specs.Prelude.{IsTrue}
use Rattle.std.specs.List.{list_all}
use Rattle.std.specs.Cmp.{first_so, second_so}
use Rattle.sqlite_value.specs.declared.value.Value.{Value}
use Rattle.sqlite_value.specs.declared.value.Value.TheVariants.{Real, Blob}
use Rattle.sqlite_trees.specs.Tree.{rowid}
use Rattle.sqlite_trees.specs.View.{is_int}
use Rattle.sqlite_sql.specs.Ops.{is_null}
use Rattle.sqlite_schema.specs.declared.schema.Column.{Column}
use Rattle.sqlite_schema.specs.declared.schema.Kind.{Kind}
use Rattle.sqlite_schema.specs.declared.schema.Kind.TheVariants as kind
use Rattle.sqlite_schema.specs.declared.schema.Table.{Table}
use Rattle.sqlite_schema.specs.Rules.{are_typed, are_present, is_of, kind_code, suits}
use Rattle.sqlite_rules.specs.Cast.{cast, cast_all, cast_row}
use Rattle.sqlite.specs.Effect.{value_rows}
use Rattle.sqlite.specs.Rows.{stamped}
use Rattle.sqlite.specs.Values.{bound_value}
use Rattle.mx_tables.proofs.StoredLemmas.{cast_int, cast_null}
use Rattle.mx_audit.specs.Copies.{whole_of}
use Rattle.mx_audit.specs.declared.typed.Source.{Source}
use Rattle.mx_audit.specs.declared.typed.Source.TheVariants.{Meta, Members, Holders, Tokens, Purses, Inbox, Lines, Tray, Archive, Loads, Redemptions, Settled}
use Rattle.mx_audit.proofs.CopyTexts.{table_at, terms_of}
use Rattle.mx_audit.proofs.TypedLemmas.{IsRaw, never, null_is, table_of}

-- ---- values

-- a column keeps the value, and so does the way to it
abbrev IsKept : Kind → Value → Type 0
IsKept k v = (cast k v ≡ v) × (bound_value v ≡ v)

number_kept : (v : Value) → is_of kind.Integer v ≡ true → IsKept kind.Integer v
number_kept Null h = (cast_null, refl)
number_kept (Int n) h = (cast_int n, refl)
number_kept (Real x) h = absurd (cc)
number_kept (Text t) h = absurd (cc)
number_kept (Blob b) h = absurd (cc)

text_kept : (v : Value) → is_of kind.Text v ≡ true → IsKept kind.Text v
text_kept Null h = (refl, refl)
text_kept (Int n) h = absurd (cc)
text_kept (Real x) h = absurd (cc)
text_kept (Text t) h = (refl, refl)
text_kept (Blob b) h = absurd (cc)

-- a column of numbers or texts, which has a value
abbrev is_plain : Column → Bool
is_plain c = c.is_strict && c.not_null && ((kind_code c.kind == 1) || (kind_code c.kind == 3))

kind_kept : (k : Kind) (v : Value) → ((kind_code k == 1) || (kind_code k == 3)) ≡ true → is_of k v ≡ true → IsKept k v
kind_kept kind.Integer v plain h = number_kept v h
kind_kept kind.Text v plain h = text_kept v h
kind_kept kind.Real v plain h = absurd (cc)
kind_kept kind.Blob v plain h = absurd (cc)
kind_kept kind.Any v plain h = absurd (cc)

suits_strict : (c : Column) (v : Value) → c.is_strict ≡ true → suits c v ≡ true → is_of c.kind v ≡ true
suits_strict c v strict h = rw strict at h

lacks : (b : Bool) (v : Value) → b ≡ true → v ≡ Null → ((false || not b) || not (is_null v)) ≡ true → ⊥
lacks b v there none h = let it = rw (there, none) at h in cc

-- ---- rows

-- the values of all columns are there, and are kept
pub record AreKept (cs : List Column) (vs : Row) : Type 0 where
  pub many : length vs ≡ length cs
  pub cast : cast_all cs vs ≡ vs
  pub bound : map bound_value vs ≡ vs

are_kept : (at : ℕ) (cs : List Column) (row vs : Row) → list_all is_plain cs ≡ true → are_typed None at cs vs ≡ true → are_present None at cs row ≡ true → ((i j : ℕ) → j ≡ (at + 1) + i → column row j ≡ column vs i)
    → AreKept cs vs
are_kept at [] row [] plain typed present tail = record { many = refl; cast = refl; bound = refl }
are_kept at [] row (v ∷ vs) plain typed present tail = absurd (cc)
are_kept at (c ∷ cs) row [] plain typed present tail =
    absurd (lacks c.not_null (column row (at + 1)) (second_so _ _ (first_so _ _ (first_so _ _ plain))) (tail 0 (at + 1) (omega arith)) (first_so _ _ present))
are_kept at (c ∷ cs) row (v ∷ vs) plain typed present tail =
    let first = first_so _ _ plain in
    let it = kind_kept c.kind v (second_so _ _ first) (suits_strict c v (first_so _ _ (first_so _ _ first)) (first_so _ _ typed)) in
    let more = are_kept (at + 1) cs row vs (second_so _ _ plain) (second_so _ _ typed) (second_so _ _ present) (λ i j e. tail (suc i) j (omega (arith, e))) in
    record { many = ap suc more.many; cast = ap₂ ◌∷◌ it.0 more.cast; bound = ap₂ ◌∷◌ it.1 more.bound }

-- a whole row is
pub record IsKeptRow (t : Table) (r : Row) : Type 0 where
  pub many : length r ≡ suc (length t.columns)
  pub cast : cast_row t r ≡ r
  pub bound : map bound_value r ≡ r

row_kept : (t : Table) (r : Row) → t.key ≡ None → list_all is_plain t.columns ≡ true → IsTrue (is_int (rowid r)) → are_typed t.key 0 t.columns (drop 1 r) ≡ true → are_present t.key 0 t.columns r ≡ true → IsKeptRow t r
row_kept t [] none plain numbered typed present = absurd (cc)
row_kept t (Int id ∷ vs) none plain numbered typed present =
    let it = are_kept 0 t.columns (Int id ∷ vs) vs plain (subst (λ k. are_typed k 0 t.columns vs ≡ true) none typed) (subst (λ k. are_present k 0 t.columns (Int id ∷ vs) ≡ true) none present)
    (λ i j e. ap (column (Int id ∷ vs)) {y = suc i} (omega (arith, e))) in
    record { many = ap suc it.many; cast = ap₂ ◌∷◌ (cast_int id) it.cast; bound = ap (λ (all : Row). Int id ∷ all) it.bound }
row_kept t (Null ∷ vs) none plain numbered typed present = absurd (cc)
row_kept t (Real x ∷ vs) none plain numbered typed present = absurd (cc)
row_kept t (Text b ∷ vs) none plain numbered typed present = absurd (cc)
row_kept t (Blob b ∷ vs) none plain numbered typed present = absurd (cc)

-- so many columns from a place on
abbrev columns_from : ℕ → ℕ → Row → Row
columns_from at zero r = []
columns_from at (suc n) r = column r at ∷ columns_from (suc at) n r

columns_are : (at : ℕ) (r all : Row) → ((i j : ℕ) → j ≡ at + i → column all j ≡ column r i) → columns_from at (length r) all ≡ r
columns_are at [] all tail = refl
columns_are at (x ∷ r) all tail = ap₂ ◌∷◌ (tail 0 at (omega arith)) (columns_are (suc at) r all (λ i j e. tail (suc i) j (omega (arith, e))))

-- ---- what the statement makes of what is shown

abbrev pub made : Source → Row → List Row
made from params =
    map (cast_row (table_at from)) (value_rows (stamped (table_at from) params) (length (terms_of from)) (length (terms_of from) / length (terms_of from)) (terms_of from))

-- the statements give the row again
pub record IsWholeRow (from : Source) (r : Row) : Type 0 where
  pub same : made from (map bound_value (whole_of from r)) ≡ r ∷ []
  pub numbered : is_null (rowid r) ≡ false

int_there : (v : Value) → IsTrue (is_int v) → is_null v ≡ false
int_there Null h = absurd (cc)
int_there (Int n) h = refl
int_there (Real x) h = refl
int_there (Text t) h = refl
int_there (Blob b) h = refl

-- a table without a key in its columns
record IsPlainTable (from : Source) : Type 0 where
  pub keyless : (table_of from).key ≡ None
  pub plain : list_all is_plain (table_of from).columns ≡ true
  pub shows : (r : Row) → whole_of from r ≡ columns_from 0 (suc (length (table_of from).columns)) r
  pub makes : (r : Row) → made from (columns_from 0 (suc (length (table_of from).columns)) r) ≡ cast_row (table_of from) (columns_from 0 (suc (length (table_of from).columns)) r) ∷ []

plain_row : (from : Source) → IsPlainTable from → (r : Row) → IsRaw from r → are_present (table_of from).key 0 (table_of from).columns r ≡ true → IsWholeRow from r
plain_row from p r raw present =
    let t = table_of from in
    let it = row_kept t r p.keyless p.plain raw.numbered raw.typed present in
    let shown = columns_from 0 (suc (length t.columns)) r in
    let same : shown ≡ r = subst (λ n. columns_from 0 n r ≡ r) it.many (columns_are 0 r r (λ i j e. ap (column r) {y = i} (omega (arith, e)))) in
    let params : map bound_value (whole_of from r) ≡ shown = ap (map bound_value) (p.shows r ∙ same) ∙ it.bound ∙ sym same in
    record {
      same = ap (made from) params ∙ p.makes r ∙ ap (λ (x : Row). cast_row t x ∷ []) same ∙ ap (λ (x : Row). x ∷ []) it.cast;
      numbered = int_there (rowid r) raw.numbered;
    }

meta_row : (r : Row) → IsRaw Meta r → are_present (table_of Meta).key 0 (table_of Meta).columns r ≡ true → IsWholeRow Meta r
meta_row [] raw present = absurd (let h = raw.numbered in cc)
meta_row (x ∷ []) raw present = absurd (never present)
meta_row (x ∷ y ∷ []) raw present = absurd (never present)
meta_row (Int id ∷ y ∷ z ∷ []) raw present =
    let none = null_is y (first_so _ _ raw.typed) in
    let it = number_kept z (first_so _ _ (second_so _ _ raw.typed)) in
    record { same = rw (it.1, cast_int id, cast_null, it.0, none) refl; numbered = refl }
meta_row (Null ∷ y ∷ z ∷ []) raw present = absurd (let h = raw.numbered in cc)
meta_row (Real x ∷ y ∷ z ∷ []) raw present = absurd (let h = raw.numbered in cc)
meta_row (Text t ∷ y ∷ z ∷ []) raw present = absurd (let h = raw.numbered in cc)
meta_row (Blob b ∷ y ∷ z ∷ []) raw present = absurd (let h = raw.numbered in cc)
meta_row (x ∷ y ∷ z ∷ w ∷ row) raw present = absurd (never (second_so _ _ (second_so _ _ raw.typed)))

plain_table : (from : Source) → (from ≡ Meta → ⊥) → IsPlainTable from
plain_table Meta other = absurd (other refl)
plain_table Members other = record { keyless = refl; plain = refl; shows = λ r. refl; makes = λ r. refl }
plain_table Holders other = record { keyless = refl; plain = refl; shows = λ r. refl; makes = λ r. refl }
plain_table Tokens other = record { keyless = refl; plain = refl; shows = λ r. refl; makes = λ r. refl }
plain_table Purses other = record { keyless = refl; plain = refl; shows = λ r. refl; makes = λ r. refl }
plain_table Inbox other = record { keyless = refl; plain = refl; shows = λ r. refl; makes = λ r. refl }
plain_table Lines other = record { keyless = refl; plain = refl; shows = λ r. refl; makes = λ r. refl }
plain_table Tray other = record { keyless = refl; plain = refl; shows = λ r. refl; makes = λ r. refl }
plain_table Archive other = record { keyless = refl; plain = refl; shows = λ r. refl; makes = λ r. refl }
plain_table Loads other = record { keyless = refl; plain = refl; shows = λ r. refl; makes = λ r. refl }
plain_table Redemptions other = record { keyless = refl; plain = refl; shows = λ r. refl; makes = λ r. refl }
plain_table Settled other = record { keyless = refl; plain = refl; shows = λ r. refl; makes = λ r. refl }

-- a row of a database
pub whole_row : (from : Source) (r : Row) → IsRaw from r → are_present (table_of from).key 0 (table_of from).columns r ≡ true → IsWholeRow from r
whole_row Meta r raw present = meta_row r raw present
whole_row Members r raw present = plain_row Members (plain_table Members (λ e. cc)) r raw present
whole_row Holders r raw present = plain_row Holders (plain_table Holders (λ e. cc)) r raw present
whole_row Tokens r raw present = plain_row Tokens (plain_table Tokens (λ e. cc)) r raw present
whole_row Purses r raw present = plain_row Purses (plain_table Purses (λ e. cc)) r raw present
whole_row Inbox r raw present = plain_row Inbox (plain_table Inbox (λ e. cc)) r raw present
whole_row Lines r raw present = plain_row Lines (plain_table Lines (λ e. cc)) r raw present
whole_row Tray r raw present = plain_row Tray (plain_table Tray (λ e. cc)) r raw present
whole_row Archive r raw present = plain_row Archive (plain_table Archive (λ e. cc)) r raw present
whole_row Loads r raw present = plain_row Loads (plain_table Loads (λ e. cc)) r raw present
whole_row Redemptions r raw present = plain_row Redemptions (plain_table Redemptions (λ e. cc)) r raw present
whole_row Settled r raw present = plain_row Settled (plain_table Settled (λ e. cc)) r raw present
