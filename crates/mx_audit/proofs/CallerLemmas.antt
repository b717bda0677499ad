-- No two tokens that are stored are of one caller, by the rule on kind and name.
use Rattle.std.proofs.Common.{◌≡◌, inl, inr, ℕ, ℤ, true, false, not, ◌&&◌, List, [], ◌∷◌, is_eq, map, refl, sym, ◌∙◌, ap, ap₂, arith}
use Rattle.std.specs.List.{AllByRecursion}
use Rattle.std.specs.declared.cmp.Ordering.TheVariants.{Less, Greater}
use Rattle.std.specs.Ordering.{is_ne, ordering_reverse}
use Rattle.std.proofs.lemmas.Cmp.{tied_itself}
use Rattle.sqlite_value.specs.declared.value.Value.TheVariants.{Int, Text}
use Rattle.sqlite_value.specs.declared.keys.Collation.TheVariants.{Binary}
use Rattle.sqlite_value.specs.Order.{Row, value_cmp}
use Rattle.sqlite_value.specs.Keys.{plain, first_key}
use Rattle.sqlite_value.proofs.OrderLemmas.{value_cmp_total}
use Rattle.sqlite_trees.specs.Tree.{Trees, rowid, IsTable}
use Rattle.sqlite_trees.proofs.ListLemmas.{all_weaker}
use Rattle.sqlite_keyed.proofs.ListLemmas.{all_from_test}
use Rattle.sqlite_rules.specs.Lists.{Has}
use Rattle.sqlite_rules.proofs.ListLemmas.{some_from}
use Rattle.sqlite_sql.specs.Ops.{binary}
use Rattle.sqlite_schema.specs.declared.schema.Index.{Index}
use Rattle.sqlite_schema.specs.declared.schema.Table.{Table}
use Rattle.sqlite_schema.specs.declared.schema.Constraint.TheVariants.{Unique}
use Rattle.sqlite_schema.specs.Rules.{agree, equal, guards, clashes, passes, differ, Keeps}
use Rattle.mx_book.specs.World.{Token}
use Rattle.mx_book.specs.declared.values.Caller.{Caller}
use Rattle.mx_cells.specs.Cells.{token_cells, kind_text, owner_text}
use Rattle.mx_tables.specs.Schema as schema
use Rattle.mx_tables.specs.Schema.{office_schema}
use Rattle.mx_tables.specs.Holds.{HaveCells, Stores}
use Rattle.mx_tables.proofs.StoredLemmas.{if_truth}
use Rattle.mx_audit.specs.Fed.{CallersDiffer}

differ_above : (i j : ℤ) → value_cmp (Int i) (Int j) ≡ Less → differ (Int j) (Int i) ≡ true
unfolding binary
differ_above i j low =
    let above : value_cmp (Int j) (Int i) ≡ Greater = value_cmp_total.antisymm (Int j) (Int i) ∙ ap ordering_reverse low in
    if_truth _ ∙ ap is_ne above

same_text : (t : List ℕ) → equal Binary (Text t) (Text t) ≡ true
unfolding binary
same_text t = if_truth _ ∙ ap is_eq (tied_itself value_cmp_total (Text t))

-- the places of kind and name
abbrev caller_places : List ℕ
caller_places = 2 ∷ 3 ∷ []

agrees_itself : (i j : ℤ) (s t : Token) (c : Caller)
    → agree plain caller_places (Int i ∷ token_cells (s, c)) caller_places (Int j ∷ token_cells (t, c)) ≡ true
unfolding first_key
agrees_itself i j s t c = rw (same_text (kind_text c), same_text (owner_text c)) refl

-- tokens of one caller agree there
one_caller : (i j : ℤ) (x y : Token × Caller) → x.1 ≡ y.1
    → agree plain caller_places (Int i ∷ token_cells x) caller_places (Int j ∷ token_cells y) ≡ true
one_caller i j x y is =
    ap (λ (c : Caller). agree plain caller_places (Int i ∷ token_cells x) caller_places (Int j ∷ token_cells (y.0, c))) (sym is)
    ∙ agrees_itself i j x.0 y.0 x.1

differ_later : (whole : List Row) (r : Row) (i : ℤ) (x : Token × Caller) → r ≡ Int i ∷ token_cells x
    → clashes plain caller_places whole r ≡ false
    → (tree : List Row) (xs : List (Token × Caller)) → HaveCells tree (map token_cells xs)
    → AllByRecursion (λ b. value_cmp (rowid r) (rowid b) ≡ Less) tree → ((b : Row) → Has tree b → Has whole b)
    → AllByRecursion (λ (d : Token × Caller). d.1 ≡ x.1 → ⊥) xs
differ_later whole r i x is none [] [] have up sub = tt
differ_later whole r i x is none (t ∷ tree) (y ∷ xs) have up sub =
    (apart, differ_later whole r i x is none tree xs have.1 up.1 (λ b h. sub b (inr h)))
  where
    apart : y.1 ≡ x.1 → ⊥
    apart same =
        let j = have.0.0 in
        let alike : agree plain caller_places t caller_places r ≡ true =
        ap₂ (λ b c. agree plain caller_places b caller_places c) have.0.1 is ∙ one_caller j i y x same in
        let low : value_cmp (Int i) (Int j) ≡ Less = sym (ap₂ (λ b c. value_cmp (rowid b) (rowid c)) is have.0.1) ∙ up.0 in
        let other : differ (rowid t) (rowid r) ≡ true = ap₂ (λ b c. differ (rowid b) (rowid c)) have.0.1 is ∙ differ_above i j low in
        let both : (agree plain caller_places t caller_places r && differ (rowid t) (rowid r)) ≡ true = grind arith in
        let met = some_from (λ b. agree plain caller_places b caller_places r && differ (rowid b) (rowid r)) whole t (sub t (inl refl)) both in
        cc
differ_later whole r i x is none tree xs have up sub = absurd have

part_differ : (whole tree : List Row) (xs : List (Token × Caller)) → HaveCells tree (map token_cells xs) → IsTable tree
    → AllByRecursion (λ r. clashes plain caller_places whole r ≡ false) tree → ((b : Row) → Has tree b → Has whole b) → CallersDiffer xs
part_differ whole [] [] have up free sub = tt
part_differ whole (r ∷ tree) (x ∷ xs) have up free sub = (
  differ_later whole r have.0.0 x have.0.1 free.0 tree xs have.1 up.0 (λ b h. sub b (inr h)),
  part_differ whole tree xs have.1 up.1 free.1 (λ b h. sub b (inr h)),
)
part_differ whole tree xs have up free sub = absurd have

abbrev token_table : Table
token_table = record schema.token { tree = 3 }

no_clash : (row : Row) (db : Trees) → passes Unique office_schema db token_table row ≡ true
    → clashes plain caller_places (db 3) row ≡ false
no_clash row db h =
    let all = all_from_test (λ (i : Index). not (guards i token_table && clashes i.order i.columns (db 3) row)) office_schema.indexes h in
    let one : not (clashes plain caller_places (db 3) row) ≡ true = all.1.1.0 in
    grind arith

pub callers_differ : (db : Trees) (xs : List (Token × Caller)) → Keeps Unique office_schema db → Stores (db 3) (map token_cells xs)
    → CallersDiffer xs
callers_differ db xs unique stored =
    part_differ (db 3) (db 3) xs stored.have stored.rise (all_weaker _ _ (λ row. no_clash row db) (db 3) unique.1.1.0) (λ b h. h)
