-- The rows of each table as keys and values, and what holds of these rows holds of them in any order.
use Rattle.std.proofs.Common.{◌≡◌, inl, inr, ℕ, ℤ, false, List, [], ◌∷◌, ◌++◌, Some, Option, cond, is_eq, map, refl, sym, ◌∙◌, ap, ap₂, subst, arith}
use Rattle.std.specs.List.{AllByRecursion, flat_map}
use Rattle.std.specs.List.Sorted.{IsPermutation}
use Rattle.std.specs.declared.cmp.Ordering.{Ordering}
use Rattle.std.specs.Ordering.{eq_by_cmp}
use Rattle.std.specs.Cmp.{IsTotalOrder, eq_by_cmp_equiv}
use Rattle.std.specs.FinMap as fmap
use Rattle.std.specs.FinMap.{FinMap, IsAntisymmetric}
use Rattle.std.proofs.lemmas.Bool.{cases_Bool}
use Rattle.sqlite_value.specs.declared.value.Value.TheVariants.{Int}
use Rattle.sqlite_value.specs.Order.{Row}
use Rattle.sqlite_trees.proofs.ListLemmas.{along_permutation}
use Rattle.mx_pay.specs.Details.{Details, IsDetails}
use Rattle.mx_pay.proofs.TestLemmas.{is_equal}
use Rattle.mx_purse.specs.declared.message.Message as purse
use Rattle.mx_book.specs.World.{Name}
use Rattle.mx_book.specs.World as book
use Rattle.mx_book.specs.declared.values.Caller.{Caller}
use Rattle.mx_book.specs.declared.values.LineRow.{LineRow}
use Rattle.mx_book.specs.declared.values.MemberRow.{MemberRow}
use Rattle.mx_book.specs.declared.values.PurseRow.{PurseRow}
use Rattle.mx_book.specs.declared.values.Redemption as values
use Rattle.mx_cells.specs.Cells.{token_cells, member_cells, holder_cells, purse_cells, message_cells, line_cells, result_cells, load_cells, redemption_cells, settled_cells}
use Rattle.mx_cells.specs.Entries.{IsTokenRow, IsMemberRow, IsHolderRow, IsPurseRow, IsMessageRow, IsLineRow, IsResultRow, IsLoadRow, IsRedemptionRow}
use Rattle.mx_tables.specs.Holds.{HaveCells}
use Rattle.mx_tables.proofs.MapLists.{AreDistinct}
use Rattle.mx_audit.specs.Fed.{IsListed}
use Rattle.mx_audit.specs.Readings.{tokens_of, members_of, holders_of, purses_of, messages_of, lines_of, laid_of, archived_of, loads_of, redemptions_of, settled_of}
use Rattle.mx_audit.specs.Typed.{source_of, IsTyped}
use Rattle.mx_audit.specs.declared.typed.Source.{Source}
use Rattle.mx_audit.specs.declared.typed.Source.TheVariants as source
use Rattle.mx_audit.specs.declared.typed.TypedRow.{TypedRow}
use Rattle.mx_audit.specs.declared.typed.TypedRow.TheVariants.{Member, Holder, Token, Purse, Message, Line, Laid, Archived, Load, Redemption, Settled}
use Rattle.mx_audit.proofs.TypedLemmas.{cells_of_row, MayHave}
use Rattle.mx_audit.proofs.StoredLemmas.{IsOf, StoreRows, have_cells}

-- ---- each kind of row

-- the typed rows of a table are made of these, which are taken out of them again
pub record IsKind {E : Type 0} (from : Source) (make : E → TypedRow) (part : TypedRow → List E) (cells : E → Row) (IsOne : E → Type 0)
    : Type 0 where
  pub of : (x : E) → source_of (make x) ≡ from
  pub stored : (x : E) → cells_of_row (make x) ≡ cells x
  pub may : (x : E) (id : ℤ) → MayHave (make x) id
  pub one : (x : E) → IsTyped (make x) → IsOne x
  pub typed : (x : E) → IsOne x → IsTyped (make x)
  pub taken : (x : E) → part (make x) ≡ x ∷ []
  pub made : (e : TypedRow) → source_of e ≡ from → (x : E) × (e ≡ make x)

abbrev pub make_token : book.Token × Caller → TypedRow
make_token e = Token e.0 e.1

abbrev pub make_member : Name × MemberRow → TypedRow
make_member e = Member e.0 e.1

abbrev pub make_holder : Name × Name → TypedRow
make_holder e = Holder e.0 e.1

abbrev pub make_purse : Name × PurseRow → TypedRow
make_purse e = Purse e.0 e.1

abbrev pub make_message : (Name × ℕ) × purse.Message → TypedRow
make_message e = Message e.0.0 e.0.1 e.1

abbrev pub make_line : (Name × ℕ) × LineRow → TypedRow
make_line e = Line e.0.0 e.0.1 e.1

abbrev pub make_laid : Name × Details → TypedRow
make_laid e = Laid e.0 e.1

abbrev pub make_archived : Name × Details → TypedRow
make_archived e = Archived e.0 e.1

abbrev pub make_load : (Name × Name) × ℕ → TypedRow
make_load e = Load e.0.0 e.0.1 e.1

abbrev pub make_redemption : (Name × Name) × values.Redemption → TypedRow
make_redemption e = Redemption e.0.0 e.0.1 e.1

made_token : (e : TypedRow) → source_of e ≡ source.Tokens → (x : book.Token × Caller) × (e ≡ make_token x)
made_token (Token t c) is = ((t, c), refl)
made_token e is = absurd (cc)

pub token_kind : IsKind source.Tokens make_token tokens_of token_cells IsTokenRow
token_kind =
    record { of = λ x. refl; stored = λ x. refl; may = λ x id. tt; one = λ x h. h; typed = λ x h. h; taken = λ x. refl; made = made_token }

made_member : (e : TypedRow) → source_of e ≡ source.Members → (x : Name × MemberRow) × (e ≡ make_member x)
made_member (Member n x) is = ((n, x), refl)
made_member e is = absurd (cc)

pub member_kind : IsKind source.Members make_member members_of member_cells IsMemberRow
member_kind =
    record { of = λ x. refl; stored = λ x. refl; may = λ x id. tt; one = λ x h. h; typed = λ x h. h; taken = λ x. refl; made = made_member }

made_holder : (e : TypedRow) → source_of e ≡ source.Holders → (x : Name × Name) × (e ≡ make_holder x)
made_holder (Holder h m) is = ((h, m), refl)
made_holder e is = absurd (cc)

pub holder_kind : IsKind source.Holders make_holder holders_of holder_cells IsHolderRow
holder_kind =
    record { of = λ x. refl; stored = λ x. refl; may = λ x id. tt; one = λ x h. h; typed = λ x h. h; taken = λ x. refl; made = made_holder }

made_purse_row : (e : TypedRow) → source_of e ≡ source.Purses → (x : Name × PurseRow) × (e ≡ make_purse x)
made_purse_row (Purse p x) is = ((p, x), refl)
made_purse_row e is = absurd (cc)

pub purse_row_kind : IsKind source.Purses make_purse purses_of purse_cells IsPurseRow
purse_row_kind =
    record { of = λ x. refl; stored = λ x. refl; may = λ x id. tt; one = λ x h. h; typed = λ x h. h; taken = λ x. refl; made = made_purse_row }

made_message : (e : TypedRow) → source_of e ≡ source.Inbox → (x : (Name × ℕ) × purse.Message) × (e ≡ make_message x)
made_message (Message p n m) is = (((p, n), m), refl)
made_message e is = absurd (cc)

pub message_kind : IsKind source.Inbox make_message messages_of message_cells IsMessageRow
message_kind =
    record { of = λ x. refl; stored = λ x. refl; may = λ x id. tt; one = λ x h. h; typed = λ x h. h; taken = λ x. refl; made = made_message }

made_line : (e : TypedRow) → source_of e ≡ source.Lines → (x : (Name × ℕ) × LineRow) × (e ≡ make_line x)
made_line (Line p n l) is = (((p, n), l), refl)
made_line e is = absurd (cc)

pub line_kind : IsKind source.Lines make_line lines_of line_cells IsLineRow
line_kind =
    record { of = λ x. refl; stored = λ x. refl; may = λ x id. tt; one = λ x h. h; typed = λ x h. h; taken = λ x. refl; made = made_line }

made_laid : (e : TypedRow) → source_of e ≡ source.Tray → (x : Name × Details) × (e ≡ make_laid x)
made_laid (Laid p d) is = ((p, d), refl)
made_laid e is = absurd (cc)

pub laid_kind : IsKind source.Tray make_laid laid_of (λ k. result_cells (k, tt)) IsResultRow
laid_kind =
    record { of = λ x. refl; stored = λ x. refl; may = λ x id. tt; one = λ x h. h; typed = λ x h. h; taken = λ x. refl; made = made_laid }

made_archived : (e : TypedRow) → source_of e ≡ source.Archive → (x : Name × Details) × (e ≡ make_archived x)
made_archived (Archived p d) is = ((p, d), refl)
made_archived e is = absurd (cc)

pub archived_kind : IsKind source.Archive make_archived archived_of (λ k. result_cells (k, tt)) IsResultRow
archived_kind =
    record { of = λ x. refl; stored = λ x. refl; may = λ x id. tt; one = λ x h. h; typed = λ x h. h; taken = λ x. refl; made = made_archived }

made_load : (e : TypedRow) → source_of e ≡ source.Loads → (x : (Name × Name) × ℕ) × (e ≡ make_load x)
made_load (Load p reference amount) is = (((p, reference), amount), refl)
made_load e is = absurd (cc)

pub load_kind : IsKind source.Loads make_load loads_of load_cells IsLoadRow
load_kind =
    record { of = λ x. refl; stored = λ x. refl; may = λ x id. tt; one = λ x h. h; typed = λ x h. h; taken = λ x. refl; made = made_load }

made_redemption : (e : TypedRow) → source_of e ≡ source.Redemptions → (x : (Name × Name) × values.Redemption) × (e ≡ make_redemption x)
made_redemption (Redemption p reference x) is = (((p, reference), x), refl)
made_redemption e is = absurd (cc)

pub redemption_kind : IsKind source.Redemptions make_redemption redemptions_of redemption_cells IsRedemptionRow
redemption_kind =
    record { of = λ x. refl; stored = λ x. refl; may = λ x id. tt; one = λ x h. h; typed = λ x h. h; taken = λ x. refl; made = made_redemption }

made_settled : (e : TypedRow) → source_of e ≡ source.Settled → (x : Details) × (e ≡ Settled x)
made_settled (Settled d) is = (d, refl)
made_settled e is = absurd (cc)

pub settled_kind : IsKind source.Settled Settled settled_of (λ d. settled_cells (d, tt)) IsDetails
settled_kind =
    record { of = λ x. refl; stored = λ x. refl; may = λ x id. tt; one = λ x h. h; typed = λ x h. h; taken = λ x. refl; made = made_settled }

-- ---- rows of one kind

module _ {E : Type 0} {from : Source} {make : E → TypedRow} {part : TypedRow → List E} {cells : E → Row} {IsOne : E → Type 0}
    (k : IsKind from make part cells IsOne) where
  -- typed rows of the table are made of what is taken out of them
  pub all_made : (es : List TypedRow) → AllByRecursion (IsOf from) es → es ≡ map make (flat_map part es)
  all_made [] h = refl
  all_made (e ∷ es) h =
      let x = k.made e h.0.0 in
      let taken : part e ≡ x.0 ∷ [] = ap part x.1 ∙ k.taken x.0 in
      ap₂ ◌∷◌ x.1 (all_made es h.1) ∙ ap (λ (xs : List E). map make (xs ++ flat_map part es)) (sym taken)

  pub all_taken : (xs : List E) → flat_map part (map make xs) ≡ xs
  all_taken [] = refl
  all_taken (x ∷ xs) = ap₂ ◌++◌ (k.taken x) (all_taken xs)

  all_one : (xs : List E) → AllByRecursion (IsOf from) (map make xs) → AllByRecursion IsOne xs
  all_one [] h = tt
  all_one (x ∷ xs) h = (k.one x h.0.1, all_one xs h.1)

  pub one_by_one : (es : List TypedRow) → AllByRecursion (IsOf from) es → AllByRecursion IsOne (flat_map part es)
  one_by_one es h = all_one (flat_map part es) (subst (AllByRecursion (IsOf from)) (all_made es h) h)

  pub all_of_kind : (xs : List E) → AllByRecursion IsOne xs → AllByRecursion (IsOf from) (map make xs)
  all_of_kind [] h = tt
  all_of_kind (x ∷ xs) h = ((k.of x, k.typed x h.0), all_of_kind xs h.1)

  -- what is stored of them
  made_cells : (xs : List E) → map cells_of_row (map make xs) ≡ map cells xs
  made_cells [] = refl
  made_cells (x ∷ xs) = ap₂ ◌∷◌ (k.stored x) (made_cells xs)

  pub cells_have : (tree : List Row) (es : List TypedRow) → AllByRecursion (IsOf from) es → StoreRows tree es
      → HaveCells tree (map cells (flat_map part es))
  cells_have tree es h store =
      subst (HaveCells tree) (ap (map cells_of_row) (all_made es h) ∙ made_cells (flat_map part es)) (have_cells tree es store)

  pub have_rows : (tree : List Row) (xs : List E) → HaveCells tree (map cells xs) → StoreRows tree (map make xs)
  have_rows [] [] h = tt
  have_rows (r ∷ tree) (x ∷ xs) h =
      (record { id = h.0.0; is = h.0.1 ∙ ap (λ (c : Row). Int h.0.0 ∷ c) (sym (k.stored x)); may = k.may x h.0.0 }, have_rows tree xs h.1)
  have_rows tree xs h = absurd h

-- ---- rows whose keys differ, in another order

module _ {K V : Type 0} (R : K → K → Ordering) (o : IsTotalOrder R) (exact : IsAntisymmetric R) where
  -- keys that differ differ in the other order too, and the same is found
  abbrev AreApartToo : List (K × V) → List (K × V) → Type 0
  AreApartToo xs ys = AreDistinct R xs → AreDistinct R ys × ((q : K) → fmap.find R q xs ≡ fmap.find R q ys)

  apart_under : (x : K × V) (xs ys : List (K × V)) → AreApartToo xs ys → AreApartToo (x ∷ xs) (x ∷ ys)
  apart_under x xs ys h apart =
      let later = h apart.1 in
      ((sym (later.1 x.0) ∙ apart.0, later.0), λ q. ap (λ (v : Option V). cond (is_eq (R q x.0)) (Some x.1) v) (later.1 q))

  apart_turned : (x y : K × V) (xs : List (K × V)) → AreApartToo (x ∷ y ∷ xs) (y ∷ x ∷ xs)
  apart_turned x y xs apart =
      let other : eq_by_cmp R x.0 y.0 ≡ false = grind arith in
      let turned : eq_by_cmp R y.0 x.0 ≡ false = grind (arith, (eq_by_cmp_equiv o).symm y.0 x.0) in
      ((grind arith, (grind arith, apart.1.1)), λ q. same q other)
    where
      same : (q : K) → eq_by_cmp R x.0 y.0 ≡ false → fmap.find R q (x ∷ y ∷ xs) ≡ fmap.find R q (y ∷ x ∷ xs)
      same q other =
          elim (cases_Bool (eq_by_cmp R q x.0)) [
            | inl t ↦ (
                let no : eq_by_cmp R q y.0 ≡ false = ap (λ k. eq_by_cmp R k y.0) (exact q x.0 (is_equal _ t)) ∙ other in
                grind arith)
            | inr f ↦ grind arith
          ]

  pub apart_permuted : (xs ys : List (K × V)) → IsPermutation xs ys → AreApartToo xs ys
  apart_permuted = along_permutation AreApartToo (λ xs apart. (apart, λ q. refl)) apart_under apart_turned
      (λ xs ys zs a b apart. let mid = a apart in let last = b mid.0 in (last.0, λ q. mid.1 q ∙ last.1 q))

  -- they are those of the same map
  pub listed_permuted : (xs ys : List (K × V)) (m : FinMap R V) → IsPermutation xs ys → AreDistinct R xs → m ≡ fmap.from_entries xs
      → IsListed ys m
  listed_permuted xs ys m same apart is =
      let other = apart_permuted xs ys same apart in
      record {
        map = is ∙ fmap.same_map o exact _ _ (λ q. fmap.get-from_entries o xs q ∙ other.1 q ∙ sym (fmap.get-from_entries o ys q));
        apart = other.0;
      }
