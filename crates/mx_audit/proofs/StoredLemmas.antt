-- The rows of a table, as they are read and as they are stored.
use Rattle.std.proofs.Common.{◌≡◌, List, [], ◌∷◌, map, refl, sym, ap₂, subst}
use Rattle.std.specs.List.{AllByRecursion}
use Rattle.std.specs.List.Sorted.{IsPermutation}
use Rattle.std.proofs.lemmas.List.Sorted.{IsPermutation-refl, IsPermutation-sym, IsPermutation-cons, IsPermutation-middle, IsPermutation-trans}
use Rattle.sqlite_value.specs.Order.{Row}
use Rattle.sqlite_trees.specs.Tree.{Trees, IsTable}
use Rattle.sqlite_trees.proofs.ListLemmas.{along_permutation}
use Rattle.mx_tables.specs.Holds.{HaveCells}
use Rattle.mx_audit.specs.Audited.{tree_of, shown_of, IsScan}
use Rattle.mx_audit.specs.Readings.{AreRead}
use Rattle.mx_audit.specs.Typed.{source_of, IsTyped, IsShown, IsSource}
use Rattle.mx_audit.specs.declared.typed.Source.{Source}
use Rattle.mx_audit.specs.declared.typed.Source.TheVariants as source
use Rattle.mx_audit.specs.declared.typed.TypedRow.{TypedRow}
use Rattle.mx_audit.specs.declared.typed.TypedRow.TheVariants.{Version, Member, Holder, Token, Purse, Message, Line, Laid, Archived, Load, Redemption, Settled}
use Rattle.mx_audit.proofs.TypedLemmas.{cells_of_row, StoresRow, IsRaw, shows_stored, stored_shown, unique}

-- a typed row of a table
abbrev pub IsOf : Source → TypedRow → Type 0
IsOf from e = (source_of e ≡ from) × IsTyped e

-- each table was scanned, and read as these
abbrev pub AreScanned : Trees → (Source → List Row) → (Source → List TypedRow) → Type 0
AreScanned db rows read = (from : Source) → IsScan from db (rows from) × AreRead from (rows from) (read from)

-- these rows store these
abbrev pub StoreRows : List Row → List TypedRow → Type 0
StoreRows [] [] = Unit {0}
StoreRows [] (e ∷ es) = ⊥
StoreRows (r ∷ rs) [] = ⊥
StoreRows (r ∷ rs) (e ∷ es) = StoresRow r e × StoreRows rs es

pub have_cells : (tree : List Row) (es : List TypedRow) → StoreRows tree es → HaveCells tree (map cells_of_row es)
have_cells [] [] h = tt
have_cells (r ∷ tree) (e ∷ es) h = ((h.0.id, h.0.is), have_cells tree es h.1)
have_cells tree es h = absurd h

-- what rows are read as are typed rows of the table
pub all_of_read : (from : Source) (rows : List Row) (es : List TypedRow) → AreRead from rows es → AllByRecursion (IsOf from) es
all_of_read from [] [] h = tt
all_of_read from (r ∷ rows) (e ∷ es) h = ((h.0.1.source, h.0.0), all_of_read from rows es h.1)
all_of_read from rows es h = absurd h

-- ---- rows in another order are read in another order

abbrev AreReadToo : Source → List Row → List Row → Type 0
AreReadToo from xs ys = (es : List TypedRow) → AreRead from xs es → (fs : List TypedRow) × IsPermutation es fs × AreRead from ys fs

read_under : (from : Source) (x : Row) (xs ys : List Row) → AreReadToo from xs ys → AreReadToo from (x ∷ xs) (x ∷ ys)
read_under from x xs ys h [] read = absurd read
read_under from x xs ys h (e ∷ es) read = let later = h es read.1 in (e ∷ later.0, IsPermutation-cons e es later.0 later.1, (read.0, later.2))

read_turned : (from : Source) (x y : Row) (xs : List Row) → AreReadToo from (x ∷ y ∷ xs) (y ∷ x ∷ xs)
read_turned from x y xs [] read = absurd read
read_turned from x y xs (e ∷ []) read = absurd read.1
read_turned from x y xs (e ∷ f ∷ es) read = (f ∷ e ∷ es, IsPermutation-middle (e ∷ []) f es, (read.1.0, (read.0, read.1.1)))

pub read_permuted : (from : Source) (xs ys : List Row) → IsPermutation xs ys → AreReadToo from xs ys
read_permuted from = along_permutation (AreReadToo from) (λ xs es read. (es, IsPermutation-refl es, read)) (read_under from) (read_turned from)
    (λ xs ys zs p q es read. let mid = p es read in let last = q mid.0 mid.2 in (last.0, IsPermutation-trans _ _ _ mid.1 last.1, last.2))

-- ---- what is read is stored

pub read_stored : (from : Source) (tree : List Row) (es : List TypedRow) → AllByRecursion (IsRaw from) tree
    → AreRead from (map (shown_of from) tree) es → StoreRows tree es
read_stored from [] [] raw read = tt
read_stored from [] (e ∷ es) raw read = absurd read
read_stored from (r ∷ tree) [] raw read = absurd read
read_stored from (r ∷ tree) (e ∷ es) raw read = (stored_shown from r e raw.0 read.0.1, read_stored from tree es raw.1 read.1)

-- the rows of a table as it stores them, from those that were read of it
pub record AreStored (from : Source) (db : Trees) (es : List TypedRow) : Type 0 where
  pub rows : List TypedRow
  pub same : IsPermutation rows es
  pub store : StoreRows (db (tree_of from)) rows
  pub typed : AllByRecursion (IsOf from) rows

any_order : (from : Source) (db : Trees) (rows : List Row) (es : List TypedRow) → AllByRecursion (IsRaw from) (db (tree_of from))
    → IsPermutation (map (shown_of from) (db (tree_of from))) rows → AreRead from rows es → AreStored from db es
any_order from db rows es raw same read =
    let it = read_permuted from rows (map (shown_of from) (db (tree_of from))) (IsPermutation-sym _ _ same) es read in
    record {
      rows = it.0;
      same = IsPermutation-sym _ _ it.1;
      store = read_stored from (db (tree_of from)) it.0 raw it.2;
      typed = all_of_read from _ it.0 it.2;
    }

pub tokens_stored : (db : Trees) (rows : List Row) (es : List TypedRow) → AllByRecursion (IsRaw source.Tokens) (db (tree_of source.Tokens))
    → IsTable (db (tree_of source.Tokens)) → IsScan source.Tokens db rows → AreRead source.Tokens rows es
    → StoreRows (db (tree_of source.Tokens)) es
tokens_stored db rows es raw rise scan read =
    read_stored source.Tokens (db (tree_of source.Tokens)) es raw (subst (λ (l : List Row). AreRead source.Tokens l es) (scan rise) read)

pub scan_stored : (from : Source) (db : Trees) (rows : List Row) (es : List TypedRow) → AllByRecursion (IsRaw from) (db (tree_of from))
    → IsTable (db (tree_of from)) → IsScan from db rows → AreRead from rows es → AreStored from db es
scan_stored source.Tokens db rows es raw rise scan read =
    record {
      rows = es;
      same = IsPermutation-refl es;
      store = tokens_stored db rows es raw rise scan read;
      typed = all_of_read source.Tokens rows es read;
    }
scan_stored from db rows es raw rise scan read = any_order from db rows es raw scan read

-- ---- what is stored is read

pub stored_read : (from : Source) (tree : List Row) (es : List TypedRow) → AllByRecursion (IsOf from) es → StoreRows tree es
    → AreRead from (map (shown_of from) tree) es
stored_read from [] [] of store = tt
stored_read from [] (e ∷ es) of store = absurd store
stored_read from (r ∷ tree) [] of store = absurd store
stored_read from (r ∷ tree) (e ∷ es) of store = ((of.0.1, shows_stored from r e of.0.0 store.0), stored_read from tree es of.1 store.1)

source_typed : (e : TypedRow) (row : Row) → IsTyped e → IsShown (source_of e) row e → IsSource (source_of e) row
source_typed Version row typed shown = (tt, tt, shown.columns)
source_typed (Member name member) row typed shown = ((name, member), typed, shown.columns)
source_typed (Holder holder member) row typed shown = ((holder, member), typed, shown.columns)
source_typed (Token token caller) row typed shown = ((token, caller), typed, shown.columns)
source_typed (Purse name purse) row typed shown = ((name, purse), typed, shown.columns)
source_typed (Message purse number message) row typed shown = (((purse, number), message), typed, shown.columns)
source_typed (Line purse number line) row typed shown = (((purse, number), line), typed, shown.columns)
source_typed (Laid purse details) row typed shown = ((purse, details), typed, shown.columns)
source_typed (Archived purse details) row typed shown = ((purse, details), typed, shown.columns)
source_typed (Load purse reference amount) row typed shown = (((purse, reference), amount), typed, shown.columns)
source_typed (Redemption purse reference redemption) row typed shown = (((purse, reference), redemption), typed, shown.columns)
source_typed (Settled details) row typed shown = (details, typed, shown.columns)

pub is_source : (from : Source) (row : Row) (e : TypedRow) → IsTyped e → IsShown from row e → IsSource from row
is_source from row e typed shown =
    subst (λ (s : Source). IsSource s row) shown.source (source_typed e row typed (record { source = refl; columns = shown.columns }))

pub are_sources : (from : Source) (rows : List Row) (es : List TypedRow) → AreRead from rows es → AllByRecursion (IsSource from) rows
are_sources from [] [] read = tt
are_sources from (r ∷ rows) (e ∷ es) read = (is_source from r e read.0.0 read.0.1, are_sources from rows es read.1)
are_sources from rows es read = absurd read

-- the rows of a scan are read as what is stored, in the order of the scan
pub record ScanReads (from : Source) (rows : List Row) (stored : List TypedRow) : Type 0 where
  pub es : List TypedRow
  pub same : IsPermutation stored es
  pub read : AreRead from rows es
  pub sources : AllByRecursion (IsSource from) rows

reads_permuted : (from : Source) (db : Trees) (rows : List Row) (fs : List TypedRow) → AllByRecursion (IsOf from) fs
    → StoreRows (db (tree_of from)) fs → IsPermutation (map (shown_of from) (db (tree_of from))) rows → ScanReads from rows fs
reads_permuted from db rows fs of store same =
    let it = read_permuted from (map (shown_of from) (db (tree_of from))) rows same fs (stored_read from (db (tree_of from)) fs of store) in
    record { es = it.0; same = it.1; read = it.2; sources = are_sources from rows it.0 it.2 }

pub tokens_read : (db : Trees) (rows : List Row) (fs : List TypedRow) → AllByRecursion (IsOf source.Tokens) fs
    → StoreRows (db (tree_of source.Tokens)) fs → IsTable (db (tree_of source.Tokens)) → IsScan source.Tokens db rows
    → AreRead source.Tokens rows fs
tokens_read db rows fs of store rise scan =
    subst (λ (l : List Row). AreRead source.Tokens l fs) (sym (scan rise)) (stored_read source.Tokens (db (tree_of source.Tokens)) fs of store)

pub scan_reads : (from : Source) (db : Trees) (rows : List Row) (fs : List TypedRow) → AllByRecursion (IsOf from) fs
    → StoreRows (db (tree_of from)) fs → IsTable (db (tree_of from)) → IsScan from db rows → ScanReads from rows fs
scan_reads source.Tokens db rows fs of store rise scan =
    let read = tokens_read db rows fs of store rise scan in
    record { es = fs; same = IsPermutation-refl fs; read = read; sources = are_sources source.Tokens rows fs read }
scan_reads from db rows fs of store rise scan = reads_permuted from db rows fs of store scan

-- rows are read in one way
pub read_once : (from : Source) (rows : List Row) (es fs : List TypedRow) → AreRead from rows es → AreRead from rows fs → es ≡ fs
read_once from [] [] [] one two = refl
read_once from (r ∷ rows) (e ∷ es) (f ∷ fs) one two =
    ap₂ ◌∷◌ (unique from r e f one.0.0 two.0.0 one.0.1 two.0.1) (read_once from rows es fs one.1 two.1)
read_once from [] [] (f ∷ fs) one two = absurd two
read_once from [] (e ∷ es) fs one two = absurd one
read_once from (r ∷ rows) [] fs one two = absurd one
read_once from (r ∷ rows) (e ∷ es) [] one two = absurd two
