-- What a database holds whose rows were all read, and what is read of a database that holds rows of a book.
use Rattle.std.proofs.Common.{◌≡◌, ℤ, true, List, [], ◌∷◌, map, drop, pos, refl, sym, ◌∙◌, ap, ap₂, subst}
use Rattle.std.specs.List.{AllByRecursion, flat_map}
use Rattle.std.specs.List.Sorted.{IsPermutation}
use Rattle.std.specs.declared.cmp.Ordering.TheVariants.{Less, Equal}
use Rattle.std.specs.FinMap as fmap
use Rattle.std.specs.FinMap.{FinMap}
use Rattle.std.specs.declared.cmp.Ordering.{Ordering}
use Rattle.std.proofs.lemmas.Cmp.{tied_itself}
use Rattle.std.proofs.lemmas.List.Sorted.{IsPermutation-map}
use Rattle.sqlite_value.specs.declared.value.Value.TheVariants.{Null, Int}
use Rattle.sqlite_value.specs.Order.{Row, value_cmp}
use Rattle.sqlite_value.proofs.OrderLemmas.{value_cmp_total}
use Rattle.sqlite_trees.specs.Tree.{rowid, IsTable}
use Rattle.sqlite_trees.proofs.ListLemmas.{all_both, all_weaker, IsPermutation-flat_map, map-map}
use Rattle.sqlite_schema.specs.declared.schema.Schema.{Schema}
use Rattle.sqlite_schema.specs.declared.schema.Constraint.TheVariants.{Unique}
use Rattle.sqlite_schema.specs.Rules.{are_typed, Keeps}
use Rattle.sqlite_rules.specs.Lists.{Has}
use Rattle.sqlite.specs.Effect.{Database, IsDatabase}
use Rattle.mx_book.specs.World.{Token}
use Rattle.mx_book.specs.Rows.{Rows}
use Rattle.mx_book.specs.declared.values.Caller.{Caller}
use Rattle.mx_book.specs.declared.values.Caller.TheVariants.{Operator}
use Rattle.mx_pay.specs.Tokens.{token_cmp, IsToken}
use Rattle.mx_cells.specs.Cells.{number, token_cells, result_cells, settled_cells}
use Rattle.mx_cells.specs.Entries.{IsTokenRow}
use Rattle.mx_tables.specs.Schema.{Contents, AreTokens, office_schema, rows_of}
use Rattle.mx_tables.specs.Schema as schema
use Rattle.mx_tables.specs.Holds.{HaveCells, Stores, HasContents, Holds, meta_rows}
use Rattle.mx_tables.specs.Made.{HasVersion}
use Rattle.mx_tables.proofs.MapLists.{AreDistinct}
use Rattle.mx_tables.proofs.Places.{Place, Kept, Belongs, IsKey, distinct, stored as stored_at}
use Rattle.mx_tables.proofs.KeptLemmas as kept
use Rattle.mx_audit.specs.Audited.{tree_of, IsScan}
use Rattle.mx_audit.specs.Fed.{Fed, AreLimited, Lists, IsListed, ListedTokens, CallersDiffer, marked}
use Rattle.mx_audit.specs.Raw.{AreInOrder, AreNumbered}
use Rattle.mx_audit.specs.Readings.{AreRead, fed_of, tokens_of, members_of, holders_of, purses_of, messages_of, lines_of, laid_of, archived_of, loads_of, redemptions_of, settled_of}
use Rattle.mx_audit.specs.Sound.{IsSound}
use Rattle.mx_audit.specs.Typed.{source_of, IsSource}
use Rattle.mx_audit.proofs.FedSoundLemmas.{limited_sound}
use Rattle.mx_audit.specs.declared.typed.Source.{Source}
use Rattle.mx_audit.specs.declared.typed.Source.TheVariants as source
use Rattle.mx_audit.specs.declared.typed.TypedRow.{TypedRow}
use Rattle.mx_audit.specs.declared.typed.TypedRow.TheVariants.{Version, Settled}
use Rattle.mx_audit.proofs.RawLemmas.{are_of_types}
use Rattle.mx_audit.proofs.TypedLemmas.{StoresRow, IsRaw, table_of}
use Rattle.mx_audit.proofs.StoredLemmas.{AreScanned, IsOf, StoreRows, AreStored, ScanReads, all_of_read, scan_stored, tokens_stored, scan_reads, tokens_read, read_once}
use Rattle.mx_audit.proofs.KindLemmas.{IsKind, token_kind, member_kind, holder_kind, purse_row_kind, message_kind, line_kind, laid_kind, archived_kind, load_kind, redemption_kind, settled_kind, one_by_one, cells_have, listed_permuted, all_taken, all_of_kind, have_rows, make_token, make_member, make_holder, make_purse, make_message, make_line, make_laid, make_archived, make_load, make_redemption}
use Rattle.mx_audit.proofs.CallerLemmas.{callers_differ}

-- ---- the row of the version

abbrev version_row : Row
version_row = Int (pos 1) ∷ Null ∷ number 2 ∷ []

only_version : (row : Row) (e : TypedRow) → source_of e ≡ source.Meta → StoresRow row e → row ≡ version_row
only_version row Version is it = it.is ∙ ap (λ (n : ℤ). Int n ∷ Null ∷ number 2 ∷ []) it.may
only_version row e is it = absurd (cc)

-- where the table has such rows alone, and one at least, it has one
one_version : (tree : List Row) (es : List TypedRow) → StoreRows tree es → AllByRecursion (IsOf source.Meta) es → IsTable tree
    → (tree ≡ [] → ⊥) → tree ≡ meta_rows
one_version [] es store of rise some = absurd (some refl)
one_version (r ∷ []) [] store of rise some = absurd store
one_version (r ∷ []) (e ∷ es) store of rise some = ap (λ (x : Row). x ∷ []) (only_version r e of.0.0 store.0)
one_version (r ∷ s ∷ tree) [] store of rise some = absurd store
one_version (r ∷ s ∷ tree) (e ∷ []) store of rise some = absurd store.1
one_version (r ∷ s ∷ tree) (e ∷ f ∷ es) store of rise some =
    let one = only_version r e of.0.0 store.0 in
    let two = only_version s f of.1.0.0 store.1.0 in
    let below : value_cmp (rowid version_row) (rowid version_row) ≡ Less =
    sym (ap₂ (λ (a b : Row). value_cmp (rowid a) (rowid b)) one two) ∙ rise.0.0 in
    let tied : value_cmp (rowid version_row) (rowid version_row) ≡ Equal = tied_itself value_cmp_total (Int (pos 1)) in
    absurd (cc)

some_version : (db : Database) → HasVersion 2 db → db.trees 0 ≡ [] → ⊥
some_version db version none = subst (λ (l : List Row). Has l version.0) none version.1

-- ---- what was read of each table is what it stores

module _ (db : Database) (has : db.schema ≡ office_schema) (sound : IsDatabase db) (order : AreInOrder db) where
  in_tables : AllByRecursion (λ t. AreNumbered (db.trees t.tree)) office_schema.tables
  in_tables = subst (λ (s : Schema). AllByRecursion (λ t. AreNumbered (db.trees t.tree)) s.tables) has order

  numbered : (from : Source) → AreNumbered (db.trees (tree_of from))
  numbered source.Meta = in_tables.0
  numbered source.Members = in_tables.1.0
  numbered source.Tokens = in_tables.1.1.0
  numbered source.Holders = in_tables.1.1.1.0
  numbered source.Purses = in_tables.1.1.1.1.0
  numbered source.Inbox = in_tables.1.1.1.1.1.0
  numbered source.Lines = in_tables.1.1.1.1.1.1.0
  numbered source.Tray = in_tables.1.1.1.1.1.1.1.0
  numbered source.Archive = in_tables.1.1.1.1.1.1.1.1.0
  numbered source.Loads = in_tables.1.1.1.1.1.1.1.1.1.0
  numbered source.Redemptions = in_tables.1.1.1.1.1.1.1.1.1.1.0
  numbered source.Settled = in_tables.1.1.1.1.1.1.1.1.1.1.1.0

  abbrev AllTyped : Schema → Type 0
  AllTyped s = AllByRecursion (λ t. AllByRecursion (λ r. are_typed t.key 0 t.columns (drop 1 r) ≡ true) (db.trees t.tree)) s.tables

  typed_tables : AllTyped office_schema
  typed_tables = subst AllTyped has (are_of_types db sound)

  abbrev AreTyped : Source → Type 0
  AreTyped from = AllByRecursion (λ r. are_typed (table_of from).key 0 (table_of from).columns (drop 1 r) ≡ true) (db.trees (tree_of from))

  typed : (from : Source) → AreTyped from
  typed source.Meta = typed_tables.0
  typed source.Members = typed_tables.1.0
  typed source.Tokens = typed_tables.1.1.0
  typed source.Holders = typed_tables.1.1.1.0
  typed source.Purses = typed_tables.1.1.1.1.0
  typed source.Inbox = typed_tables.1.1.1.1.1.0
  typed source.Lines = typed_tables.1.1.1.1.1.1.0
  typed source.Tray = typed_tables.1.1.1.1.1.1.1.0
  typed source.Archive = typed_tables.1.1.1.1.1.1.1.1.0
  typed source.Loads = typed_tables.1.1.1.1.1.1.1.1.1.0
  typed source.Redemptions = typed_tables.1.1.1.1.1.1.1.1.1.1.0
  typed source.Settled = typed_tables.1.1.1.1.1.1.1.1.1.1.1.0

  raws : (from : Source) → AllByRecursion (IsRaw from) (db.trees (tree_of from))
  raws from = all_both _ _ (IsRaw from) (λ r n t. record { numbered = n; typed = t }) (db.trees (tree_of from)) (numbered from).numbered (typed from)

  unique_rows : Keeps Unique office_schema db.trees
  unique_rows = subst (λ (s : Schema). Keeps Unique s db.trees) has (sound.obeys.rules Unique)

  module _ (read : Source → List TypedRow) (rows : Source → List Row) (scans : AreScanned db.trees rows read) where
    stored : (from : Source) → AreStored from db.trees (read from)
    stored from = scan_stored from db.trees (rows from) (read from) (raws from) (numbered from).rise (scans from).0 (scans from).1

    -- the rows of a table, in the order in which it stores them
    held : {E : Type 0} {from : Source} {make : E → TypedRow} {part : TypedRow → List E} {cells : E → Row} {IsOne : E → Type 0}
        → IsKind from make part cells IsOne
        → Stores (db.trees (tree_of from)) (map cells (flat_map part (stored from).rows))
    held {from = from} k =
        record {
          rise = (numbered from).rise;
          have = cells_have k (db.trees (tree_of from)) (stored from).rows (stored from).typed (stored from).store;
        }

    held_marked : {K : Type 0} (tree : List Row) (cells : K × Unit {0} → Row) (xs : List K) → Stores tree (map (λ k. cells (k, tt)) xs)
        → Stores tree (map cells (marked xs))
    held_marked tree cells xs = subst (Stores tree) (sym (map-map cells (λ k. (k, tt)) xs))

    held_tokens : Stores (db.trees 3) (map token_cells (fed_of read).tokens)
    held_tokens = record {
      rise = (numbered source.Tokens).rise;
      have =
          cells_have token_kind (db.trees 3) (read source.Tokens)
          (all_of_read source.Tokens (rows source.Tokens) (read source.Tokens) (scans source.Tokens).1)
          (tokens_stored db.trees (rows source.Tokens) (read source.Tokens) (raws source.Tokens) (numbered source.Tokens).rise
          (scans source.Tokens).0 (scans source.Tokens).1);
    }

    limited : {E : Type 0} {from : Source} {make : E → TypedRow} {part : TypedRow → List E} {cells : E → Row} {IsOne : E → Type 0}
        → IsKind from make part cells IsOne
        → AllByRecursion IsOne (flat_map part (read from))
    limited {from = from} k = one_by_one k (read from) (all_of_read from (rows from) (read from) (scans from).1)

    all_limited : AreLimited (fed_of read)
    all_limited = record {
      tokens = limited token_kind;
      members = limited member_kind;
      holders = limited holder_kind;
      purses = limited purse_row_kind;
      inbox = limited message_kind;
      lines = limited line_kind;
      tray = limited laid_kind;
      archive = limited archived_kind;
      loads = limited load_kind;
      redemptions = limited redemption_kind;
      settled = limited settled_kind;
    }

    module _ (version : HasVersion 2 db) (t : Token) (rest : List (Token × Caller)) (first : (fed_of read).tokens ≡ (t, Operator) ∷ rest) where
      contents : Contents
      contents = record {
        operator = t;
        tokens = rest;
        members = flat_map members_of (stored source.Members).rows;
        holders = flat_map holders_of (stored source.Holders).rows;
        purses = flat_map purses_of (stored source.Purses).rows;
        inbox = flat_map messages_of (stored source.Inbox).rows;
        lines = flat_map lines_of (stored source.Lines).rows;
        tray = marked (flat_map laid_of (stored source.Tray).rows);
        archive = marked (flat_map archived_of (stored source.Archive).rows);
        loads = flat_map loads_of (stored source.Loads).rows;
        redemptions = flat_map redemptions_of (stored source.Redemptions).rows;
        settled = marked (flat_map settled_of (stored source.Settled).rows);
      }

      meta_is : db.trees 0 ≡ meta_rows
      meta_is =
          let it = stored source.Meta in
          one_version (db.trees 0) it.rows it.store it.typed (numbered source.Meta).rise (some_version db version)

      tokens_held : Stores (db.trees 3) (map token_cells ((t, Operator) ∷ rest))
      tokens_held = subst (λ (es : List (Token × Caller)). Stores (db.trees 3) (map token_cells es)) first held_tokens

      are_tokens : AllByRecursion (λ (e : Token × Caller). IsToken e.0) ((t, Operator) ∷ rest)
      are_tokens =
          all_weaker _ _ (λ (e : Token × Caller) (h : IsTokenRow e). h.0) ((t, Operator) ∷ rest)
          (subst (AllByRecursion IsTokenRow) first all_limited.tokens)

      meta_stores : Stores (db.trees 0) ((Null ∷ number 2 ∷ []) ∷ [])
      meta_stores =
          subst (λ (l : List Row). Stores l ((Null ∷ number 2 ∷ []) ∷ [])) (sym meta_is)
          (record { rise = (tt, tt); have = ((pos 1, refl), tt) })

      has_contents : HasContents db contents
      unfolding contents
      has_contents = record {
        schema = has;
        meta = meta_is;
        tables = (
          meta_stores,
          (
            held member_kind,
            (
              tokens_held,
              (
                held holder_kind,
                (
                  held purse_row_kind,
                  (
                    held message_kind,
                    (
                      held line_kind,
                      (
                        held_marked (db.trees 14) result_cells _ (held laid_kind),
                        (
                          held_marked (db.trees 16) result_cells _ (held archived_kind),
                          (held load_kind, (held redemption_kind, (held_marked (db.trees 22) settled_cells _ (held settled_kind), tt))),
                        ),
                      ),
                    ),
                  ),
                ),
              ),
            ),
          ),
        );
        tokens = are_tokens;
        unique = unique_rows;
      }

      apart : {K V : Type 0} {R : K → K → Ordering} {p : Place R V} → Kept p → AreDistinct R (p.list.get contents)
      apart k = distinct k db contents has_contents

      lists : Lists (fed_of read) (rows_of contents)
      unfolding contents
      lists = record {
        tokens = record {
          rest = rest;
          first = first;
          map = refl;
          apart = subst (λ (es : List (Token × Caller)). AreDistinct token_cmp es) (sym first) (apart kept.token_rows);
          single = subst (λ (es : List (Token × Caller)). CallersDiffer es) (sym first)
              (callers_differ db.trees ((t, Operator) ∷ rest) unique_rows tokens_held);
        };
        members = listed kept.members.kept _ _ refl (others member_kind);
        holders = listed kept.holders.kept _ _ refl (others holder_kind);
        purses = listed kept.purses.kept _ _ refl (others purse_row_kind);
        inbox = listed kept.inbox.kept _ _ refl (others message_kind);
        lines = listed kept.lines.kept _ _ refl (others line_kind);
        tray = listed kept.tray.kept _ _ refl (IsPermutation-map _ _ _ (others laid_kind));
        archive = listed kept.archive.kept _ _ refl (IsPermutation-map _ _ _ (others archived_kind));
        loads = listed kept.loads.kept _ _ refl (others load_kind);
        redemptions = listed kept.redemptions.kept _ _ refl (others redemption_kind);
        settled = listed kept.settled.kept _ _ refl (IsPermutation-map _ _ _ (others settled_kind));
      }
        where
          others : {E : Type 0} {from : Source} {make : E → TypedRow} {part : TypedRow → List E} {cells : E → Row} {IsOne : E → Type 0}
              → IsKind from make part cells IsOne
              → IsPermutation (flat_map part (stored from).rows) (flat_map part (read from))
          others {from = from} {part = part} k = IsPermutation-flat_map part _ _ (stored from).same

          listed : {K V : Type 0} {R : K → K → Ordering} {p : Place R V} → Kept p → (ys : List (K × V)) (m : FinMap R V)
              → m ≡ fmap.from_entries (p.list.get contents)
              → IsPermutation (p.list.get contents) ys → IsListed ys m
          listed {R = R} {p = p} k ys m is same = listed_permuted R k.key.total k.key.exact (p.list.get contents) ys m same (apart k) is

-- A database of version 2 whose rows were all read as typed rows, the operator's token first, holds the rows of a book, which these are.
pub contents_of : (db : Database) (read : Source → List TypedRow) (rows : Source → List Row) → db.schema ≡ office_schema → IsDatabase db
    → AreInOrder db → HasVersion 2 db
    → AreScanned db.trees rows read
    → (t : Token) (rest : List (Token × Caller)) → (fed_of read).tokens ≡ (t, Operator) ∷ rest
    → (r : Rows) × Holds db r × Lists (fed_of read) r × AreLimited (fed_of read)
contents_of db read rows has sound order version scans t rest first =
    let c = contents db has sound order read rows scans version t rest first in (
      rows_of c,
      record { contents = c; has = has_contents db has sound order read rows scans version t rest first; rows = refl },
      lists db has sound order read rows scans version t rest first,
      all_limited db has sound order read rows scans,
    )

-- ---- what is read of a database that holds rows of a book

marked_again : {K : Type 0} (es : List (K × Unit {0})) → marked (map (λ (e : K × Unit {0}). e.0) es) ≡ es
marked_again [] = refl
marked_again (e ∷ es) = ap (λ l. e ∷ l) (marked_again es)

unmarked_cells : {K : Type 0} (cells : K × Unit {0} → Row) (es : List (K × Unit {0}))
    → map cells es ≡ map (λ k. cells (k, tt)) (map (λ (e : K × Unit {0}). e.0) es)
unmarked_cells cells [] = refl
unmarked_cells cells (e ∷ es) = ap (λ l. cells e ∷ l) (unmarked_cells cells es)

module _ (db : Database) (r : Rows) (holds : Holds db r) where
  abbrev held_contents : Contents
  held_contents = holds.contents

  abbrev held_fed : Fed
  held_fed = record {
    tokens = schema.tokens_of held_contents;
    members = held_contents.members;
    holders = held_contents.holders;
    purses = held_contents.purses;
    inbox = held_contents.inbox;
    lines = held_contents.lines;
    tray = map (λ e. e.0) held_contents.tray;
    archive = map (λ e. e.0) held_contents.archive;
    loads = held_contents.loads;
    redemptions = held_contents.redemptions;
    settled = map (λ e. e.0) held_contents.settled;
  }

  stored_in : {K V : Type 0} {R : K → K → Ordering} {p : Place R V} → Kept p
      → Stores (db.trees p.table.tree) (map p.cells (p.list.get held_contents))
  stored_in k = stored_at k db held_contents holds.has

  listed_in : {K V : Type 0} {R : K → K → Ordering} {p : Place R V} → Belongs p → IsListed (p.list.get held_contents) (p.map.get r)
  listed_in {p = p} b = record { map = sym (ap p.map.get holds.rows) ∙ b.is held_contents; apart = distinct b.kept db held_contents holds.has }

  listed_marks : {K : Type 0} {R : K → K → Ordering} (es : List (K × Unit {0})) (m : FinMap R (Unit {0})) → IsListed es m
      → IsListed (marked (map (λ (e : K × Unit {0}). e.0) es)) m
  listed_marks es m = subst (λ l. IsListed l m) (sym (marked_again es))

  lists_held : Lists held_fed r
  lists_held = record {
    tokens = record {
      rest = held_contents.tokens;
      first = ap (λ (x : Rows). (x.operator, Operator) ∷ held_contents.tokens) holds.rows;
      map = sym (ap (λ (x : Rows). x.tokens) holds.rows);
      apart = distinct kept.token_rows db held_contents holds.has;
      single = callers_differ db.trees (schema.tokens_of held_contents) holds.has.unique (stored_in kept.token_rows);
    };
    members = listed_in kept.members;
    holders = listed_in kept.holders;
    purses = listed_in kept.purses;
    inbox = listed_in kept.inbox;
    lines = listed_in kept.lines;
    tray = listed_marks _ _ (listed_in kept.tray);
    archive = listed_marks _ _ (listed_in kept.archive);
    loads = listed_in kept.loads;
    redemptions = listed_in kept.redemptions;
    settled = listed_marks _ _ (listed_in kept.settled);
  }

  abbrev held_rows : Source → List TypedRow
  held_rows source.Meta = Version ∷ []
  held_rows source.Members = map make_member held_fed.members
  held_rows source.Holders = map make_holder held_fed.holders
  held_rows source.Tokens = map make_token held_fed.tokens
  held_rows source.Purses = map make_purse held_fed.purses
  held_rows source.Inbox = map make_message held_fed.inbox
  held_rows source.Lines = map make_line held_fed.lines
  held_rows source.Tray = map make_laid held_fed.tray
  held_rows source.Archive = map make_archived held_fed.archive
  held_rows source.Loads = map make_load held_fed.loads
  held_rows source.Redemptions = map make_redemption held_fed.redemptions
  held_rows source.Settled = map Settled held_fed.settled

  -- a table stores them
  rises : (from : Source) → IsTable (db.trees (tree_of from))
  rises source.Meta = holds.has.tables.0.rise
  rises source.Members = (stored_in kept.members.kept).rise
  rises source.Holders = (stored_in kept.holders.kept).rise
  rises source.Tokens = (stored_in kept.token_rows).rise
  rises source.Purses = (stored_in kept.purses.kept).rise
  rises source.Inbox = (stored_in kept.inbox.kept).rise
  rises source.Lines = (stored_in kept.lines.kept).rise
  rises source.Tray = (stored_in kept.tray.kept).rise
  rises source.Archive = (stored_in kept.archive.kept).rise
  rises source.Loads = (stored_in kept.loads.kept).rise
  rises source.Redemptions = (stored_in kept.redemptions.kept).rise
  rises source.Settled = (stored_in kept.settled.kept).rise

  unmarked : {K : Type 0} (tree : List Row) (cells : K × Unit {0} → Row) (es : List (K × Unit {0})) → HaveCells tree (map cells es)
      → HaveCells tree (map (λ k. cells (k, tt)) (map (λ (e : K × Unit {0}). e.0) es))
  unmarked tree cells es = subst (HaveCells tree) (unmarked_cells cells es)

  stores_held : (from : Source) → StoreRows (db.trees (tree_of from)) (held_rows from)
  stores_held source.Meta =
      subst (λ (l : List Row). StoreRows l (Version ∷ [])) (sym holds.has.meta) (record { id = pos 1; is = refl; may = refl }, tt)
  stores_held source.Members = have_rows member_kind _ _ (stored_in kept.members.kept).have
  stores_held source.Holders = have_rows holder_kind _ _ (stored_in kept.holders.kept).have
  stores_held source.Tokens = have_rows token_kind (db.trees 3) held_fed.tokens (stored_in kept.token_rows).have
  stores_held source.Purses = have_rows purse_row_kind _ _ (stored_in kept.purses.kept).have
  stores_held source.Inbox = have_rows message_kind _ _ (stored_in kept.inbox.kept).have
  stores_held source.Lines = have_rows line_kind _ _ (stored_in kept.lines.kept).have
  stores_held source.Tray = have_rows laid_kind _ _ (unmarked (db.trees 14) result_cells held_contents.tray (stored_in kept.tray.kept).have)
  stores_held source.Archive =
      have_rows archived_kind _ _ (unmarked (db.trees 16) result_cells held_contents.archive (stored_in kept.archive.kept).have)
  stores_held source.Loads = have_rows load_kind _ _ (stored_in kept.loads.kept).have
  stores_held source.Redemptions = have_rows redemption_kind _ _ (stored_in kept.redemptions.kept).have
  stores_held source.Settled =
      have_rows settled_kind _ _ (unmarked (db.trees 22) settled_cells held_contents.settled (stored_in kept.settled.kept).have)

  module _ (whole : IsSound r) where
    within : AreLimited held_fed
    within = limited_sound held_fed r lists_held whole

    typed_held : (from : Source) → AllByRecursion (IsOf from) (held_rows from)
    typed_held source.Meta = ((refl, tt), tt)
    typed_held source.Members = all_of_kind member_kind _ within.members
    typed_held source.Holders = all_of_kind holder_kind _ within.holders
    typed_held source.Tokens = all_of_kind token_kind held_fed.tokens within.tokens
    typed_held source.Purses = all_of_kind purse_row_kind _ within.purses
    typed_held source.Inbox = all_of_kind message_kind _ within.inbox
    typed_held source.Lines = all_of_kind line_kind _ within.lines
    typed_held source.Tray = all_of_kind laid_kind _ within.tray
    typed_held source.Archive = all_of_kind archived_kind _ within.archive
    typed_held source.Loads = all_of_kind load_kind _ within.loads
    typed_held source.Redemptions = all_of_kind redemption_kind _ within.redemptions
    typed_held source.Settled = all_of_kind settled_kind _ within.settled

    scanned : (from : Source) (rows : List Row) → IsScan from db.trees rows → ScanReads from rows (held_rows from)
    scanned from rows scan = scan_reads from db.trees rows (held_rows from) (typed_held from) (stores_held from) (rises from) scan

    module _ (read : Source → List TypedRow) (rows : Source → List Row) (scans : AreScanned db.trees rows read) where
      same_read : (from : Source) → IsPermutation (held_rows from) (read from)
      same_read from =
          let it = scanned from (rows from) (scans from).0 in
          subst (IsPermutation (held_rows from)) (read_once from (rows from) it.es (read from) it.read (scans from).1) it.same

      same_part : {E : Type 0} {from : Source} {make : E → TypedRow} {part : TypedRow → List E} {cells : E → Row} {IsOne : E → Type 0}
          → IsKind from make part cells IsOne
          → (xs : List E) → held_rows from ≡ map make xs → IsPermutation xs (flat_map part (read from))
      same_part {from = from} {part = part} k xs is =
          subst (λ l. IsPermutation l (flat_map part (read from))) (ap (flat_map part) is ∙ all_taken k xs)
          (IsPermutation-flat_map part _ _ (same_read from))

      tokens_are : (fed_of read).tokens ≡ held_fed.tokens
      tokens_are =
          let from = source.Tokens in
          let own = tokens_read db.trees (rows from) (held_rows from) (typed_held from) (stores_held from) (rises from) (scans from).0 in
          ap (flat_map tokens_of) (read_once from (rows from) (read from) (held_rows from) (scans from).1 own) ∙ all_taken token_kind held_fed.tokens

      relisted : {K V : Type 0} {R : K → K → Ordering} → IsKey R → (xs ys : List (K × V)) (m : FinMap R V) → IsListed xs m
          → IsPermutation xs ys → IsListed ys m
      relisted {R = R} key xs ys m is same = listed_permuted R key.total key.exact xs ys m same is.apart is.map

      all_listed : Lists (fed_of read) r
      all_listed = record {
        tokens = subst (λ (es : List (Token × Caller)). ListedTokens es r) (sym tokens_are) lists_held.tokens;
        members = relisted kept.names_key _ _ _ lists_held.members (same_part member_kind _ refl);
        holders = relisted kept.names_key _ _ _ lists_held.holders (same_part holder_kind _ refl);
        purses = relisted kept.names_key _ _ _ lists_held.purses (same_part purse_row_kind _ refl);
        inbox = relisted kept.pairs_key _ _ _ lists_held.inbox (same_part message_kind _ refl);
        lines = relisted kept.pairs_key _ _ _ lists_held.lines (same_part line_kind _ refl);
        tray = relisted kept.results_key _ _ _ lists_held.tray (IsPermutation-map _ _ _ (same_part laid_kind _ refl));
        archive = relisted kept.results_key _ _ _ lists_held.archive (IsPermutation-map _ _ _ (same_part archived_kind _ refl));
        loads = relisted kept.references_key _ _ _ lists_held.loads (same_part load_kind _ refl);
        redemptions = relisted kept.references_key _ _ _ lists_held.redemptions (same_part redemption_kind _ refl);
        settled = relisted kept.details_key _ _ _ lists_held.settled (IsPermutation-map _ _ _ (same_part settled_kind _ refl));
      }

-- each row of a scan is a typed row
pub reads_of : (db : Database) (r : Rows) → Holds db r → IsSound r → (from : Source) (rows : List Row) → IsScan from db.trees rows
    → (es : List TypedRow) × AreRead from rows es × AllByRecursion (IsSource from) rows
reads_of db r holds whole from rows scan = let it = scanned db r holds whole from rows scan in (it.es, it.read, it.sources)

-- and however they are read, they are those of the book
pub lists_of : (db : Database) (r : Rows) → Holds db r → IsSound r → (read : Source → List TypedRow) (rows : Source → List Row)
    → AreScanned db.trees rows read → Lists (fed_of read) r
lists_of db r holds whole read rows scans = all_listed db r holds whole read rows scans
