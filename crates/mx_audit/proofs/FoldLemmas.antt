-- The rows of all tables, gone over table by table.
use Rattle.std.proofs.Common.{◌≡◌, List, [], ◌∷◌, ◌++◌, refl, sym, ◌∙◌, ap, subst, Option, Some, Bool, true}
use Rattle.std.specs.List.{AllByRecursion, flat_map}
use Rattle.std.proofs.lemmas.List.{append-nil}
use Rattle.sqlite_value.specs.Order.{Row}
use Rattle.sqlite_trees.specs.Tree.{Trees}
use Rattle.mx_audit.specs.Audit.{IsBegun, fits_row, with_row, cleared_of}
use Rattle.mx_audit.specs.Audited.{GoesOver, IsScan, sources}
use Rattle.mx_audit.specs.Fed.{and_all, seen_members, seen_holders, seen_tokens, seen_purses, seen_inbox, seen_lines, seen_tray, seen_archive, seen_loads, seen_fed}
use Rattle.mx_audit.specs.Readings.{AreRead, fed_of, tokens_of, members_of, holders_of, purses_of, messages_of, lines_of, laid_of, archived_of, loads_of, redemptions_of}
use Rattle.mx_audit.specs.Seen.{Seen, nothing_seen, seen_all, is_whole, fits_member, with_member, fits_holder, with_holder, fits_token, with_token, fits_purse, with_purse, fits_message, with_message, fits_line, with_line, has_purse}
use Rattle.mx_audit.specs.Typed.{IsSource, source_of}
use Rattle.mx_audit.specs.declared.audit.Audit.{Audit}
use Rattle.mx_audit.specs.declared.typed.Source.{Source}
use Rattle.mx_audit.specs.declared.typed.Source.TheVariants.{Meta, Members, Holders, Tokens, Purses, Inbox, Lines, Tray, Archive, Loads, Redemptions, Settled}
use Rattle.mx_audit.specs.declared.typed.TypedRow.{TypedRow}
use Rattle.mx_audit.specs.declared.typed.TypedRow.TheVariants.{Version, Member, Holder, Token, Purse, Message, Line, Laid, Archived, Load, Redemption, Settled as row_settled}
use Rattle.mx_audit.proofs.FitLemmas.{chained}
use Rattle.mx_audit.proofs.ReadLemmas.{GoesAll, ReadsOnce, read_all, goes_fine}

-- ---- a row of a table, as one of that table's kind

-- it fits where that does, and adds what that adds
record IsAs {E : Type 0} (of : TypedRow → List E) (fits : Seen → E → Bool) (next : Seen → E → Seen) (e : TypedRow) : Type 0 where
  value : E
  only : of e ≡ value ∷ []
  same : (s : Seen) → fits_row s e ≡ fits s value
  then : (s : Seen) → with_row s e ≡ next s value

-- it always fits, and adds nothing
record IsIdle (e : TypedRow) : Type 0 where
  fits : (s : Seen) → fits_row s e ≡ true
  then : (s : Seen) → with_row s e ≡ s

is_member : (e : TypedRow) → source_of e ≡ Members → IsAs members_of fits_member with_member e
is_member (Member name member) is = record { value = (name, member); only = refl; same = λ s. refl; then = λ s. refl }
is_member e is = absurd (cc)

is_holder : (e : TypedRow) → source_of e ≡ Holders → IsAs holders_of fits_holder with_holder e
is_holder (Holder holder member) is = record { value = (holder, member); only = refl; same = λ s. refl; then = λ s. refl }
is_holder e is = absurd (cc)

is_token : (e : TypedRow) → source_of e ≡ Tokens → IsAs tokens_of fits_token with_token e
is_token (Token token caller) is = record { value = (token, caller); only = refl; same = λ s. refl; then = λ s. refl }
is_token e is = absurd (cc)

is_purse : (e : TypedRow) → source_of e ≡ Purses → IsAs purses_of fits_purse with_purse e
is_purse (Purse name purse) is = record { value = (name, purse); only = refl; same = λ s. refl; then = λ s. refl }
is_purse e is = absurd (cc)

is_message : (e : TypedRow) → source_of e ≡ Inbox → IsAs messages_of fits_message with_message e
is_message (Message purse number message) is = record { value = ((purse, number), message); only = refl; same = λ s. refl; then = λ s. refl }
is_message e is = absurd (cc)

is_line : (e : TypedRow) → source_of e ≡ Lines → IsAs lines_of fits_line with_line e
is_line (Line purse number line) is = record { value = ((purse, number), line); only = refl; same = λ s. refl; then = λ s. refl }
is_line e is = absurd (cc)

is_laid : (e : TypedRow) → source_of e ≡ Tray → IsAs laid_of (λ s d. has_purse s d.0) (λ s d. s) e
is_laid (Laid purse details) is = record { value = (purse, details); only = refl; same = λ s. refl; then = λ s. refl }
is_laid e is = absurd (cc)

is_archived : (e : TypedRow) → source_of e ≡ Archive → IsAs archived_of (λ s d. has_purse s d.0) (λ s d. s) e
is_archived (Archived purse details) is = record { value = (purse, details); only = refl; same = λ s. refl; then = λ s. refl }
is_archived e is = absurd (cc)

is_load : (e : TypedRow) → source_of e ≡ Loads → IsAs loads_of (λ s d. has_purse s d.0.0) (λ s d. s) e
is_load (Load purse reference amount) is = record { value = ((purse, reference), amount); only = refl; same = λ s. refl; then = λ s. refl }
is_load e is = absurd (cc)

is_redemption : (e : TypedRow) → source_of e ≡ Redemptions → IsAs redemptions_of (λ s d. has_purse s d.0.0) (λ s d. s) e
is_redemption (Redemption purse reference redemption) is = record { value = ((purse, reference), redemption); only = refl; same = λ s. refl; then = λ s. refl }
is_redemption e is = absurd (cc)

idle_version : (e : TypedRow) → source_of e ≡ Meta → IsIdle e
idle_version Version is = record { fits = λ s. refl; then = λ s. refl }
idle_version e is = absurd (cc)

is_settled : (e : TypedRow) → source_of e ≡ Settled → IsIdle e
is_settled (row_settled details) is = record { fits = λ s. refl; then = λ s. refl }
is_settled e is = absurd (cc)

-- ---- what is to be looked up comes from one table each

no_laid : (e : TypedRow) → (source_of e ≡ Tray → ⊥) → laid_of e ≡ []
no_laid (Laid purse details) not = absurd (not refl)
no_laid e not = refl

no_cleared : (e : TypedRow) → (source_of e ≡ Inbox → ⊥) → cleared_of e ≡ []
no_cleared (Message purse number message) not = absurd (not refl)
no_cleared e not = refl

none_of : {X : Type 0} (f : TypedRow → List X) (from at : Source) → ((e : TypedRow) → (source_of e ≡ at → ⊥) → f e ≡ []) → (from ≡ at → ⊥)
    → (rows : List Row) (es : List TypedRow) → AreRead from rows es → flat_map f es ≡ []
none_of f from at none other [] [] read = refl
none_of f from at none other [] (e ∷ es) read = absurd read
none_of f from at none other (row ∷ rows) [] read = absurd read
none_of f from at none other (row ∷ rows) (e ∷ es) read =
    let first = none e (λ is. other (sym read.0.1.source ∙ is)) in
    let rest = none_of f from at none other rows es read.1 in
    rw (first, rest) refl

-- ---- the rows of one table

-- rows that add nothing
all_idle : (from : Source) → ((e : TypedRow) → source_of e ≡ from → IsIdle e) → (rows : List Row) (es : List TypedRow) (s : Seen) → AreRead from rows es
    → seen_all fits_row with_row s es ≡ Some s
all_idle from idle [] [] s read = refl
all_idle from idle [] (e ∷ es) s read = absurd read
all_idle from idle (row ∷ rows) [] s read = absurd read
all_idle from idle (row ∷ rows) (e ∷ es) s read =
    let is = idle e read.0.1.source in
    let rest = all_idle from idle rows es s read.1 in
    rw (is.fits s, is.then s, rest) refl

module _ {E : Type 0} (from : Source) (of : TypedRow → List E) (fits : Seen → E → Bool) (next : Seen → E → Seen)
    (each : (e : TypedRow) → source_of e ≡ from → IsAs of fits next e) where
  -- what is seen of them is what is seen of those of that kind
  all_as : (rows : List Row) (es : List TypedRow) (s : Seen) → AreRead from rows es → seen_all fits_row with_row s es ≡ seen_all fits next s (flat_map of es)
  all_as [] [] s read = refl
  all_as [] (e ∷ es) s read = absurd read
  all_as (row ∷ rows) [] s read = absurd read
  all_as (row ∷ rows) (e ∷ es) s read =
      let is = each e read.0.1.source in
      let rest = all_as rows es (next s is.value) read.1 in
      rw (is.only, is.same s, is.then s, rest) refl

  -- after those of the tables before
  and_as : (rows : List Row) (es : List TypedRow) (o : Option Seen) (s t : Seen) → AreRead from rows es → o ≡ Some s → seen_all fits_row with_row s es ≡ Some t
      → and_all fits next (flat_map of es) o ≡ Some t
  and_as rows es o s t read before all = ap (and_all fits next (flat_map of es)) before ∙ sym (all_as rows es s read) ∙ all

-- ---- tables, one after another

-- this was done of each, from what was before it to what is after it
abbrev Chain : (Source → Audit → Audit → Type 0) → List Source → Audit → Audit → Type 0
Chain P [] old new = new ≡ old
Chain P (from ∷ more) old new = (mid : Audit) × P from old mid × Chain P more mid new

-- the same, table by table
record Tables (P : Source → Audit → Audit → Type 0) (old new : Audit) : Type 0 where
  after_meta : Audit
  meta : P Meta old after_meta
  after_members : Audit
  members : P Members after_meta after_members
  after_holders : Audit
  holders : P Holders after_members after_holders
  after_tokens : Audit
  tokens : P Tokens after_holders after_tokens
  after_purses : Audit
  purses : P Purses after_tokens after_purses
  after_inbox : Audit
  inbox : P Inbox after_purses after_inbox
  after_lines : Audit
  lines : P Lines after_inbox after_lines
  after_tray : Audit
  tray : P Tray after_lines after_tray
  after_archive : Audit
  archive : P Archive after_tray after_archive
  after_loads : Audit
  loads : P Loads after_archive after_loads
  after_redemptions : Audit
  redemptions : P Redemptions after_loads after_redemptions
  settled : P Settled after_redemptions new

tables_of : (P : Source → Audit → Audit → Type 0) (old new : Audit) → Chain P sources old new → Tables P old new
tables_of P old new all = record {
  after_meta = all.0;
  meta = all.1;
  after_members = all.2.0;
  members = all.2.1;
  after_holders = all.2.2.0;
  holders = all.2.2.1;
  after_tokens = all.2.2.2.0;
  tokens = all.2.2.2.1;
  after_purses = all.2.2.2.2.0;
  purses = all.2.2.2.2.1;
  after_inbox = all.2.2.2.2.2.0;
  inbox = all.2.2.2.2.2.1;
  after_lines = all.2.2.2.2.2.2.0;
  lines = all.2.2.2.2.2.2.1;
  after_tray = all.2.2.2.2.2.2.2.0;
  tray = all.2.2.2.2.2.2.2.1;
  after_archive = all.2.2.2.2.2.2.2.2.0;
  archive = all.2.2.2.2.2.2.2.2.1;
  after_loads = all.2.2.2.2.2.2.2.2.2.0;
  loads = all.2.2.2.2.2.2.2.2.2.1;
  after_redemptions = all.2.2.2.2.2.2.2.2.2.2.0;
  redemptions = all.2.2.2.2.2.2.2.2.2.2.1;
  settled = subst (λ (a : Audit). P Settled all.2.2.2.2.2.2.2.2.2.2.0 a) (sym all.2.2.2.2.2.2.2.2.2.2.2.2) all.2.2.2.2.2.2.2.2.2.2.2.1;
}

-- the rows of a table, and what they are read as
record Part (db : Trees) (from : Source) : Type 0 where
  rows : List Row
  es : List TypedRow
  scan : IsScan from db rows
  read : AreRead from rows es

-- those of each table
abbrev part_of : (db : Trees) (P : Source → Audit → Audit → Type 0) → ((from : Source) (old new : Audit) → P from old new → Part db from)
    → (old new : Audit) → Tables P old new
    → (from : Source) → Part db from
part_of db P part old new all Meta = part _ _ _ all.meta
part_of db P part old new all Members = part _ _ _ all.members
part_of db P part old new all Holders = part _ _ _ all.holders
part_of db P part old new all Tokens = part _ _ _ all.tokens
part_of db P part old new all Purses = part _ _ _ all.purses
part_of db P part old new all Inbox = part _ _ _ all.inbox
part_of db P part old new all Lines = part _ _ _ all.lines
part_of db P part old new all Tray = part _ _ _ all.tray
part_of db P part old new all Archive = part _ _ _ all.archive
part_of db P part old new all Loads = part _ _ _ all.loads
part_of db P part old new all Redemptions = part _ _ _ all.redemptions
part_of db P part old new all Settled = part _ _ _ all.settled

-- ---- where nothing was found in the end

-- a table all rows of which fit, and were taken in
record WasRead (db : Trees) (from : Source) (old new : Audit) : Type 0 where
  part : Part db from
  seen : seen_all fits_row with_row old.seen part.es ≡ Some new.seen
  laid : new.laid.items ≡ old.laid.items ++ flat_map laid_of part.es
  cleared : new.cleared.items ≡ old.cleared.items ++ flat_map cleared_of part.es

all_read : (db : Trees) (tables : List Source) (old new : Audit) → GoesOver db tables old new → new.found ≡ 0 → (old.found ≡ 0) × Chain (WasRead db) tables old new
all_read db [] old new over none = (ap (λ (a : Audit). a.found) (sym over) ∙ none, over)
all_read db (from ∷ more) old new over none =
    let rest = all_read db more over.0 new over.2 none in
    let one = read_all over.1.0 (record old { source = from }) over.0 over.1.2 rest.0 in (
      one.found,
      (
        over.0,
        record {
          part = record { rows = over.1.0; es = one.es; scan = over.1.1; read = one.read };
          seen = one.seen;
          laid = one.laid;
          cleared = one.cleared;
        },
        rest.1,
      ),
    )

-- most tables have nothing that is to be looked up
no_more : {X : Type 0} (old new more : List X) → new ≡ old ++ more → more ≡ [] → new ≡ old
no_more old new more is none = is ∙ ap (λ l. old ++ l) none ∙ append-nil old

lays_none : (db : Trees) (from : Source) (old new : Audit) → WasRead db from old new → (from ≡ Tray → ⊥) → new.laid.items ≡ old.laid.items
lays_none db from old new one other = no_more _ _ _ one.laid (none_of laid_of from Tray no_laid other one.part.rows one.part.es one.part.read)

clears_none : (db : Trees) (from : Source) (old new : Audit) → WasRead db from old new → (from ≡ Inbox → ⊥) → new.cleared.items ≡ old.cleared.items
clears_none db from old new one other = no_more _ _ _ one.cleared (none_of cleared_of from Inbox no_cleared other one.part.rows one.part.es one.part.read)

-- and some change nothing that was seen
sees_none : (db : Trees) (from : Source) (old new : Audit) → ((e : TypedRow) → source_of e ≡ from → IsIdle e) → WasRead db from old new → new.seen ≡ old.seen
sees_none db from old new idle one =
    let all = all_idle from idle one.part.rows one.part.es old.seen one.part.read in
    let seen = one.seen in cc

-- and the others what the rows of that kind change
sees_as : (db : Trees) {E : Type 0} (from : Source) (of : TypedRow → List E) (fits : Seen → E → Bool) (next : Seen → E → Seen)
    → ((e : TypedRow) → source_of e ≡ from → IsAs of fits next e) → (old new : Audit) (one : WasRead db from old new) (o : Option Seen)
    → o ≡ Some old.seen → and_all fits next (flat_map of one.part.es) o ≡ Some new.seen
sees_as db from of fits next each old new one o before = and_as from of fits next each one.part.rows one.part.es o old.seen new.seen one.part.read before one.seen

module _ (db : Trees) (begin final : Audit) (all : Tables (WasRead db) begin final) where
  abbrev read_part : (from : Source) → Part db from
  read_part = part_of db (WasRead db) (λ from old new one. one.part) begin final all

  abbrev read_of : Source → List TypedRow
  read_of from = (read_part from).es

  chain_laid : IsBegun begin → final.laid.items ≡ flat_map laid_of (read_of Tray)
  chain_laid begun =
      let meta = lays_none db Meta _ _ all.meta (λ is. cc) in
      let members = lays_none db Members _ _ all.members (λ is. cc) in
      let holders = lays_none db Holders _ _ all.holders (λ is. cc) in
      let tokens = lays_none db Tokens _ _ all.tokens (λ is. cc) in
      let purses = lays_none db Purses _ _ all.purses (λ is. cc) in
      let inbox = lays_none db Inbox _ _ all.inbox (λ is. cc) in
      let lines = lays_none db Lines _ _ all.lines (λ is. cc) in
      let archive = lays_none db Archive _ _ all.archive (λ is. cc) in
      let loads = lays_none db Loads _ _ all.loads (λ is. cc) in
      let redemptions = lays_none db Redemptions _ _ all.redemptions (λ is. cc) in
      let settled = lays_none db Settled _ _ all.settled (λ is. cc) in
      let before : all.after_lines.laid.items ≡ [] = let begin = begun.laid in cc in
      let after : all.after_tray.laid.items ≡ flat_map laid_of (read_of Tray) =
      all.tray.laid ∙ ap (λ l. l ++ flat_map laid_of (read_of Tray)) before in
      cc

  chain_cleared : IsBegun begin → final.cleared.items ≡ flat_map cleared_of (read_of Inbox)
  chain_cleared begun =
      let meta = clears_none db Meta _ _ all.meta (λ is. cc) in
      let members = clears_none db Members _ _ all.members (λ is. cc) in
      let holders = clears_none db Holders _ _ all.holders (λ is. cc) in
      let tokens = clears_none db Tokens _ _ all.tokens (λ is. cc) in
      let purses = clears_none db Purses _ _ all.purses (λ is. cc) in
      let lines = clears_none db Lines _ _ all.lines (λ is. cc) in
      let tray = clears_none db Tray _ _ all.tray (λ is. cc) in
      let archive = clears_none db Archive _ _ all.archive (λ is. cc) in
      let loads = clears_none db Loads _ _ all.loads (λ is. cc) in
      let redemptions = clears_none db Redemptions _ _ all.redemptions (λ is. cc) in
      let settled = clears_none db Settled _ _ all.settled (λ is. cc) in
      let before : all.after_purses.cleared.items ≡ [] = let begin = begun.cleared in cc in
      let after : all.after_inbox.cleared.items ≡ flat_map cleared_of (read_of Inbox) =
      all.inbox.cleared ∙ ap (λ l. l ++ flat_map cleared_of (read_of Inbox)) before in
      cc

  chain_seen : IsBegun begin → seen_fed (fed_of read_of) ≡ Some final.seen
  chain_seen begun =
      let meta = sees_none db Meta _ _ idle_version all.meta in
      let members : seen_members (fed_of read_of) ≡ Some all.after_members.seen =
      subst (λ (s : Seen). seen_all fits_member with_member s (flat_map members_of (read_of Members)) ≡ Some all.after_members.seen) (meta ∙ begun.seen)
      (sym (all_as Members members_of fits_member with_member is_member all.members.part.rows (read_of Members) all.after_meta.seen all.members.part.read) ∙ all.members.seen) in
      let holders : seen_holders (fed_of read_of) ≡ Some all.after_holders.seen =
      sees_as db Holders holders_of fits_holder with_holder is_holder _ _ all.holders _ members in
      let tokens : seen_tokens (fed_of read_of) ≡ Some all.after_tokens.seen =
      sees_as db Tokens tokens_of fits_token with_token is_token _ _ all.tokens _ holders in
      let purses : seen_purses (fed_of read_of) ≡ Some all.after_purses.seen =
      sees_as db Purses purses_of fits_purse with_purse is_purse _ _ all.purses _ tokens in
      let inbox : seen_inbox (fed_of read_of) ≡ Some all.after_inbox.seen =
      sees_as db Inbox messages_of fits_message with_message is_message _ _ all.inbox _ purses in
      let lines : seen_lines (fed_of read_of) ≡ Some all.after_lines.seen =
      sees_as db Lines lines_of fits_line with_line is_line _ _ all.lines _ inbox in
      let tray : seen_tray (fed_of read_of) ≡ Some all.after_tray.seen =
      sees_as db Tray laid_of (λ s d. has_purse s d.0) (λ s d. s) is_laid _ _ all.tray _ lines in
      let archive : seen_archive (fed_of read_of) ≡ Some all.after_archive.seen =
      sees_as db Archive archived_of (λ s d. has_purse s d.0) (λ s d. s) is_archived _ _ all.archive _ tray in
      let loads : seen_loads (fed_of read_of) ≡ Some all.after_loads.seen =
      sees_as db Loads loads_of (λ s d. has_purse s d.0.0) (λ s d. s) is_load _ _ all.loads _ archive in
      let redemptions : seen_fed (fed_of read_of) ≡ Some all.after_redemptions.seen =
      sees_as db Redemptions redemptions_of (λ s d. has_purse s d.0.0) (λ s d. s) is_redemption _ _ all.redemptions _ loads in
      let settled = sees_none db Settled _ _ is_settled all.settled in
      redemptions ∙ ap (λ (s : Seen). Some s) (sym settled)

-- where nothing was found, all rows were read, and those of all tables were seen to the end
pub over_read : (db : Trees) (begin final : Audit) → IsBegun begin → GoesOver db sources begin final → final.found ≡ 0
    → (read : Source → List TypedRow) × (rows : Source → List Row) × ((from : Source) → IsScan from db (rows from) × AreRead from (rows from) (read from))
    × (seen_fed (fed_of read) ≡ Some final.seen) × (final.laid.items ≡ (fed_of read).tray) × (final.cleared.items ≡ flat_map cleared_of (read Inbox))
over_read db begin final begun over none =
    let all = tables_of (WasRead db) begin final (all_read db sources begin final over none).1 in
    let part = read_part db begin final all in (
      λ from. (part from).es,
      λ from. (part from).rows,
      λ from. ((part from).scan, (part from).read),
      chain_seen db begin final all begun,
      chain_laid db begin final all begun,
      chain_cleared db begin final all begun,
    )

-- ---- where all rows are read, and fit

-- a table that was gone over, and what its rows are read as
record IsGiven (db : Trees) (from : Source) (old new : Audit) : Type 0 where
  part : Part db from
  are : AllByRecursion (IsSource from) part.rows
  over : GoesAll (record old { source = from }) part.rows new

-- each scan of a table gives rows of that table, which are read
abbrev pub AllRead : Trees → Type 0
AllRead db = (from : Source) (rows : List Row) → IsScan from db rows → (es : List TypedRow) × AreRead from rows es × AllByRecursion (IsSource from) rows

all_given : (db : Trees) → AllRead db → (tables : List Source) (old new : Audit) → GoesOver db tables old new → Chain (IsGiven db) tables old new
all_given db all [] old new over = over
all_given db all (from ∷ more) old new over =
    let rows = over.1.0 in
    let given = all from rows over.1.1 in (
      over.0,
      record {
        part = record { rows = rows; es = given.0; scan = over.1.1; read = given.1 };
        are = given.2;
        over = over.1.2;
      },
      all_given db all more over.0 new over.2,
    )

-- nothing was found up to here, and this was seen
abbrev IsAt : Audit → Seen → Type 0
IsAt a s = (a.found ≡ 0) × (a.seen ≡ s)

module _ (db : Trees) (from : Source) (old new : Audit) (once : ReadsOnce from) (one : IsGiven db from old new) where
  -- rows that fit
  goes_at : (s t : Seen) → seen_all fits_row with_row s one.part.es ≡ Some t → IsAt old s → IsAt new t
  goes_at s t fit at =
      goes_fine one.part.rows one.part.es (record old { source = from }) new t one.over one.part.read one.are once
      (subst (λ (o : Seen). seen_all fits_row with_row o one.part.es ≡ Some t) (sym at.1) fit) at.0

  idle_at : ((e : TypedRow) → source_of e ≡ from → IsIdle e) → (s : Seen) → IsAt old s → IsAt new s
  idle_at idle s at = goes_at s s (all_idle from idle one.part.rows one.part.es s one.part.read) at

  row_at : {E : Type 0} (of : TypedRow → List E) (fits : Seen → E → Bool) (next : Seen → E → Seen) → ((e : TypedRow) → source_of e ≡ from → IsAs of fits next e)
      → (s t : Seen) → seen_all fits next s (flat_map of one.part.es) ≡ Some t → IsAt old s → IsAt new t
  row_at of fits next each s t fit at = goes_at s t (all_as from of fits next each one.part.rows one.part.es s one.part.read ∙ fit) at

module _ (db : Trees) (begin final : Audit) (all : Tables (IsGiven db) begin final) where
  abbrev given_part : (from : Source) → Part db from
  given_part = part_of db (IsGiven db) (λ from old new one. one.part) begin final all

  abbrev given_of : Source → List TypedRow
  given_of from = (given_part from).es

  all_at : ((from : Source) → ReadsOnce from) → (s : Seen) → seen_fed (fed_of given_of) ≡ Some s → IsAt begin nothing_seen → IsAt final s
  all_at once s seen at =
      let redemptions = chained _ (seen_loads (fed_of given_of)) s seen in
      let loads = chained _ (seen_archive (fed_of given_of)) _ redemptions.1 in
      let archive = chained _ (seen_tray (fed_of given_of)) _ loads.1 in
      let tray = chained _ (seen_lines (fed_of given_of)) _ archive.1 in
      let lines = chained _ (seen_inbox (fed_of given_of)) _ tray.1 in
      let inbox = chained _ (seen_purses (fed_of given_of)) _ lines.1 in
      let purses = chained _ (seen_tokens (fed_of given_of)) _ inbox.1 in
      let tokens = chained _ (seen_holders (fed_of given_of)) _ purses.1 in
      let holders = chained _ (seen_members (fed_of given_of)) _ tokens.1 in
      let after_meta = idle_at db Meta _ _ (once Meta) all.meta idle_version _ at in
      let after_members = row_at db Members _ _ (once Members) all.members members_of fits_member with_member is_member _ _ holders.1 after_meta in
      let after_holders = row_at db Holders _ _ (once Holders) all.holders holders_of fits_holder with_holder is_holder _ _ holders.2 after_members in
      let after_tokens = row_at db Tokens _ _ (once Tokens) all.tokens tokens_of fits_token with_token is_token _ _ tokens.2 after_holders in
      let after_purses = row_at db Purses _ _ (once Purses) all.purses purses_of fits_purse with_purse is_purse _ _ purses.2 after_tokens in
      let after_inbox = row_at db Inbox _ _ (once Inbox) all.inbox messages_of fits_message with_message is_message _ _ inbox.2 after_purses in
      let after_lines = row_at db Lines _ _ (once Lines) all.lines lines_of fits_line with_line is_line _ _ lines.2 after_inbox in
      let after_tray =
      row_at db Tray _ _ (once Tray) all.tray laid_of (λ s d. has_purse s d.0) (λ s d. s) is_laid _ _ tray.2 after_lines in
      let after_archive =
      row_at db Archive _ _ (once Archive) all.archive archived_of (λ s d. has_purse s d.0) (λ s d. s) is_archived _ _ archive.2 after_tray in
      let after_loads = row_at db Loads _ _ (once Loads) all.loads loads_of (λ s d. has_purse s d.0.0) (λ s d. s) is_load _ _ loads.2 after_archive in
      let after_redemptions =
      row_at db Redemptions _ _ (once Redemptions) all.redemptions redemptions_of (λ s d. has_purse s d.0.0) (λ s d. s) is_redemption _ _ redemptions.2 after_loads in
      idle_at db Settled _ _ (once Settled) all.settled is_settled _ after_redemptions

-- where all rows are read, in one way, and fit in every reading, nothing is found, and what was seen is whole
pub over_fine : (db : Trees) (begin final : Audit) → IsBegun begin → GoesOver db sources begin final → AllRead db → ((from : Source) → ReadsOnce from)
    → ((read : Source → List TypedRow) → ((from : Source) → (rows : List Row) × IsScan from db rows × AreRead from rows (read from))
    → (s : Seen) × (seen_fed (fed_of read) ≡ Some s) × (is_whole s ≡ true))
    → (final.found ≡ 0) × (is_whole final.seen ≡ true)
over_fine db begin final begun over read once fits =
    let all = tables_of (IsGiven db) begin final (all_given db read sources begin final over) in
    let part = given_part db begin final all in
    let end = fits (λ from. (part from).es) (λ from. ((part from).rows, (part from).scan, (part from).read)) in
    let at = all_at db begin final all once end.0 end.1 (begun.found, begun.seen) in
    (at.0, subst (λ (s : Seen). is_whole s ≡ true) (sym at.1) end.2)
