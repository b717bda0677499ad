-- Sums over the rows that were read, and over the rows of a book; and those of the value between purses.
use Rattle.mx_tables.proofs.Common.{◌≡◌, ℕ, ℤ, pos, ◌+◌, ◌<◌, Bool, true, false, List, [], ◌∷◌, codes, filter, take, length, refl, ◌∙◌, arith, Some, Option, None, ◌≤◌, Ordering, nat_cmp, eq_by_cmp, Int, Text, Binary, Row, column, Term, col, Name, Rows, PurseRow, number, Holds, name_cmp, is_name}
use Rattle.std.proofs.Common.{not, if◌then◌else◌, map, get_or, sym, ap, ap₂}
use Rattle.std.specs.Prelude.{sum_by, IfSome}
use Rattle.std.specs.FinMap as fmap
use Rattle.std.proofs.lemmas.List.Sums.{sum_by-cons, sum_by_more}
use Rattle.std.proofs.lemmas.List.Sorted.{sum_by-IsPermutation}
use Rattle.sqlite_tied.specs.Compute.{everything}
use Rattle.sqlite_sql.specs.declared.ops.BinaryOp.TheVariants.{Compare}
use Rattle.sqlite_sql.specs.declared.ops.CompareOp.TheVariants.{Eq}
use Rattle.sqlite_sql.specs.Term.{lit, op2, eval_all}
use Rattle.sqlite.specs.Listing.{understood}
use Rattle.sqlite.specs.State.{State, Shown}
use Rattle.mx_book.specs.World.{is_of}
use Rattle.mx_book.specs.Sums.{sum_entries, sum_values}
use Rattle.mx_book.specs.RowReads.{is_counted}
use Rattle.mx_book.specs.declared.values.MemberRow.{MemberRow}
use Rattle.mx_book.proofs.NameLemmas.{names_total, same_name}
use Rattle.mx_book.specs.declared.values.Scope.{Scope}
use Rattle.mx_tables.specs.Counted.{most_of, number_of, owed_shown, counted_row, amounts_text, amounts_of, text_of, row_sums, sum_at, sums_at, member_listed, totals_with, totals_row, if_some, status_shown, waiting_shown, log_shown, result_shown, left_value, waiting_at, waiting_row, log_row, result_row, adds_text, row_adds, sum_of}
use Rattle.mx_tables.specs.declared.sums.Amounts.{Amounts}
use Rattle.mx_tables.specs.declared.sums.Amounts.TheVariants.{Uncollected, Issued, Redeemed, Balances}
use Rattle.mx_tables.specs.Answers.{ArePurses}
use Rattle.mx_cells.specs.Cells.{member_shown}
use Rattle.mx_tables.specs.States.{IsQuery}
use Rattle.mx_tables.proofs.MemberLemmas.{filter_everything}
use Rattle.mx_tables.proofs.Statements.{env, passes}
use Rattle.mx_tables.proofs.StoredLemmas.{and_true, same_numbers}
use Rattle.mx_tables.proofs.Texts.{IsSelect}
use Rattle.mx_tables.proofs.ReadLemmas.{answers, answers_in_order}
use Rattle.mx_tables.proofs.KeptLemmas.{members}
use Rattle.mx_tables.proofs.Places.{Place, Belongs}
use Rattle.mx_tables.proofs.KeptLemmas as kept
use Rattle.sqlite_value.specs.Keys.{ascending}
use Rattle.sqlite_value.proofs.OrderLemmas.{value_cmp-Text, then-Equal}
use Rattle.sqlite_trees.proofs.ListLemmas.{map-map}
use Rattle.mx_book.specs.RowEdits.{member_at, log_at}
use Rattle.mx_book.specs.RowTotals.{row_members_totals_of, awaited, lost_by, lost_in_log, lost_in_archive}
use Rattle.mx_book.specs.declared.values.Scope.TheVariants.{Member}
use Rattle.mx_tables.specs.declared.member_sums.MemberSums.{MemberSums}
use Rattle.std.proofs.lemmas.List.{take_all}
use Rattle.std.proofs.lemmas.Option.{IfSome_then}
use Rattle.mx_pay.specs.Limits.{most_entries, most_number}
use Rattle.mx_pay.specs.Details.{Details, IsDetails}
use Rattle.mx_pay.specs.Log.{Entries, IsLogValue, none_logged, has_logged}
use Rattle.mx_pay.specs.Codes.{code, entry_text}
use Rattle.mx_pay.specs.Reading.{entry_of, entries_of}
use Rattle.mx_pay.proofs.EntryLemmas.{entry_again}
use Rattle.mx_pay.proofs.SameLemmas.{has-none_logged}
use Rattle.mx_pay.proofs.CodeLemmas.{found_in, only_in, none_only, none_is}
use Rattle.mx_purse.specs.State.{details_of}
use Rattle.mx_purse.specs.declared.status.Status.{Status}
use Rattle.mx_purse.specs.declared.status.Status.TheVariants.{Epv}
use Rattle.mx_book.proofs.MapLemmas.{AllEntries, all_entries}
use Rattle.mx_purse.specs.Words.{status_word, status_details}
use Rattle.mx_tables.specs.Results.{AreEntries}
use Rattle.mx_tables.specs.declared.sums.Adds.{Adds}
use Rattle.mx_tables.specs.declared.sums.Adds.TheVariants.{Counted, Waiting, Logged, Archived}

-- one more row
pub sum_more : {X : Type 0} (f : X → ℕ) (rows : List X) (at : ℕ) (row : X) (so_far more next : ℕ) → at < length rows → row ≡ get_or rows at row → so_far ≡ sum_by f (take at rows) → more ≡ f row → next ≡ so_far + more
    → next ≡ sum_by f (take (at + 1) rows)
sum_more f rows at row so_far more next within is before its sum =
    sum ∙ ap₂ (λ a b. a + b) before (its ∙ ap f is) ∙ sym (sum_by_more f rows at row within)

-- sums over rows that pass are those over all, where what doesn't pass adds nothing
sum_shown : {K V : Type 0} (p : K × V → Bool) (show : K × V → Row) (f : Row → ℕ) (g : K × V → ℕ) (es : List (K × V))
    → AllEntries (λ k x. (if p (k, x) then f (show (k, x)) else 0) ≡ g (k, x)) es → sum_by f (map show (filter p es)) ≡ sum_by g es
sum_shown p show f g [] h = refl
sum_shown p show f g (e ∷ es) h = grind (arith, h.0, sum_shown p show f g es h.1, sum_by-cons f (show e) (map show (filter p es)), sum_by-cons g e es)

-- what the rows of a query come to is what the rows of the table come to
pub summed : {K V : Type 0} {R : K → K → Ordering} {t : Place R V} (table : Belongs t) (f : Row → ℕ)
    → (sql : List ℕ) (terms project : List Term) (names : List (List ℕ)) → IsSelect sql t.table.tree terms project [] names
    → (p : K × V → Bool) (show : K × V → Row) (g : K × V → ℕ)
    → ((id : ℤ) (e : K × V) → passes terms [] (Int id ∷ t.cells e) ≡ p e) → ((id : ℤ) (e : K × V) → eval_all project (env [] (Int id ∷ t.cells e)) ≡ show e)
    → (old new : State) (rows : List Row) → Shown sql [] old new rows → (r : Rows) → Holds old.now r
    → ((k : K) (x : V) → fmap.get (t.map.get r) k ≡ Some x → (if p (k, x) then f (show (k, x)) else 0) ≡ g (k, x)) → sum_by f rows ≡ sum_by g (fmap.entries (t.map.get r))
summed {t = t} table f sql terms project names text p show g tests shows old new rows shown r h each =
    let es = fmap.entries (t.map.get r) in
    sum_by-IsPermutation f (map show (filter p es)) rows (answers table sql terms project names text [] p show tests shows old new rows shown r h)
    ∙ sum_shown p show f g es (all_entries table.kept.key.total _ (t.map.get r) each)

-- ---- amounts

-- the redemption isn't collected
abbrev pub is_uncollected : Term
is_uncollected = op2 (Compare Eq Binary) (col 1 4) (lit (Int (pos 0)))

-- the tree of a query of amounts, its tests, and the names of its columns
abbrev amounts_asked : Amounts → ℕ × List Term × List (List ℕ)
amounts_asked Uncollected = (20, is_uncollected ∷ [], codes "purse" ∷ codes "amount" ∷ [])
amounts_asked Issued = (18, [], codes "purse" ∷ codes "amount" ∷ [])
amounts_asked Redeemed = (20, [], codes "purse" ∷ codes "amount" ∷ [])
amounts_asked Balances = (8, [], codes "name" ∷ codes "balance" ∷ [])

pub amounts_are : (a : Amounts) → IsSelect (amounts_text a) (amounts_asked a).0 (amounts_asked a).1 (col 1 1 ∷ col 1 3 ∷ []) [] (amounts_asked a).2
unfolding understood everything
amounts_are Uncollected = record { is = refl; query = record { plain = (refl, refl); silent = λ _ _. refl }; unlisted = refl }
amounts_are a = record { is = refl; query = record { plain = (refl, refl); silent = λ _ _. refl }; unlisted = refl }

pub amounts_query : (a : Amounts) → IsQuery (amounts_text a)
amounts_query a = (amounts_are a).query

pub uncollected_flag : (b : Bool) → eq_by_cmp nat_cmp (if b then 1 else 0) 0 ≡ not b
uncollected_flag b = grind arith

owed_once : (collected counts : Bool) (n : ℕ) → ◌≡◌ {A = ℕ} (if not collected then (if counts then n else 0) else 0) (if counts then (if collected then 0 else n) else 0)
owed_once collected counts n = grind arith

module _ (r : Rows) (scope : Scope) where
  abbrev counted : Row → ℕ
  counted = counted_row r.purses r.holders scope

  pub amounts_summed : (a : Amounts) (old new : State) (rows : List Row) → Shown (amounts_text a) [] old new rows → Holds old.now r → sum_by counted rows ≡ amounts_of r scope a
  unfolding sum_entries sum_values
  amounts_summed Uncollected old new rows shown h =
      summed kept.redemptions counted _ _ _ _ (amounts_are Uncollected) (λ e. not e.1.collected) (λ e. owed_shown e.0.0 e.1.amount) _
      (λ id e. and_true _ ∙ same_numbers (if e.1.collected then 1 else 0) 0 ∙ uncollected_flag e.1.collected) (λ id e. refl) old new rows shown r h
      (λ k x at. owed_once x.collected (is_counted r.holders scope (fmap.get r.purses k.0)) x.amount)
  amounts_summed Issued old new rows shown h =
      summed kept.loads counted _ _ _ _ (amounts_are Issued) (λ _. true) (λ e. owed_shown e.0.0 e.1) _
      (λ id e. refl) (λ id e. refl) old new rows shown r h (λ k x at. refl)
  amounts_summed Redeemed old new rows shown h =
      summed kept.redemptions counted _ _ _ _ (amounts_are Redeemed) (λ _. true) (λ e. owed_shown e.0.0 e.1.amount) _
      (λ id e. refl) (λ id e. refl) old new rows shown r h (λ k x at. refl)
  amounts_summed Balances old new rows shown h =
      summed kept.purses counted _ _ _ _ (amounts_are Balances) (λ _. true) (λ e. owed_shown e.0 e.1.purse.balance) _
      (λ id e. refl) (λ id e. refl) old new rows shown r h
      (λ k x at. ap (λ (o : Option PurseRow). if is_counted r.holders scope o then x.purse.balance else 0) at)

-- ---- grants and floats

abbrev pub select_grants : List ℕ
select_grants = codes "SELECT granted, unspent FROM member"

pub select_grants_is : IsSelect select_grants 1 [] (col 1 2 ∷ col 1 3 ∷ []) [] (codes "granted" ∷ codes "unspent" ∷ [])
unfolding understood everything
select_grants_is = record { is = refl; query = record { plain = (refl, refl); silent = λ _ _. refl }; unlisted = refl }

module _ (old new : State) (rows : List Row) (shown : Shown select_grants [] old new rows) (r : Rows) (h : Holds old.now r) where
  pub granted_summed : sum_by (λ row. number_of (column row 0)) rows ≡ sum_values (λ (m : MemberRow). m.granted) r.members
  unfolding sum_values
  granted_summed =
      summed kept.members (λ row. number_of (column row 0)) _ _ _ _ select_grants_is (λ _. true) (λ e. member_shown e.1) _
      (λ id e. refl) (λ id e. refl) old new rows shown r h (λ k x at. refl)

  pub float_summed : sum_by (λ row. number_of (column row 1)) rows ≡ sum_values (λ (m : MemberRow). m.float) r.members
  unfolding sum_values
  float_summed =
      summed kept.members (λ row. number_of (column row 1)) _ _ _ _ select_grants_is (λ _. true) (λ e. member_shown e.1) _
      (λ id e. refl) (λ id e. refl) old new rows shown r h (λ k x at. refl)

-- ---- one row

-- a number that is added to the sum of one member
sum_added : (sums : fmap.FinMap name_cmp ℕ) (owner m : Name) (more : ℕ) → sum_at (fmap.insert sums owner (sum_at sums owner + more)) m ≡ sum_at sums m + (if is_name m owner then more else 0)
sum_added sums owner m more = grind (arith, fmap.get-insert names_total sums owner (sum_at sums owner + more) m, same_name m owner)

pub most_added : (sums : fmap.FinMap name_cmp ℕ) (owner m : Name) (more most : ℕ) → sum_at sums m ≤ most → sum_at (fmap.insert sums owner (sum_at sums owner + more)) m ≤ most + more
most_added sums owner m more most h = grind (arith, h, sum_added sums owner m more)

-- no amount is above 10^15
pub most_low : (a : Amounts) → most_of a ≤ most_number
most_low Balances = omega arith
most_low a = omega arith

-- what a row adds to the sum of a member
counted_adds : (r : Rows) (row : Row) (purse m : Name) (n : ℕ) (owner : Option Name) → column row 0 ≡ Text purse → column row 1 ≡ number n → owner ≡ member_at r.holders (fmap.get r.purses purse)
    → counted_row r.purses r.holders (Member m) row ≡ (if is_of m owner then n else 0)
counted_adds r row purse m n owner at is found =
    ap₂ (λ (o : Option Name) (k : ℕ). if is_of m o then k else 0) (ap (λ t. member_at r.holders (fmap.get r.purses (text_of t))) at ∙ sym found) (ap number_of is)

pub adds_to_one : (r : Rows) (row : Row) (purse owner m : Name) (n : ℕ) (old new : fmap.FinMap name_cmp ℕ) → column row 0 ≡ Text purse → column row 1 ≡ number n → Some owner ≡ member_at r.holders (fmap.get r.purses purse)
    → new ≡ fmap.insert old owner (sum_at old owner + n) → sum_at new m ≡ sum_at old m + counted_row r.purses r.holders (Member m) row
adds_to_one r row purse owner m n old new at is found put =
    ap (λ sums. sum_at sums m) put ∙ sum_added old owner m n ∙ ap (λ k. sum_at old m + k) (sym (counted_adds r row purse m n (Some owner) at is found))

-- no sum is kept at first
pub sum_at_first : (m : Name) → sum_at fmap.empty m ≡ 0
sum_at_first m = grind (arith, fmap.gets)

-- ---- the rows of members

abbrev pub select_member_rows : List ℕ
select_member_rows = codes "SELECT name, granted, unspent FROM member ORDER BY name"

pub select_member_rows_is : IsSelect select_member_rows 1 [] (col 1 1 ∷ col 1 2 ∷ col 1 3 ∷ []) ((col 1 1, ascending Binary) ∷ []) (codes "name" ∷ codes "granted" ∷ codes "unspent" ∷ [])
unfolding understood everything
select_member_rows_is = record { is = refl; query = record { plain = (refl, refl); silent = λ _ _. refl }; unlisted = refl }

pub lists_member_rows : (old new : State) (rows : List Row) → Shown select_member_rows [] old new rows → (r : Rows) → Holds old.now r → rows ≡ map member_listed (fmap.entries r.members)
lists_member_rows old new rows shown r h =
    answers_in_order members [] (col 1 1 ∷ col 1 2 ∷ col 1 3 ∷ []) ((col 1 1, ascending Binary) ∷ []) [] (λ _. true) (λ (e : Name × MemberRow). (Text e.0 ∷ [], member_listed e)) (λ id e. refl) (λ id e. refl)
    (λ a b _ _ low. then-Equal _ ∙ value_cmp-Text a.0 b.0 ∙ low) select_member_rows (codes "name" ∷ codes "granted" ∷ codes "unspent" ∷ []) select_member_rows_is old new rows shown r h
    ∙ ap (map member_listed) (filter_everything (fmap.entries r.members))

-- ---- all members

-- the sums of each member are those of the rows
pub members_summed : (r : Rows) (sums : MemberSums) (rows items : List Row) → rows ≡ items → items ≡ map member_listed (fmap.entries r.members) → ((m : Name) → sums_at sums m ≡ row_sums r (Member m))
    → map (totals_row sums) rows ≡ row_members_totals_of r
members_summed r sums rows items is listed each =
    ap (map (totals_row sums)) (is ∙ listed)
    ∙ map-map (totals_row sums) member_listed (fmap.entries r.members)
    ∙ (λ i. map (λ (e : Name × MemberRow). (e.0, totals_with (each e.0 i) e.1.granted e.1.float)) (fmap.entries r.members))

-- ---- the statements

pub waiting_is : IsSelect (adds_text Waiting) 8 [] (col 1 5 ∷ col 1 6 ∷ []) [] (codes "status" ∷ codes "details" ∷ [])
unfolding understood everything
waiting_is = record { is = refl; query = record { plain = (refl, refl); silent = λ _ _. refl }; unlisted = refl }

pub logs_is : IsSelect (adds_text Logged) 8 [] (col 1 1 ∷ col 1 7 ∷ []) [] (codes "name" ∷ codes "log" ∷ [])
unfolding understood everything
logs_is = record { is = refl; query = record { plain = (refl, refl); silent = λ _ _. refl }; unlisted = refl }

pub archived_is : IsSelect (adds_text Archived) 16 [] (col 1 1 ∷ col 1 2 ∷ []) [] (codes "purse" ∷ codes "details" ∷ [])
unfolding understood everything
archived_is = record { is = refl; query = record { plain = (refl, refl); silent = λ _ _. refl }; unlisted = refl }

pub adds_query : (a : Adds) → IsQuery (adds_text a)
adds_query (Counted amounts scope) = amounts_query amounts
adds_query Waiting = waiting_is.query
adds_query Logged = logs_is.query
adds_query Archived = archived_is.query

-- nothing is in a log of nothing
pub nothing_logged : (d : Details) → has_logged none_logged d ≡ false
nothing_logged = has-none_logged

-- ---- what a row says

-- the number of the details of a text
entry_back : (f : Details → ℕ) (d : Details) → IsDetails d → if_some f (entry_of (entry_text d)) ≡ f d
entry_back f d valid = ap (if_some f) (entry_again d valid)

-- the number of the log of a text
log_read : (f : Entries → ℕ) → f none_logged ≡ 0 → (log : Entries) (t : List ℕ) (read : Option Entries) → (t ≡ [] → none_logged ≡ log)
    → IfSome read (λ s. t ≡ [] → none_logged ≡ s) → ((t ≡ [] → ⊥) → read ≡ Some log) → if_some f read ≡ f log
log_read f none log [] None same found only = sym none ∙ ap f (same refl)
log_read f none log [] (Some s) same found only = ap f (sym (found refl) ∙ same refl)
log_read f none log (x ∷ t) read same found only = ap (if_some f) (only (λ n. cc))

log_back : (f : Entries → ℕ) → f none_logged ≡ 0 → (log : Entries) → IsLogValue log → if_some f (entries_of most_entries (code log) none_logged) ≡ f log
log_back f none log valid =
    log_read f none log (code log) (entries_of most_entries (code log) none_logged) (λ t. none_only (code log) t log refl)
    (IfSome_then (entries_of most_entries (code log) none_logged) (found_in (code log) _ refl) (λ s is t. none_only (code log) t s is))
    (λ some. only_in (code log) _ refl some log valid refl)

module _ (r : Rows) (row : Row) where
  -- a purse waits for a value in one status alone
  awaits : (s : Status) → IfSome (details_of s) IsDetails → waiting_row r.purses r.archive (status_shown s) ≡ awaited r.purses r.archive s
  awaits (Epv d) valid = entry_back (left_value r.purses r.archive) d valid
  awaits s valid = refl

  pub wait_is : (s : Status) → column row 0 ≡ Text (status_word s) → column row 1 ≡ Text (status_details s) → IfSome (details_of s) IsDetails → awaited r.purses r.archive s ≡ waiting_row r.purses r.archive row
  wait_is s word details valid = sym (ap₂ (waiting_at r.purses r.archive) word details ∙ awaits s valid)

  pub none_awaited : (s : Status) → ((d : Details) → s ≡ Epv d → ⊥) → 0 ≡ awaited r.purses r.archive s
  none_awaited (Epv d) other = absurd (other d refl)
  none_awaited s other = refl

  none_lost : (p : Name) → lost_in_log r.purses r.archive r.settled p none_logged ≡ 0
  none_lost p = ap (sum_by (lost_by r.purses r.archive r.settled p)) none_is

  pub log_is : (p : Name) (log : Entries) → column row 0 ≡ Text p → column row 1 ≡ Text (code log) → IsLogValue log → lost_in_log r.purses r.archive r.settled p log ≡ log_row r.purses r.archive r.settled row
  log_is p log named is valid =
      sym (ap₂ (λ v w. if_some (lost_in_log r.purses r.archive r.settled (text_of v)) (entries_of most_entries (text_of w) none_logged)) named is
      ∙ log_back (lost_in_log r.purses r.archive r.settled p) (none_lost p) log valid)

  pub result_is : (p : Name) (d : Details) → column row 0 ≡ Text p → column row 1 ≡ Text (entry_text d) → IsDetails d → lost_in_archive r.purses r.archive r.settled (p, d) ≡ result_row r.purses r.archive r.settled row
  result_is p d named is valid =
      sym (ap₂ (λ v w. if_some (λ x. lost_in_archive r.purses r.archive r.settled (text_of v, x)) (entry_of (text_of w))) named is
      ∙ entry_back (λ x. lost_in_archive r.purses r.archive r.settled (p, x)) d valid)

module _ (r : Rows) (p : Name) (d : Details) where
  pub logged_still : has_logged (log_at (fmap.get r.purses p)) d ≡ true → 0 ≡ lost_in_archive r.purses r.archive r.settled (p, d)
  logged_still h = rw h refl

  pub logged_no_more : has_logged (log_at (fmap.get r.purses p)) d ≡ false → lost_by r.purses r.archive r.settled p d ≡ lost_in_archive r.purses r.archive r.settled (p, d)
  logged_no_more h = rw h refl

-- ---- what all rows say

module _ (r : Rows) where
  pub sum_is : (a : Adds) (old new : State) (rows : List Row) → Shown (adds_text a) [] old new rows → Holds old.now r → ArePurses r → AreEntries r → sum_by (row_adds r a) rows ≡ sum_of r a
  unfolding sum_values sum_entries
  sum_is (Counted amounts scope) old new rows shown h purses entries = amounts_summed r scope amounts old new rows shown h
  sum_is Waiting old new rows shown h purses entries =
      summed kept.purses (waiting_row r.purses r.archive) _ _ _ _ waiting_is (λ _. true) waiting_shown _ (λ id e. refl) (λ id e. refl) old new rows shown r h
      (λ p x at. awaits r [] x.purse.status (purses p x at).1.details)
  sum_is Logged old new rows shown h purses entries =
      summed kept.purses (log_row r.purses r.archive r.settled) _ _ _ _ logs_is (λ _. true) log_shown _ (λ id e. refl) (λ id e. refl) old new rows shown r h
      (λ p x at. sym (log_is r (log_shown (p, x)) p x.purse.log refl refl (purses p x at).1.log))
  sum_is Archived old new rows shown h purses entries =
      summed kept.archive (result_row r.purses r.archive r.settled) _ _ _ _ archived_is (λ _. true) result_shown _ (λ id e. refl) (λ id e. refl) old new rows shown r h
      (λ k x at. sym (result_is r (result_shown (k, x)) k.0 k.1 refl refl (entries.archive k x at)))

-- after all rows
pub sum_all_rows : {X : Type 0} (f : X → ℕ) (at : ℕ) (rows items : List X) (sum : ℕ) → length rows ≤ at → rows ≡ items → sum ≡ sum_by f (take at rows) → sum ≡ sum_by f items
sum_all_rows f at rows items sum past is so_far = so_far ∙ ap (sum_by f) (take_all at rows past ∙ is)
