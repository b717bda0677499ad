-- Value between purses: the sums over all details that occur are sums over the purses and what is archived for them.
use Rattle.std.proofs.Common.{◌≡◌, ℕ, ◌+◌, Bool, true, false, cond, ◌&&◌, ◌||◌, List, [], ◌∷◌, ◌++◌, map, refl, sym, ◌∙◌, ap, subst, Option, Some, None, arith}
use Rattle.std.specs.Prelude.{not, is_some, option_map, flat_map}
use Rattle.std.specs.List.{list_any}
use Rattle.std.proofs.lemmas.Bool.{or_left, or_right}
use Rattle.std.proofs.lemmas.List.Folds.{list_any-append}
use Rattle.std.specs.Ordering.{eq_by_cmp}
use Rattle.std.specs.Cmp.{tied_then}
use Rattle.std.specs.FinMap as fmap
use Rattle.std.specs.FinMap.Entries.{find}
use Rattle.mx_pay.specs.Names.{name_cmp, is_name}
use Rattle.mx_pay.specs.Details.{Details, details_cmp, is_details}
use Rattle.mx_pay.specs.Log.{Entries, logged, has_logged, marks}
use Rattle.mx_pay.specs.Orders.{details_exact}
use Rattle.mx_pay.proofs.LogLemmas.{details_total}
use Rattle.mx_pay.proofs.SameLemmas.{same_details, details_itself, details_turned, has-with_entry, has-none_logged}
use Rattle.mx_pay.proofs.TestLemmas.{or_turned}
use Rattle.mx_purse.specs.Operations.{aborted, pending, with_pending, expects_val, expects_ack}
use Rattle.mx_purse.specs.State.{IsInStatus}
use Rattle.mx_purse.specs.declared.status.Status.{Status}
use Rattle.mx_purse.specs.declared.status.Status.TheVariants.{EaFrom, EaTo, Epr, Epv, Epa}
use Rattle.mx_book.specs.declared.values.PurseRow.{PurseRow}
use Rattle.mx_book.specs.Under.{remade}
use Rattle.mx_book.specs.World.{Row, Name, result_cmp}
use Rattle.mx_book.specs.Conditions.{IsWorld}
use Rattle.mx_book.specs.Sums.{sum_values, sum_entries}
use Rattle.mx_book.specs.Reads.{from_row}
use Rattle.mx_book.specs.RowReads.{row_is_settled}
use Rattle.mx_book.specs.Rows.{Rows, world_of, row_of}
use Rattle.mx_book.specs.RowEdits.{log_at}
use Rattle.mx_book.specs.RowTotals.{has_sent, has_left, awaited, lost_by, lost_in_log, lost_in_archive, row_transit_of, row_lost_of}
use Rattle.mx_book.specs.Totals.{occurring, from_in_epa, from_logged, maybe_lost, still_lost, transit, lost}
use Rattle.mx_book.proofs.FoundLemmas.{inside}
use Rattle.mx_book.proofs.NameLemmas.{names_total, names_exact, same_name, name_itself}
use Rattle.mx_book.proofs.RowLemmas.{get_rows, there}
use Rattle.mx_book.proofs.SumLemmas.{value_of, total, total_is, total_same, total_zero, total_add, total_map, total_swap, total_entries, total_key}
use Rattle.mx_book.proofs.UnderLemmas.{pair_total, pair_exact, entries-remake}

-- ---- sums over the details of sets

-- the number of some details in a set of them
sum_at : (set : Entries) (h : Details → ℕ) (d : Details) → total (λ e. cond (is_details d e) (h e) 0) (logged set) ≡ cond (has_logged set d) (h d) 0
sum_at set h d =
    total_map (λ e. cond (is_details d e) (h e) 0) (λ (e : Details × Unit {0}). e.0) (fmap.entries set)
    ∙ total_key details_total details_exact (λ e u. h e) d set
    ∙ by_case (fmap.get set d)
  where
    by_case : (o : Option (Unit {0})) → value_of (λ u. h d) o ≡ cond (is_some o) (h d) 0
    by_case None = refl
    by_case (Some u) = refl

-- the sum over a log is one over a set that has all that the log has
sum_within : (h : Details → ℕ) (log set : Entries) → ((d : Details) → has_logged log d ≡ true → has_logged set d ≡ true) → total h (logged log) ≡ total (λ d. cond (has_logged log d) (h d) 0) (logged set)
sum_within h log set within =
    total_map h (λ (e : Details × Unit {0}). e.0) (fmap.entries log)
    ∙ total_entries details_total (λ d u. h d) (λ d u. total (λ e. cond (is_details d e) (h e) 0) (logged set)) log (λ d u at.
    ap (λ b. cond b (h d) 0) (sym (within d (ap is_some at))) ∙ sym (sum_at set h d))
    ∙ sym (total_map (λ d. total (λ e. cond (is_details d e) (h e) 0) (logged set)) (λ (e : Details × Unit {0}). e.0) (fmap.entries log))
    ∙ total_swap (λ d e. cond (is_details d e) (h e) 0) (logged log) (logged set)
    ∙ total_same _ (λ e. cond (has_logged log e) (h e) 0) (logged set) (λ e.
    total_same (λ d. cond (is_details d e) (h e) 0) (λ d. cond (is_details e d) (h e) 0) (logged log) (λ d. ap (λ b. cond b (h e) 0) (details_turned d e))
    ∙ sum_at log (λ d. h e) e)

-- ---- the details that occur

marks_found : (d : Details) (ds : List Details) → is_some (find details_cmp d (marks ds)) ≡ list_any (is_details d) ds
marks_found d [] = refl
marks_found d (e ∷ es) = grind (arith, marks_found d es)

-- what a log has is still there after an abort, and so is what is pending
pub still_logged : (log : Entries) (o : Option Details) (d : Details) → has_logged log d ≡ true → has_logged (with_pending log o) d ≡ true
still_logged log None d there = there
still_logged log (Some e) d there = has-with_entry log e d ∙ or_right _ _ there

-- ---- numbers by two and by three tests

both_tests : (a b : Bool) (n : ℕ) → cond (a && b) n 0 ≡ cond b (cond a n 0) 0
both_tests true true n = refl
both_tests true false n = refl
both_tests false true n = refl
both_tests false false n = refl

-- what is logged and what is archived but not logged are what is either
lost_parts : (log archive left unsettled : Bool) (n : ℕ) → cond (((log || archive) && left) && unsettled) n 0 ≡ cond log (cond (left && unsettled) n 0) 0 + cond archive (cond log 0 (cond (left && unsettled) n 0)) 0
lost_parts true true left unsettled n = omega arith
lost_parts true false left unsettled n = omega arith
lost_parts false true left unsettled n = omega arith
lost_parts false false left unsettled n = refl

module _ (r : Rows) where
  abbrev all : Entries
  all = occurring (world_of r)

  abbrev from_logs : List (Name × PurseRow) → List Details
  from_logs ps = flat_map (λ (e : Name × Row). logged (aborted e.1.holding.purse).log) (remade (row_of r) ps)

  abbrev from_archive : List ((Name × Details) × Unit {0}) → List Details
  from_archive es = map (λ (result : Name × Details). result.1) (map (λ (e : (Name × Details) × Unit {0}). e.0) es)

  occurs : (d : Details) → has_logged all d ≡ (list_any (is_details d) (from_logs (fmap.entries r.purses)) || list_any (is_details d) (from_archive (fmap.entries r.archive)))
  unfolding occurring
  occurs d =
      let entries = entries-remake name_cmp (row_of r) r.purses in
      let found = ap (λ es. flat_map (λ (e : Name × Row). logged (aborted e.1.holding.purse).log) es) entries in
      ap is_some (fmap.get-from_entries details_total (marks (flat_map (λ (e : Name × Row). logged (aborted e.1.holding.purse).log) (fmap.entries (world_of r).rows) ++ from_archive (fmap.entries r.archive))) d)
      ∙ marks_found d _
      ∙ list_any-append (is_details d) _ (from_archive (fmap.entries r.archive))
      ∙ ap (λ ds. list_any (is_details d) ds || list_any (is_details d) (from_archive (fmap.entries r.archive))) found

  log_listed : (p : Name) (x : PurseRow) (d : Details) → has_logged (aborted x.purse).log d ≡ true → (ps : List (Name × PurseRow)) → find name_cmp p ps ≡ Some x → list_any (is_details d) (from_logs ps) ≡ true
  log_listed p x d has [] at = absurd (cc)
  log_listed p x d has (e ∷ es) at = list_any-append (is_details d) (logged (aborted e.1.purse).log) (from_logs es) ∙ by_case (is_name p e.0) refl (log_listed p x d has es)
    where
      by_case : (b : Bool) → is_name p e.0 ≡ b → (find name_cmp p es ≡ Some x → list_any (is_details d) (from_logs es) ≡ true) → (list_any (is_details d) (logged (aborted e.1.purse).log) || list_any (is_details d) (from_logs es)) ≡ true
      by_case true here rest =
          let same : e.1 ≡ x = inside e.1 x (sym (ap (λ b. cond b (Some e.1) (find name_cmp p es)) here) ∙ at) in
          or_left _ _ (sym (fmap.contains_key-keys (aborted e.1.purse).log d) ∙ ap (λ y. has_logged (aborted y.purse).log d) same ∙ has)
      by_case false here rest = or_right _ _ (rest (sym (ap (λ b. cond b (Some e.1) (find name_cmp p es)) here) ∙ at))

  log_occurs : (p : Name) (x : PurseRow) → fmap.get r.purses p ≡ Some x → (d : Details) → has_logged (aborted x.purse).log d ≡ true → has_logged all d ≡ true
  log_occurs p x at d there = occurs d ∙ or_left _ _ (log_listed p x d there (fmap.entries r.purses) (sym (fmap.get-entries r.purses p) ∙ at))

  archive_listed : (p : Name) (d : Details) (es : List ((Name × Details) × Unit {0})) → is_some (find result_cmp (p, d) es) ≡ true → list_any (is_details d) (from_archive es) ≡ true
  archive_listed p d [] there = absurd (cc)
  archive_listed p d (e ∷ es) there = grind (arith, archive_listed p d es, tied_then (name_cmp p e.0.0) (details_cmp d e.0.1))

  archive_occurs : (p : Name) (d : Details) → fmap.contains_key r.archive (p, d) ≡ true → has_logged all d ≡ true
  archive_occurs p d there = occurs d ∙ or_right _ _ (archive_listed p d (fmap.entries r.archive) (ap is_some (sym (fmap.get-entries r.archive (p, d))) ∙ there))

  -- ---- the two tests of details, from the rows

  left_by_row : (d : Details) (b : Bool) (o : Option PurseRow)
      → (has_sent o d || b) ≡ (from_row false (λ x. expects_ack x.holding.purse.status d) (option_map (row_of r d.from) o) || (from_row false (λ x. has_logged x.holding.purse.log d) (option_map (row_of r d.from) o) || b))
  left_by_row d b None = refl
  left_by_row d b (Some x) = grind arith

  -- the value of details where it has left the from purse
  abbrev left_value : Details → ℕ
  left_value d = cond (has_left r.purses r.archive d) d.value 0

  abbrev left_of : Details → Bool
  left_of d = has_left r.purses r.archive d

  left_either : (d : Details) → left_of d ≡ (from_in_epa (world_of r) d || from_logged (world_of r) d)
  left_either d =
      left_by_row d (fmap.contains_key r.archive (d.from, d)) (fmap.get r.purses d.from)
      ∙ ap (λ o. from_row false (λ x. expects_ack x.holding.purse.status d) o || (from_row false (λ x. has_logged x.holding.purse.log d) o || fmap.contains_key r.archive (d.from, d))) (sym (get_rows r d.from))

  -- ---- in transit

  -- what a purse waits for, by the name that details have for the to purse
  abbrev waited : Name → Status → Details → ℕ
  waited p s d = cond (is_name d.to p) (cond (expects_val s d) (left_value d) 0) 0

  nothing : (p : Name) (s : Status) → ((d : Details) → expects_val s d ≡ false) → total (waited p s) (logged all) ≡ 0
  nothing p s none = total_same (waited p s) (λ d. 0) (logged all) (λ d. grind (arith, none d)) ∙ total_zero (logged all)

  one_waited : (p : Name) (e d : Details) → e.to ≡ p → (b : Bool) → is_details e d ≡ b → waited p (Epv e) d ≡ cond (is_details e d) (left_value d) 0
  one_waited p e d to true same = ap (λ b. cond b (cond (is_details e d) (left_value d) 0) 0) (ap (λ n. is_name n p) (ap (λ f. f.to) (sym (same_details e d same)) ∙ to) ∙ name_itself p)
  one_waited p e d to false same = grind (arith, same)

  by_status : (p : Name) (s : Status) → ((e : Details) → s ≡ Epv e → (e.to ≡ p) × (has_logged all e ≡ true)) → total (waited p s) (logged all) ≡ awaited r.purses r.archive s
  by_status p EaFrom h = nothing p EaFrom (λ d. refl)
  by_status p EaTo h = nothing p EaTo (λ d. refl)
  by_status p (Epr e) h = nothing p (Epr e) (λ d. refl)
  by_status p (Epa e) h = nothing p (Epa e) (λ d. refl)
  by_status p (Epv e) h =
      total_same (waited p (Epv e)) (λ d. cond (is_details e d) (left_value d) 0) (logged all) (λ d. one_waited p e d (h e refl).0 (is_details e d) refl)
      ∙ sum_at all left_value e
      ∙ ap (λ b. cond b (left_value e) 0) (h e refl).1

  awaited_is : IsWorld (world_of r) → (p : Name) (x : PurseRow) → fmap.get r.purses p ≡ Some x → total (waited p x.purse.status) (logged all) ≡ awaited r.purses r.archive x.purse.status
  awaited_is sound p x at =
      let here = sound.purses.each p (row_of r p x) (there r p x at) in
      by_status p x.purse.status (λ e is. (
        (subst (IsInStatus x.purse) is here.purse.status).0 ∙ here.named,
        log_occurs p x at e (ap (λ s. has_logged (with_pending x.purse.log (pending s)) e) is ∙ has-with_entry x.purse.log e e ∙ or_left _ _ (details_itself e)),
      ))

  maybe_is : (d : Details) (o : Option PurseRow) → cond (left_of d && from_row false (λ x. expects_val x.holding.purse.status d) (option_map (row_of r d.to) o)) d.value 0 ≡ value_of (λ x. cond (expects_val x.purse.status d) (left_value d) 0) o
  maybe_is d None = both_tests (left_of d) false d.value
  maybe_is d (Some x) = both_tests (left_of d) (expects_val x.purse.status d) d.value

  waited_at : (d : Details) → cond (maybe_lost (world_of r) d) d.value 0 ≡ total (λ (e : Name × PurseRow). waited e.0 e.1.purse.status d) (fmap.entries r.purses)
  waited_at d =
      ap (λ b. cond (b && from_row false (λ x. expects_val x.holding.purse.status d) (fmap.get (world_of r).rows d.to)) d.value 0) (sym (left_either d))
      ∙ ap (λ o. cond (left_of d && from_row false (λ x. expects_val x.holding.purse.status d) o) d.value 0) (get_rows r d.to)
      ∙ maybe_is d (fmap.get r.purses d.to)
      ∙ sym (total_key names_total names_exact (λ p x. cond (expects_val x.purse.status d) (left_value d) 0) d.to r.purses)

  pub transit_is : IsWorld (world_of r) → transit (world_of r) ≡ row_transit_of r
  unfolding sum_values
  transit_is sound =
      total_is (λ d. cond (maybe_lost (world_of r) d) d.value 0) (logged all)
      ∙ total_same _ (λ d. total (λ (e : Name × PurseRow). waited e.0 e.1.purse.status d) (fmap.entries r.purses)) (logged all) waited_at
      ∙ total_swap (λ d (e : Name × PurseRow). waited e.0 e.1.purse.status d) (logged all) (fmap.entries r.purses)
      ∙ total_entries names_total (λ p x. total (waited p x.purse.status) (logged all)) (λ p x. awaited r.purses r.archive x.purse.status) r.purses (awaited_is sound)
      ∙ sym (total_is (λ (e : Name × PurseRow). awaited r.purses r.archive e.1.purse.status) (fmap.entries r.purses))

  -- ---- lost by logs

  -- details that aren't settled, and the value of details where it has left the from purse and they aren't settled
  abbrev unsettled : Details → Bool
  unsettled d = not (row_is_settled r d)

  abbrev lost_value : Details → ℕ
  lost_value d = cond (left_of d && unsettled d) d.value 0

  abbrev logged_to : Details → Bool
  logged_to d = has_logged (log_at (fmap.get r.purses d.to)) d

  -- what details add to what is lost by the log of a purse
  abbrev in_log : Name → PurseRow → Details → ℕ
  in_log p x d = cond (is_name d.to p) (cond (has_logged x.purse.log d) (lost_value d) 0) 0

  log_is : (p : Name) (x : PurseRow) → fmap.get r.purses p ≡ Some x → total (in_log p x) (logged all) ≡ lost_in_log r.purses r.archive r.settled p x.purse.log
  log_is p x at =
      total_same (in_log p x) (λ d. cond (has_logged x.purse.log d) (lost_by r.purses r.archive r.settled p d) 0) (logged all) (λ d. grind arith)
      ∙ sym (sum_within (lost_by r.purses r.archive r.settled p) x.purse.log all (λ d has. log_occurs p x at d (still_logged x.purse.log (pending x.purse.status) d has)))
      ∙ sym (total_is (lost_by r.purses r.archive r.settled p) (logged x.purse.log))

  logged_is : (d : Details) (o : Option PurseRow) → value_of (λ x. cond (has_logged x.purse.log d) (lost_value d) 0) o ≡ cond (has_logged (log_at o) d) (lost_value d) 0
  logged_is d None = ap (λ b. cond b (lost_value d) 0) (sym (has-none_logged d))
  logged_is d (Some x) = refl

  logs_are : sum_entries (λ p (x : PurseRow). lost_in_log r.purses r.archive r.settled p x.purse.log) r.purses ≡ total (λ d. cond (logged_to d) (lost_value d) 0) (logged all)
  unfolding sum_entries
  logs_are =
      total_is (λ (e : Name × PurseRow). lost_in_log r.purses r.archive r.settled e.0 e.1.purse.log) (fmap.entries r.purses)
      ∙ sym (total_entries names_total (λ p x. total (in_log p x) (logged all)) (λ p x. lost_in_log r.purses r.archive r.settled p x.purse.log) r.purses log_is)
      ∙ total_swap (λ (e : Name × PurseRow) d. in_log e.0 e.1 d) (fmap.entries r.purses) (logged all)
      ∙ total_same _ _ (logged all) (λ d. total_key names_total names_exact (λ p x. cond (has_logged x.purse.log d) (lost_value d) 0) d.to r.purses ∙ logged_is d (fmap.get r.purses d.to))

  -- ---- and by what is archived

  -- the value of details that the log of the to purse hasn't any more
  abbrev cleared : Details → ℕ
  cleared d = cond (logged_to d) 0 (lost_value d)

  -- what details add to what is lost by a result that is archived
  abbrev in_result : Name × Details → Details → ℕ
  in_result result d = cond (eq_by_cmp result_cmp (d.to, d) result) (cleared d) 0

  result_pair : (p : Name) (d e : Details) → in_result (p, d) e ≡ cond (is_details d e) (cond (is_name e.to p) (cleared e) 0) 0
  result_pair p d e = grind (arith, tied_then (name_cmp e.to p) (details_cmp e d), details_turned d e)

  result_at : (p : Name) (d : Details) (b : Bool) → is_name d.to p ≡ b → cond (is_name d.to p) (cleared d) 0 ≡ lost_in_archive r.purses r.archive r.settled (p, d)
  result_at p d true to =
      ap (λ b. cond b (cleared d) 0) to
      ∙ ap (λ n. cond (has_logged (log_at (fmap.get r.purses n)) d) 0 (lost_value d)) (same_name d.to p to)
      ∙ ap (λ b. cond (has_logged (log_at (fmap.get r.purses p)) d) 0 (cond (b && left_of d && unsettled d) d.value 0)) (sym to)
  result_at p d false to = grind (arith, to)

  result_is : (result : Name × Details) (u : Unit {0}) → fmap.get r.archive result ≡ Some u → total (in_result result) (logged all) ≡ lost_in_archive r.purses r.archive r.settled result
  result_is result u at =
      let d = result.1 in
      total_same (in_result result) (λ e. cond (is_details d e) (cond (is_name e.to result.0) (cleared e) 0) 0) (logged all) (λ e. result_pair result.0 d e)
      ∙ sum_at all (λ e. cond (is_name e.to result.0) (cleared e) 0) d
      ∙ ap (λ b. cond b (cond (is_name d.to result.0) (cleared d) 0) 0) (archive_occurs result.0 d (ap is_some at))
      ∙ result_at result.0 d (is_name d.to result.0) refl

  found_is : (d : Details) (o : Option (Unit {0})) → value_of (λ u. cleared d) o ≡ cond (is_some o) (cleared d) 0
  found_is d None = refl
  found_is d (Some u) = refl

  results_are : sum_entries (λ result (u : Unit {0}). lost_in_archive r.purses r.archive r.settled result) r.archive ≡ total (λ d. cond (fmap.contains_key r.archive (d.to, d)) (cleared d) 0) (logged all)
  unfolding sum_entries
  results_are =
      total_is (λ (e : (Name × Details) × Unit {0}). lost_in_archive r.purses r.archive r.settled e.0) (fmap.entries r.archive)
      ∙ sym (total_entries (pair_total names_total details_total) (λ result u. total (in_result result) (logged all)) (λ result u. lost_in_archive r.purses r.archive r.settled result) r.archive result_is)
      ∙ total_swap (λ (e : (Name × Details) × Unit {0}) d. in_result e.0 d) (fmap.entries r.archive) (logged all)
      ∙ total_same _ _ (logged all) (λ d. total_key (pair_total names_total details_total) (pair_exact names_exact details_exact) (λ result u. cleared d) (d.to, d) r.archive ∙ found_is d (fmap.get r.archive (d.to, d)))

  -- ---- both

  logged_row : (d : Details) (o : Option PurseRow) → from_row false (λ x. has_logged x.holding.purse.log d) (option_map (row_of r d.to) o) ≡ has_logged (log_at o) d
  logged_row d None = sym (has-none_logged d)
  logged_row d (Some x) = refl

  still_is : (d : Details) → cond (still_lost (world_of r) d) d.value 0 ≡ cond (logged_to d) (lost_value d) 0 + cond (fmap.contains_key r.archive (d.to, d)) (cleared d) 0
  still_is d =
      let archived = fmap.contains_key r.archive (d.to, d) in
      let sent = from_logged (world_of r) d || from_in_epa (world_of r) d in
      ap (λ b. cond (((b || archived) && sent) && unsettled d) d.value 0) (ap (from_row false (λ x. has_logged x.holding.purse.log d)) (get_rows r d.to) ∙ logged_row d (fmap.get r.purses d.to))
      ∙ ap (λ b. cond (((logged_to d || archived) && b) && unsettled d) d.value 0) (or_turned (from_logged (world_of r) d) (from_in_epa (world_of r) d) ∙ sym (left_either d))
      ∙ lost_parts (logged_to d) archived (left_of d) (unsettled d) d.value

  pub lost_is : lost (world_of r) ≡ row_lost_of r
  lost_is =
      total_is (λ d. cond (still_lost (world_of r) d) d.value 0) (logged all)
      ∙ total_same _ (λ d. cond (logged_to d) (lost_value d) 0 + cond (fmap.contains_key r.archive (d.to, d)) (cleared d) 0) (logged all) still_is
      ∙ total_add (λ d. cond (logged_to d) (lost_value d) 0) (λ d. cond (fmap.contains_key r.archive (d.to, d)) (cleared d) 0) (logged all)
      ∙ sym (λ i. logs_are i + results_are i)
