-- What is looked up, one by one, is what the rows of a book say of it.
use Rattle.std.proofs.Common.{◌≡◌, ℕ, List, [], ◌∷◌, ◌++◌, not, refl, sym, ◌∙◌, ap, Option, Some, None, Bool, true, false, arith}
use Rattle.std.specs.Cmp.{first_so, second_so}
use Rattle.std.specs.Ordering.{nat_cmp}
use Rattle.std.specs.List.{AllByRecursion, list_all, flat_map}
use Rattle.std.specs.FinMap as fmap
use Rattle.std.proofs.lemmas.Bool.{and_from}
use Rattle.std.proofs.lemmas.List.Folds.{list_all-append, list_all-map}
use Rattle.sqlite_keyed.proofs.ListLemmas.{all_map, all_unmap}
use Rattle.mx_pay.specs.Details.{Details}
use Rattle.mx_pay.specs.Log.{Entries, has_logged, logged}
use Rattle.mx_pay.specs.Names.{name_cmp}
use Rattle.mx_pay.proofs.SameLemmas.{one_of, all_of as all_logged, has-none_logged}
use Rattle.mx_purse.specs.declared.message.Message as purse
use Rattle.mx_purse.specs.declared.message.Message.TheVariants.{Clear}
use Rattle.mx_book.specs.World.{Name, result_cmp}
use Rattle.mx_book.specs.Rows.{Rows}
use Rattle.mx_book.specs.RowEdits.{log_at}
use Rattle.mx_book.specs.RowReads.{row_is_archived}
use Rattle.mx_book.specs.Under.{pair_cmp}
use Rattle.mx_book.specs.declared.values.PurseRow.{PurseRow}
use Rattle.mx_book.proofs.FoundLemmas.{value_found, some_of}
use Rattle.mx_book.proofs.NameLemmas.{names_total, names_exact}
use Rattle.mx_book.proofs.ResultLemmas.{results_total, results_exact}
use Rattle.mx_cells.specs.Entries.{IsPurseRow, IsResultRow}
use Rattle.mx_tables.specs.Answers.{ArePurses}
use Rattle.mx_tables.specs.Results.{AreDetails}
use Rattle.mx_audit.specs.Audit.{all_of, cleared_by, cleared_of}
use Rattle.mx_audit.specs.Audited.{is_laid_well}
use Rattle.mx_audit.specs.Fed.{Fed, AreLimited, Lists, Laid, Cleared, marked}
use Rattle.mx_audit.specs.Readings.{fed_of, messages_of}
use Rattle.mx_audit.specs.Sound.{IsSound, HasMessage, IsArchived, IsLaid, IsEntryRow}
use Rattle.mx_audit.specs.declared.typed.Source.{Source}
use Rattle.mx_audit.specs.declared.typed.Source.TheVariants.{Inbox}
use Rattle.mx_audit.specs.declared.typed.TypedRow.{TypedRow}
use Rattle.mx_audit.specs.declared.typed.TypedRow.TheVariants.{Message}
use Rattle.mx_audit.proofs.ListedLemmas.{of_each, all_each}
use Rattle.mx_audit.proofs.FedLemmas.{numbers_total, numbers_exact}

-- ---- a test of all of a list

module _ {X : Type 0} (p : X → Bool) where
  all_pass : (xs : List X) → AllByRecursion (λ x. p x ≡ true) xs → list_all p xs ≡ true
  all_pass [] h = refl
  all_pass (x ∷ xs) h = and_from _ _ h.0 (all_pass xs h.1)

  each_passes : (xs : List X) → list_all p xs ≡ true → AllByRecursion (λ x. p x ≡ true) xs
  each_passes [] h = tt
  each_passes (x ∷ xs) h = (first_so _ _ h, each_passes xs (second_so (p x) _ h))

  -- of lists joined
  all_joined : {Y : Type 0} (f : Y → List X) (ys : List Y) → AllByRecursion (λ y. list_all p (f y) ≡ true) ys → list_all p (flat_map f ys) ≡ true
  all_joined f [] h = refl
  all_joined f (y ∷ ys) h = list_all-append p (f y) (flat_map f ys) ∙ and_from _ _ h.0 (all_joined f ys h.1)

  each_joined : {Y : Type 0} (f : Y → List X) (ys : List Y) → list_all p (flat_map f ys) ≡ true → AllByRecursion (λ y. list_all p (f y) ≡ true) ys
  each_joined f [] h = tt
  each_joined f (y ∷ ys) h =
      let both = sym (list_all-append p (f y) (flat_map f ys)) ∙ h in
      (first_so _ _ both, each_joined f ys (second_so (list_all p (f y)) _ both))

-- ---- what is in a tray

-- a log with an entry is that of a purse
logged_row : (o : Option PurseRow) (d : Details) → has_logged (log_at o) d ≡ true → (x : PurseRow) × (o ≡ Some x) × (has_logged x.purse.log d ≡ true)
logged_row None d h = let none = has-none_logged d in absurd (cc)
logged_row (Some x) d h = (x, refl, h)

not_so : (b : Bool) → not b ≡ true → b ≡ false
not_so b h = grind arith

module _ (r : Rows) where
  well : (p : Name) (d : Details) → IsEntryRow r p d → fmap.contains_key r.archive (p, d) ≡ false → is_laid_well r (p, d) ≡ true
  well p d entry apart = and_from _ _ (ap (λ o. has_logged (log_at o) d) entry.1 ∙ entry.2) (ap not apart)

  well_entry : (p : Name) (d : Details) → is_laid_well r (p, d) ≡ true → IsEntryRow r p d
  well_entry p d h = logged_row (fmap.get r.purses p) d (first_so _ _ h)

  well_apart : (p : Name) (d : Details) → is_laid_well r (p, d) ≡ true → fmap.contains_key r.archive (p, d) ≡ false
  well_apart p d h = not_so _ (second_so (has_logged (log_at (fmap.get r.purses p)) d) _ h)

module _ (f : Fed) (r : Rows) (is : Lists f r) where
  all_laid : (P : Name × Details → Type 0) → ((p : Name) (d : Details) → IsLaid r p d → P (p, d)) → AllByRecursion P f.tray
  all_laid P h =
      all_unmap (λ (e : (Name × Details) × Unit {0}). P e.0) (λ k. (k, tt)) f.tray
      (all_each result_cmp results_total results_exact (marked f.tray) r.tray is.tray (λ e. P e.0) (λ k u at. h k.0 k.1 (some_of _ u at)))

  laid_is : (P : Name × Details → Type 0) → AllByRecursion P f.tray → (p : Name) (d : Details) → IsLaid r p d → P (p, d)
  laid_is P all p d some =
      of_each result_cmp results_total results_exact (marked f.tray) r.tray is.tray (λ e. P e.0)
      (all_map (λ (e : (Name × Details) × Unit {0}). P e.0) (λ k. (k, tt)) f.tray all)
      (p, d) tt (value_found _ some).1

-- what is in the trays is as it should be
pub laid_well : (f : Fed) (r : Rows) → Lists f r → Laid r → list_all (is_laid_well r) f.tray ≡ true
laid_well f r is laid =
    all_pass (is_laid_well r) f.tray
    (all_laid f r is (λ e. is_laid_well r e ≡ true) (λ p d at. well r p d (laid.logged p d at) (laid.apart p d at)))

-- and the other way round
pub laid_from : (f : Fed) (r : Rows) → Lists f r → list_all (is_laid_well r) f.tray ≡ true → Laid r
laid_from f r is h =
    let each = laid_is f r is (λ e. is_laid_well r e ≡ true) (each_passes (is_laid_well r) f.tray h) in
    record { logged = λ p d at. well_entry r p d (each p d at); apart = λ p d at. well_apart r p d (each p d at) }

-- ---- what a clear would clear

-- that of each message
abbrev cleared_at : (Name × ℕ) × purse.Message → List (Name × Details)
cleared_at e = cleared_by e.0.0 e.1

same_cleared : (es : List TypedRow) → flat_map cleared_of es ≡ flat_map cleared_at (flat_map messages_of es)
same_cleared [] = refl
same_cleared (Message p n m ∷ es) = ap (λ ds. cleared_by p m ++ ds) (same_cleared es)
same_cleared (e ∷ es) = same_cleared es

module _ (r : Rows) where
  abbrev is_kept : Name × Details → Bool
  is_kept e = row_is_archived r e.0 e.1

  set_archived : Cleared r → (p : Name) (n : ℕ) (m : purse.Message) → HasMessage r p n m → list_all is_kept (cleared_by p m) ≡ true
  set_archived cleared p n (Clear set) at =
      list_all-map is_kept (λ (d : Details). (p, d)) (logged set)
      ∙ all_logged (λ d. row_is_archived r p d) (logged set) (λ d there. cleared.archived p n set d at (fmap.contains_key-keys set d ∙ there))
  set_archived cleared p n m at = refl

  set_from : (p : Name) (set : Entries) (d : Details) → list_all is_kept (all_of p set) ≡ true → has_logged set d ≡ true → IsArchived r p d
  set_from p set d h has =
      one_of (λ d. row_is_archived r p d) d (logged set)
      (sym (list_all-map is_kept (λ (d : Details). (p, d)) (logged set)) ∙ h)
      (sym (fmap.contains_key-keys set d) ∙ has)

-- what the clears would clear is archived
pub cleared_well : (read : Source → List TypedRow) (r : Rows) → Lists (fed_of read) r → Cleared r
    → list_all (λ e. row_is_archived r e.0 e.1) (flat_map cleared_of (read Inbox)) ≡ true
cleared_well read r is cleared =
    let inbox = flat_map messages_of (read Inbox) in
    ap (list_all (is_kept r)) (same_cleared (read Inbox))
    ∙ all_joined (is_kept r) cleared_at inbox
    (all_each (pair_cmp name_cmp nat_cmp) numbers_total numbers_exact inbox r.inbox is.inbox
    (λ e. list_all (is_kept r) (cleared_at e) ≡ true) (λ k m at. set_archived r cleared k.0 k.1 m at))

-- and the other way round
pub cleared_from : (read : Source → List TypedRow) (r : Rows) → Lists (fed_of read) r
    → list_all (λ e. row_is_archived r e.0 e.1) (flat_map cleared_of (read Inbox)) ≡ true → Cleared r
cleared_from read r is h =
    let inbox = flat_map messages_of (read Inbox) in
    let each = each_joined (is_kept r) cleared_at inbox (sym (ap (list_all (is_kept r)) (same_cleared (read Inbox))) ∙ h) in
    record {
      archived = λ p n set d at has.
          set_from r p set d
          (of_each (pair_cmp name_cmp nat_cmp) numbers_total numbers_exact inbox r.inbox is.inbox
          (λ e. list_all (is_kept r) (cleared_at e) ≡ true) each (p, n) (Clear set) at)
          has;
    }

-- ---- purses and archived details

-- where rows are within their limits, so are the purses, and what is archived
pub purses_limited : (f : Fed) (r : Rows) → Lists f r → AreLimited f → ArePurses r
purses_limited f r is within p x at =
    let row = of_each name_cmp names_total names_exact f.purses r.purses is.purses IsPurseRow within.purses p x at in
    (row.named, row.purse)

pub details_limited : (f : Fed) (r : Rows) → Lists f r → AreLimited f → AreDetails r.archive
details_limited f r is within k u at =
    (of_each result_cmp results_total results_exact (marked f.archive) r.archive is.archive (λ e. IsResultRow e.0)
    (all_map (λ (e : (Name × Details) × Unit {0}). IsResultRow e.0) (λ k. (k, tt)) f.archive within.archive)
    k u at).1

-- and so they are in sound rows
pub purses_sound : (r : Rows) → IsSound r → ArePurses r
purses_sound r sound p x at = (sound.purses.named p x at, sound.purses.purse p x at)

pub details_sound : (r : Rows) → IsSound r → AreDetails r.archive
details_sound r sound k u at = sound.results.details k.0 k.1 (some_of _ u at)
