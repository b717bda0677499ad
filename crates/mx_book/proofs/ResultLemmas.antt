-- Results of read log in the tray and in the archive.
use Rattle.std.proofs.Common.{refl, ◌≡◌, ◌⊎◌, ℕ, ◌+◌, inl, inr, Bool, true, false, not, ◌&&◌, ◌||◌, List, [], ◌∷◌, sym, ◌∙◌, ap, subst, Option, Some, None, IsSome, is_some, arith}
use Rattle.std.specs.Prelude.{IsSomeAnd, slice_get, option_map}
use Rattle.std.specs.Ordering.{eq_by_cmp}
use Rattle.std.specs.List.{list_any}
use Rattle.std.specs.Cmp.{IsTotalOrder, eq_by_cmp_equiv}
use Rattle.std.specs.FinMap as fmap
use Rattle.std.specs.FinMap.{IsAntisymmetric}
use Rattle.std.specs.FinSet.{FinSet}
use Rattle.mx_pay.specs.Names.{name_cmp, is_name}
use Rattle.mx_pay.specs.Details.{Details, IsDetails, details_cmp, is_details}
use Rattle.mx_pay.specs.Log.{Entries, logged, log_len, has_logged, is_within, with_entry}
use Rattle.mx_pay.specs.Orders.{details_exact}
use Rattle.mx_pay.proofs.LogLemmas.{details_total}
use Rattle.mx_pay.proofs.SameLemmas.{within_means, same_details, has-with_entry}
use Rattle.mx_pay.proofs.TestLemmas.{is_equal}
use Rattle.mx_book.specs.Under.{under}
use Rattle.mx_book.specs.World.{World, Row, Name, result_cmp, results_of, results_but, and_results, with_archived}
use Rattle.mx_book.specs.declared.values.PurseRow.{PurseRow}
use Rattle.mx_book.specs.Rows.{Rows, row_of, world_of}
use Rattle.mx_book.specs.RowEdits.{log_at, row_laid_of}
use Rattle.mx_book.proofs.RowLemmas.{get_rows}
use Rattle.mx_book.specs.Reads.{tray_of}
use Rattle.mx_book.specs.Conditions.{IsWorld, AreSettled, IsEntry, ResultsHold}
use Rattle.mx_book.specs.declared.edits.Edit.TheVariants.{AddTray, ArchiveTray, AddSettled}
use Rattle.mx_book.specs.Edits.{edited, Suits}
use Rattle.mx_book.proofs.NameLemmas.{names_total, names_exact, same_name}
use Rattle.mx_book.proofs.UnderLemmas.{pair_total, pair_exact}
use Rattle.mx_book.proofs.LogLemmas.{is_among, among_more, same_members, has_kept, under_has}
use Rattle.mx_book.proofs.FoundLemmas.{inside, some_of, value_found}
use Rattle.mx_book.proofs.KeepLemmas.{may_lie}

-- ---- sets of results

pub results_total : IsTotalOrder result_cmp
results_total = pair_total names_total details_total

pub results_exact : IsAntisymmetric result_cmp
results_exact = pair_exact names_exact details_exact

pub same_result : (j k : Name × Details) → eq_by_cmp result_cmp j k ≡ true → j ≡ k
same_result j k t = results_exact j k (is_equal _ t)

-- results are those that have the same members
pub same_results : (s t : FinSet result_cmp) → ((k : Name × Details) → fmap.contains_key s k ≡ fmap.contains_key t k) → s ≡ t
same_results s t is = same_members results_total results_exact s t is

-- what a set has where some are kept
has-kept : (s : FinSet result_cmp) (f : Name × Details → Bool) (k : Name × Details) → fmap.contains_key (fmap.retain_keys s f) k ≡ (fmap.contains_key s k && f k)
has-kept s f k = has_kept results_exact s f k

-- and with more of them
has-listed : (s : FinSet result_cmp) (ks : List (Name × Details)) (k : Name × Details) → fmap.contains_key (and_results s ks) k ≡ (fmap.contains_key s k || list_any (eq_by_cmp result_cmp k) ks)
has-listed s [] k = grind arith
has-listed s (j ∷ ks) k = grind (arith, has-listed s ks k, fmap.get-insert results_total (and_results s ks) j tt k)

pub has-both : (s t : FinSet result_cmp) (k : Name × Details) → fmap.contains_key (and_results s (fmap.keys t)) k ≡ (fmap.contains_key s k || fmap.contains_key t k)
has-both s t k = has-listed s (fmap.keys t) k ∙ ap (λ b. fmap.contains_key s k || b) (sym (fmap.contains_key-keys t k))

-- ---- results that move from the tray to the archive, one after the other

-- whether a result is the purse's, with details that pass a test
abbrev pub is_one : Name → (Details → Bool) → Name × Details → Bool
is_one p f k = is_name p k.0 && f k.1

same_pair : (p : Name) (d : Details) (k : Name × Details) → eq_by_cmp result_cmp k (p, d) ≡ is_one p (λ e. is_details e d) k
same_pair p d k = grind (arith, (eq_by_cmp_equiv names_total).symm p k.0)

has-removed : (m : FinSet result_cmp) (p : Name) (d : Details) (k : Name × Details) → fmap.contains_key (fmap.remove m (p, d)) k ≡ (fmap.contains_key m k && not (is_one p (λ e. is_details e d) k))
has-removed m p d k = grind (arith, fmap.get-remove results_total m (p, d) k, same_pair p d k)

has-put : (m : FinSet result_cmp) (p : Name) (d : Details) (k : Name × Details) → fmap.contains_key (fmap.insert m (p, d) tt) k ≡ (fmap.contains_key m k || is_one p (λ e. is_details e d) k)
has-put m p d k = grind (arith, fmap.get-insert results_total m (p, d) tt k, same_pair p d k)

module _ (first old : FinSet result_cmp) (p : Name) (log : Entries) (i : ℕ) (d : Details) (at : slice_get (logged log) i ≡ Some d) where
  pub taken_next : ((k : Name × Details) → fmap.contains_key old k ≡ (fmap.contains_key first k && not (is_one p (is_among log i) k))) → (k : Name × Details) → fmap.contains_key (fmap.remove old (p, d)) k ≡ (fmap.contains_key first k && not (is_one p (is_among log (i + 1)) k))
  taken_next is k = grind (arith, is k, has-removed old p d k, among_more log i d at k.1)

  pub put_next : ((k : Name × Details) → fmap.contains_key old k ≡ (fmap.contains_key first k || is_one p (is_among log i) k)) → (k : Name × Details) → fmap.contains_key (fmap.insert old (p, d) tt) k ≡ (fmap.contains_key first k || is_one p (is_among log (i + 1)) k)
  put_next is k = grind (arith, is k, has-put old p d k, among_more log i d at k.1)

-- ---- a tray all of which is in a log

-- those of a log's entries that are in a purse's tray
abbrev pub laid_in : FinSet result_cmp → Name → Entries → Entries
laid_in tray p log = fmap.retain_keys log (λ d. fmap.contains_key tray (p, d))

module _ (tray : FinSet result_cmp) (p : Name) (log : Entries) (within : is_within (under name_cmp details_cmp p tray) log ≡ true) where
  laid_has : (d : Details) → has_logged (laid_in tray p log) d ≡ fmap.contains_key tray (p, d)
  laid_has d = grind (arith, has_kept details_exact log (λ e. fmap.contains_key tray (p, e)) d, under_has p tray d, within_means _ log within d)

  laid_one : (k : Name × Details) → (fmap.contains_key tray k && is_name p k.0) ≡ is_one p (has_logged (laid_in tray p log)) k
  laid_one k = grind (arith, same_name p k.0, laid_has k.1)

  pub tray_taken : (new : FinSet result_cmp) → ((k : Name × Details) → fmap.contains_key new k ≡ (fmap.contains_key tray k && not (is_one p (has_logged (laid_in tray p log)) k))) → new ≡ results_but p tray
  tray_taken new is = same_results new _ (λ k. grind (arith, is k, laid_one k, has-kept tray (λ result. not (is_name p result.0)) k))

  pub archive_put : (archive new : FinSet result_cmp) → ((k : Name × Details) → fmap.contains_key new k ≡ (fmap.contains_key archive k || is_one p (has_logged (laid_in tray p log)) k)) → new ≡ and_results archive (fmap.keys (results_of p tray))
  archive_put archive new is = same_results new _ (λ k. grind (arith, is k, laid_one k, has-both archive (results_of p tray) k, has-kept tray (λ result. is_name p result.0) k))

-- ---- the World

-- a result is in the tray or the archive after a tray went there
pub left_in_tray : (w : World) (p : Name) (k : Name × Details) → fmap.contains_key (with_archived w p).tray k ≡ (fmap.contains_key w.tray k && not (is_name p k.0))
left_in_tray w p k = has-kept w.tray (λ result. not (is_name p result.0)) k

pub then_archived : (w : World) (p : Name) (k : Name × Details) → fmap.contains_key (with_archived w p).archive k ≡ (fmap.contains_key w.archive k || (fmap.contains_key w.tray k && is_name p k.0))
then_archived w p k = has-both w.archive (results_of p w.tray) k ∙ ap (λ b. fmap.contains_key w.archive k || b) (has-kept w.tray (λ result. is_name p result.0) k)

-- ---- the tray of a purse

-- the tray of a purse has the results that are in the tray for it
pub tray_has : (w : World) (p : Name) (d : Details) → has_logged (tray_of w p) d ≡ fmap.contains_key w.tray (p, d)
tray_has w p d = under_has p w.tray d

-- the log of a purse from the row of a purse
log_from : (r : Rows) (p : Name) (o : Option PurseRow) (x : Row) → option_map (row_of r p) o ≡ Some x → log_at o ≡ x.holding.purse.log
log_from r p None x e = absurd (cc)
log_from r p (Some y) x e = ap (λ (z : Row). z.holding.purse.log) (inside _ x e)

-- what is in a tray is an entry of the purse's log, so it is found from there
pub laid_is : (r : Rows) (p : Name) → IsWorld (world_of r) → row_laid_of r p ≡ tray_of (world_of r) p
laid_is r p h = same_members details_total details_exact _ _ (λ d.
    grind (arith, has_kept details_exact (log_at (fmap.get r.purses p)) (λ e. fmap.contains_key r.tray (p, e)) d, under_has p r.tray d, in_log d))
  where
    in_log : (d : Details) → fmap.contains_key r.tray (p, d) ≡ true → has_logged (log_at (fmap.get r.purses p)) d ≡ true
    in_log d laid = let x = h.results.logged p d laid in ap (λ log. has_logged log d) (log_from r p (fmap.get r.purses p) x.0 (sym (get_rows r p) ∙ x.1)) ∙ x.2

-- to archive a tray that is empty changes nothing
pub empty_tray : (w : World) (p : Name) → log_len (tray_of w p) ≡ 0 → with_archived w p ≡ w
empty_tray w p none = λ i. record w { tray = tray_stays i; archive = archive_stays i }
  where
    gone : (d : Details) → fmap.contains_key w.tray (p, d) ≡ false
    gone d = sym (tray_has w p d) ∙ ap (λ log. has_logged log d) (fmap.empty_of_len (tray_of w p) none) ∙ ap is_some (fmap.get-empty details_cmp d)

    nothing : (k : Name × Details) → (fmap.contains_key w.tray k && is_name p k.0) ≡ false
    nothing k = grind (arith, same_name p k.0, gone k.1)

    tray_stays : (with_archived w p).tray ≡ w.tray
    tray_stays = same_results _ _ (λ k. grind (arith, left_in_tray w p k, nothing k))

    archive_stays : (with_archived w p).archive ≡ w.archive
    archive_stays = same_results _ _ (λ k. grind (arith, then_archived w p k, nothing k))

-- ---- the World with other results

module _ (w : World) (tray archive : FinSet result_cmp) where
  abbrev with_results : World
  with_results = record w { tray = tray; archive = archive }

  -- a change of the tray and the archive, where what is archived stays so
  pub results_stay : ((p : Name) (d : Details) → fmap.contains_key w.archive (p, d) ≡ true → fmap.contains_key archive (p, d) ≡ true) → ResultsHold with_results → IsWorld w → IsWorld with_results
  results_stay stay hold h = record {
    tokens = record { operator_bytes = h.tokens.operator_bytes; bytes = h.tokens.bytes; operator = h.tokens.operator; owners = h.tokens.owners; clerks = h.tokens.clerks; holders = h.tokens.holders; single = h.tokens.single };
    members = record { named = h.members.named; granted = h.members.granted; floats = h.members.floats; holders = h.members.holders };
    purses = record { each = λ p r at. let x = h.purses.each p r at in record { text = x.text; named = x.named; holder = x.holder; purse = x.purse }; few = h.purses.few };
    inboxes = record { each = h.inboxes.each };
    lines = record { each = h.lines.each };
    results = hold;
    settled = h.settled;
    clears = record { each = λ p r n m at there. may_lie w with_results stay p m (h.clears.each p r n m at there) };
    payments = record { each = h.payments.each };
  }

-- ---- a result more in the tray

result_more : (w : World) (p : Name) (d : Details) (j : Name) (e : Details) → fmap.contains_key (fmap.insert w.tray (p, d) tt) (j, e) ≡ true → (◌≡◌ {A = Name × Details} (j, e) (p, d)) ⊎ (fmap.contains_key w.tray (j, e) ≡ true)
result_more w p d j e there = grind (arith, fmap.get-insert results_total w.tray (p, d) tt (j, e), same_result (j, e) (p, d))

pub result_stays : (w : World) (p : Name) (d : Details) → Suits w (AddTray p d) → IsEntry w p d → IsWorld w → IsWorld (edited w (AddTray p d))
result_stays w p d suits entry h =
    results_stay w (fmap.insert w.tray (p, d) tt) w.archive (λ j e there. there) (record {
      archived = h.results.archived;
      details = h.results.details;
      logged = λ j e there. elim (result_more w p d j e there) [
        | inl same ↦ subst (λ (k : Name × Details). IsEntry w k.0 k.1) (sym same) entry
        | inr old ↦ h.results.logged j e old
      ];
      apart = λ j e there. elim (result_more w p d j e there) [
        | inl same ↦ ap (fmap.contains_key w.archive) same ∙ suits.2
        | inr old ↦ h.results.apart j e old
      ];
    }) h

-- ---- a tray that is archived

-- an entry of a purse's log is of a purse that is there, with details within their limits
entry_there : (w : World) (p : Name) (d : Details) → IsEntry w p d → IsSome (fmap.get w.rows p)
entry_there w p d x = some_of _ x.0 x.1

entry_details : (w : World) (p : Name) (d : Details) → IsWorld w → IsEntry w p d → IsDetails d
entry_details w p d h x = (h.purses.each p x.0 x.1).purse.log.entries d x.2

-- what is archived then was archived or in the tray
archived_or : (w : World) (p : Name) (j : Name) (d : Details) → fmap.contains_key (with_archived w p).archive (j, d) ≡ true → (fmap.contains_key w.archive (j, d) ≡ true) ⊎ (fmap.contains_key w.tray (j, d) ≡ true)
archived_or w p j d there = grind (arith, then_archived w p (j, d))

pub archived_stays : (w : World) (p : Name) → IsWorld w → IsWorld (with_archived w p)
archived_stays w p h =
    let v : World = with_archived w p in
    results_stay w v.tray v.archive (λ j d there. grind (arith, then_archived w p (j, d), there)) (record {
      archived = λ j d there. elim (archived_or w p j d there) [
        | inl old ↦ h.results.archived j d old
        | inr new ↦ entry_there w j d (h.results.logged j d new)
      ];
      details = λ j d there. elim (archived_or w p j d there) [
        | inl old ↦ h.results.details j d old
        | inr new ↦ entry_details w j d h (h.results.logged j d new)
      ];
      logged = λ j d there. h.results.logged j d (grind (arith, left_in_tray w p (j, d), there));
      apart = λ j d there. grind (arith, left_in_tray w p (j, d), then_archived w p (j, d), there, h.results.apart j d);
    }) h

pub archive_suits : (w : World) (p : Name) → IsWorld w → IsSome (fmap.get w.rows p) → Suits w (ArchiveTray p)
archive_suits w p h there =
    let r = value_found _ there in
    subst (λ (o : Option Row). IsSomeAnd o (λ x. (d : Details) → fmap.contains_key w.tray (p, d) ≡ true → has_logged x.holding.purse.log d ≡ true)) (sym r.1)
    (λ d laid. let x = h.results.logged p d laid in subst (λ (s : Row). has_logged s.holding.purse.log d ≡ true) (inside x.0 r.0 (sym x.1 ∙ r.1)) x.2)

-- ---- what is settled

-- settled details, and more of them
also_settled : (settled : Entries) (d : Details) → IsDetails d → AreSettled settled → AreSettled (with_entry settled d)
also_settled settled d details are e has = by_case (is_details e d) refl
  where
    by_case : (b : Bool) → is_details e d ≡ b → IsDetails e
    by_case true same = subst IsDetails (sym (same_details e d same)) details
    by_case false other = are e (grind (arith, has-with_entry settled d e, has, other))

-- a World stays one with settled details more
pub also_settled_stays : (w : World) (d : Details) → IsDetails d → IsWorld w → IsWorld (edited w (AddSettled d))
also_settled_stays w d details h = record {
  tokens = record { operator_bytes = h.tokens.operator_bytes; bytes = h.tokens.bytes; operator = h.tokens.operator; owners = h.tokens.owners; clerks = h.tokens.clerks; holders = h.tokens.holders; single = h.tokens.single };
  members = record { named = h.members.named; granted = h.members.granted; floats = h.members.floats; holders = h.members.holders };
  purses = record { each = λ p r at. let x = h.purses.each p r at in record { text = x.text; named = x.named; holder = x.holder; purse = x.purse }; few = h.purses.few };
  inboxes = record { each = h.inboxes.each };
  lines = record { each = h.lines.each };
  results = record { archived = h.results.archived; details = h.results.details; logged = h.results.logged; apart = h.results.apart };
  settled = also_settled w.settled d details h.settled;
  clears = record { each = λ p r n m at there. may_lie w (edited w (AddSettled d)) (λ q e there. there) p m (h.clears.each p r n m at there) };
  payments = record { each = h.payments.each };
}
