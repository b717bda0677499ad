-- New purses and results that are archived keep the invariant.
use Rattle.std.proofs.Common.{◌≡◌, Bool, true, false, cond, refl, sym, ◌∙◌, ap, Option, Some, None, not, ◌&&◌, ◌||◌, inl, arith, is_some}
use Rattle.std.proofs.lemmas.Bool.{or_left}
use Rattle.std.specs.Ordering.{nat_cmp}
use Rattle.std.specs.FinMap as fmap
use Rattle.mx_pay.specs.Details.{Details}
use Rattle.mx_pay.specs.Log.{has_logged, none_logged}
use Rattle.mx_pay.specs.Names.{is_name}
use Rattle.mx_pay.proofs.SameLemmas.{has-none_logged}
use Rattle.mx_purse.specs.declared.status.Status.{Status}
use Rattle.mx_purse.specs.Operations.{expects_req, expects_val, expects_ack}
use Rattle.mx_book.specs.Reads.{is_archived}
use Rattle.mx_book.specs.Totals.{issued_row, redeemed_row}
use Rattle.mx_book.specs.World.{World, Row, Name, set_row, new_row, with_archived}
use Rattle.mx_book.proofs.ResultLemmas.{then_archived, left_in_tray}
use Rattle.mx_office.proofs.AccountLemmas.{in_tray}
use Rattle.mx_office.proofs.EntrySumLemmas.{sum_values-empty}
use Rattle.mx_office.proofs.SeenLemmas.{Seen, Step, clash, not_true, either_true, both_parts, neither, or_cases, timely-step, known-step}
use Rattle.mx_office.proofs.SoundLemmas.{sound_like}
use Rattle.mx_office.proofs.SeenWorldLemmas.{Invariant, seen, side, has_status, entry_of, is_past, flow-same, over_set, kept_with}
use Rattle.mx_office.proofs.OutLemmas.{Books, books_keep}
use Rattle.mx_office.proofs.DeedLemmas.{not_some}
use Rattle.mx_office.proofs.SaneLemmas.{Sane, IsNextSane, stays_lost}

-- ---- worlds that look alike

-- a step between worlds in which each payment looks alike, and no more is archived than there
pub like_step : (o n : Seen) → ((d : Details) → n.gone d ≡ o.gone d) → ((d : Details) → n.due d ≡ o.due d) → ((d : Details) → n.epr d ≡ o.epr d) → ((d : Details) → n.epv d ≡ o.epv d)
    → ((d : Details) → o.from_past d ≡ true → n.from_past d ≡ true) → ((d : Details) → o.to_past d ≡ true → n.to_past d ≡ true) → ((p : Name) (d : Details) → o.archived p d ≡ true → n.archived p d ≡ true)
    → ((p : Name) (d : Details) → o.kept p d ≡ true → n.kept p d ≡ true) → Step o n
like_step o n gone due epr epv from to archived kept = record {
  epr = λ d t. inl (sym (epr d) ∙ t);
  epv = λ d t. inl (sym (epv d) ∙ t);
  from_past = from;
  to_past = to;
  due_stays = λ d t. inl (due d ∙ t);
  due_new = λ d t. inl (sym (due d) ∙ t);
  gone_stays = λ d t. inl (gone d ∙ t);
  gone_new = λ d t. inl (sym (gone d) ∙ t);
  archived = archived;
  kept = kept;
}

-- ---- a new row

module _ (w : World) (p h : Name) (none : fmap.get w.rows p ≡ None) (s : Sane w) where
  over_new : (Rel : Option Row → Option Row → Type 0) (q : Name) → ((o : Option Row) → Rel o o) → Rel None (Some (new_row h p)) → Rel (fmap.get w.rows q) (fmap.get (set_row w p (new_row h p)).rows q)
  over_new Rel q stays changes = over_set w p None (new_row h p) none Rel q stays (λ _. changes)

  pub new_gone : (d : Details) → (seen (set_row w p (new_row h p))).gone d ≡ (seen w).gone d
  new_gone d = over_new (λ a b. side expects_ack b (is_archived w d.from d) d ≡ side expects_ack a (is_archived w d.from d) d) d.from (λ o. refl) (ap (λ x. x || is_archived w d.from d) (has-none_logged d))

  pub new_due : (d : Details) → (seen (set_row w p (new_row h p))).due d ≡ (seen w).due d
  new_due d = over_new (λ a b. side expects_val b (is_archived w d.to d) d ≡ side expects_val a (is_archived w d.to d) d) d.to (λ o. refl) (ap (λ x. x || is_archived w d.to d) (has-none_logged d))

  pub new_step : Step (seen w) (seen (set_row w p (new_row h p)))
  new_step = like_step _ _ new_gone new_due
      (λ d. over_new (λ a b. has_status expects_req b d ≡ has_status expects_req a d) d.from (λ o. refl) refl)
      (λ d. over_new (λ a b. has_status expects_val b d ≡ has_status expects_val a d) d.to (λ o. refl) refl)
      (λ d. over_new (λ a b. is_past a d.from_seq ≡ true → is_past b d.from_seq ≡ true) d.from (λ o t. t) (λ t. clash false t refl))
      (λ d. over_new (λ a b. is_past a d.to_seq ≡ true → is_past b d.to_seq ≡ true) d.to (λ o t. t) (λ t. clash false t refl))
      (λ x d t. t)
      (λ x d. over_new (λ a b. entry_of a (is_archived w x d) d ≡ true → entry_of b (is_archived w x d) d ≡ true) x (λ o t. t) (λ t. either_true (has_logged none_logged d) _ t))

  pub no_archive : (d : Details) → is_archived w p d ≡ false
  no_archive d = not_true _ (λ t. clash false (ap is_some (sym none) ∙ s.invariant.held p d t) refl)

  no_tray : (d : Details) → in_tray w p d ≡ false
  no_tray d = not_true _ (λ t. clash false (ap is_some (sym none) ∙ s.invariant.shelf p d t) refl)

  pub new_sane : IsNextSane w (set_row w p (new_row h p))
  new_sane =
      let y : Row = new_row h p in
      let redeemed : redeemed_row y ≡ 0 = sum_values-empty (λ n. n) in
      let issued : issued_row y ≡ 0 = sum_values-empty (λ n. n) in
      record {
        sane = record {
          invariant = kept_with w p None y none s.invariant new_step
              (record { present = tt; entries = λ d t. clash (has_logged none_logged d || is_archived w p d) t (ap (λ x. x || is_archived w p d) (has-none_logged d) ∙ no_archive d) }) refl
              (λ k m e. not_some m (sym (fmap.get-empty nat_cmp k) ∙ e)) (λ c u. clash _ u (no_tray c));
          books = books_keep w p None y none s.books (λ d. flow-same (set_row w p y) w d (new_gone d) (new_due d) refl) (omega (arith, redeemed, issued));
        };
        lost = stays_lost w (set_row w p y) new_step;
      }

-- ---- results that are archived

absorb : (l a m : Bool) → (m ≡ true → l ≡ true) → (l || (a || m)) ≡ (l || a)
absorb true a m h = refl
absorb false true m h = refl
absorb false false true h = sym (h refl)
absorb false false false h = refl

widen_or : (l a m : Bool) → (l || a) ≡ true → (l || (a || m)) ≡ true
widen_or true a m h = refl
widen_or false a m h = or_left a m h

not_false : (b : Bool) → not b ≡ true → b ≡ false
not_false true h = sym h
not_false false h = refl

module _ (w : World) (p : Name) (s : Sane w) where
  -- what was in the tray of the purse
  abbrev was_laid : Name → Details → Bool
  was_laid x c = in_tray w x c && is_name p x

  laid_tray : (x : Name) (c : Details) → was_laid x c ≡ true → in_tray w x c ≡ true
  laid_tray x c t = (both_parts (in_tray w x c) _ t).0

  now_archived : (x : Name) (c : Details) → is_archived (with_archived w p) x c ≡ (is_archived w x c || was_laid x c)
  now_archived x c = then_archived w p (x, c)

  mark_same : (x : Name) (c : Details) (r : Row) → fmap.get w.rows x ≡ Some r → (has_logged r.holding.purse.log c || is_archived (with_archived w p) x c) ≡ (has_logged r.holding.purse.log c || is_archived w x c)
  mark_same x c r at = ap (λ y. has_logged r.holding.purse.log c || y) (now_archived x c) ∙ absorb _ (is_archived w x c) _ (λ t. s.invariant.tray x c (laid_tray x c t) r at)

  pub side_same : (f : Status → Details → Bool) (x : Name) (c : Details) (o : Option Row) → fmap.get w.rows x ≡ o → side f o (is_archived (with_archived w p) x c) c ≡ side f o (is_archived w x c) c
  side_same f x c None at = now_archived x c ∙ absorb false (is_archived w x c) _ (λ t. clash false (ap is_some (sym at) ∙ s.invariant.shelf x c (laid_tray x c t)) refl)
  side_same f x c (Some r) at = ap (λ y. f r.holding.purse.status c || y) (mark_same x c r at)

  entry_widens : (o : Option Row) (x : Name) (c : Details) → entry_of o (is_archived w x c) c ≡ true → entry_of o (is_archived (with_archived w p) x c) c ≡ true
  entry_widens None x c t = now_archived x c ∙ or_left _ _ t
  entry_widens (Some r) x c t = ap (λ y. has_logged r.holding.purse.log c || y) (now_archived x c) ∙ widen_or _ (is_archived w x c) _ t

  pub archive_step : Step (seen w) (seen (with_archived w p))
  archive_step = like_step _ _ (λ d. side_same expects_ack d.from d _ refl) (λ d. side_same expects_val d.to d _ refl) (λ d. refl) (λ d. refl) (λ d t. t) (λ d t. t)
      (λ x d t. now_archived x d ∙ or_left _ _ t) (λ x d. entry_widens (fmap.get w.rows x) x d)

  still_tray : (x : Name) (c : Details) → in_tray (with_archived w p) x c ≡ true → (in_tray w x c ≡ true) × (not (is_name p x) ≡ true)
  still_tray x c t = both_parts _ _ (sym (left_in_tray w p (x, c)) ∙ t)

  pub archive_sane : IsNextSane w (with_archived w p)
  archive_sane =
      let i : Invariant w = s.invariant in
      let b : Books w = s.books in
      record {
        sane = record {
          invariant = record {
            named = i.named;
            sound = λ x r at. sound_like r.holding.purse r.holding.purse (is_archived w x) (is_archived (with_archived w p) x) (record { name = refl; next = λ k h. h; marks = λ c. mark_same x c r at }) refl (omega arith) (i.sound x r at);
            held = λ x c t. or_cases (is_archived w x c) _ (i.held x c) (λ m. i.shelf x c (laid_tray x c m)) (sym (now_archived x c) ∙ t);
            tray = λ x c t. i.tray x c (still_tray x c t).0;
            shelf = λ x c t. i.shelf x c (still_tray x c t).0;
            once = λ x c t. now_archived x c ∙ (λ k. i.once x c (still_tray x c t).0 k || neither (in_tray w x c) _ (not_false _ (still_tray x c t).1) k);
            settled = λ d t. let x = i.settled d t in (now_archived d.from d ∙ or_left _ _ x.0, now_archived d.to d ∙ or_left _ _ x.1);
            timely = λ x r at k m e. timely-step _ _ archive_step x m (i.timely x r at k m e);
            known = known-step _ _ archive_step i.known;
          };
          books = record {
            out = b.out;
            covers = λ d. b.covers d ∙ ap (λ x. cond x d.value 0) (sym (flow-same (with_archived w p) w d (side_same expects_ack d.from d _ refl) (side_same expects_val d.to d _ refl) refl));
            equal = b.equal;
          };
        };
        lost = stays_lost w (with_archived w p) archive_step;
      }
