-- Loads, and redemptions that are collected, keep the invariant.
use Rattle.std.proofs.Common.{◌≡◌, ℕ, ◌+◌, Bool, true, false, cond, refl, sym, ◌∙◌, ap, subst, Option, Some, None, ◌||◌, ◌&&◌, not, arith, is_some, is_none, option_map}
use Rattle.std.specs.Prelude.{nat_lt}
use Rattle.std.specs.FinMap as fmap
use Rattle.mx_pay.specs.Details.{Details, is_details}
use Rattle.mx_pay.specs.Log.{has_logged, with_entry}
use Rattle.mx_pay.specs.Names.{name_cmp}
use Rattle.mx_purse.specs.declared.message.Message.{Message}
use Rattle.mx_purse.specs.declared.refusals.LoadRefusal.{LoadRefusal}
use Rattle.mx_purse.specs.declared.refusals.CreditRefusal.{CreditRefusal}
use Rattle.mx_purse.specs.Operations.{expects_req, expects_val, expects_ack, load_refusal, loaded, credit_refusal, credited}
use Rattle.mx_book.specs.declared.values.LineKind.TheVariants as kind
use Rattle.mx_book.specs.Reads.{is_archived, is_settled}
use Rattle.mx_book.specs.Sums.{sum_values}
use Rattle.mx_book.specs.Totals.{of_all, balance_row, issued_row, redeemed_row}
use Rattle.mx_book.specs.World.{World, Row, Holding, Name, set_row, is_of_member, with_collected, all_collected}
use Rattle.mx_book.proofs.FoundLemmas.{inside}
use Rattle.mx_book.proofs.NameLemmas.{names_exact}
use Rattle.mx_book.proofs.UnderLemmas.{get-remake}
use Rattle.mx_office.specs.Step.{with_purse, money_line, payment_line, loaded_holding, loaded_row, settled_holding, settled_row, with_settled}
use Rattle.mx_office.proofs.AccountLemmas.{in_tray}
use Rattle.mx_office.proofs.EntrySumLemmas.{sum_values-new, sum_values-remake, sum_entries-same, values_are}
use Rattle.mx_office.proofs.SeenLemmas.{Step, IsTimely, neither, or_cases, timely-step, known-step}
use Rattle.mx_office.proofs.MoveCaseLemmas.{IsSettlement}
use Rattle.mx_pay.proofs.SameLemmas.{same_details, details_itself, has-with_entry}
use Rattle.mx_office.proofs.SoundLemmas.{IsSound, Turns, details_turned, none_moves, still}
use Rattle.mx_office.proofs.SeenWorldLemmas.{Invariant, seen, side, has_status, entry_of, is_past, flowing, flow-same, archived_flows, turn_step, turn_out, turn_flow, turn_keeps}
use Rattle.mx_office.proofs.OutLemmas.{Books, books_keep, books_turn}
use Rattle.mx_office.proofs.DeedLemmas.{not_some}
use Rattle.mx_office.proofs.SaneLemmas.{Sane, IsNextSane, stays_lost}
use Rattle.mx_office.proofs.SaneRowLemmas.{like_step}

-- ---- a load

module _ (w : World) (p : Name) (r : Row) (at : fmap.get w.rows p ≡ Some r) (s : Sane w) (amount : ℕ) (reference : Name) (new : fmap.get r.loads reference ≡ None) where
  -- the row, where the guard of the load answers so
  abbrev loaded_by_guard : Option LoadRefusal → Row
  loaded_by_guard o = record r {
    holding = cond (is_none o) (with_purse r.holding (loaded r.holding.purse amount) (Some (money_line (loaded r.holding.purse amount) kind.Loaded amount reference))) r.holding;
    loads = fmap.insert r.loads reference amount;
  }

  load_guarded : (o : Option LoadRefusal) → o ≡ None → IsNextSane w (set_row w p (loaded_by_guard o))
  load_guarded (Some x) e = not_some x (sym e)
  load_guarded None e =
      let t : Row = loaded_by_guard None in
      let q : Turns (seen w) (is_archived w p) none_moves r.holding.purse t.holding.purse = still (seen w) (is_archived w p) r.holding.purse (r.holding.purse.balance + amount) (r.holding.purse.lines + 1) (omega arith) (s.invariant.sound p r at) in
      let sum : issued_row t ≡ issued_row r + amount = sum_values-new (λ n. n) r.loads reference amount new in
      record {
        sane = record {
          invariant = turn_keeps w p r t at s.invariant none_moves q (s.invariant.timely p r at) (λ d h. s.invariant.tray p d h r at);
          books = books_keep w p (Some r) t at s.books (λ d. turn_flow w p r t at s.invariant none_moves q d refl) (omega (arith, sum));
        };
        lost = stays_lost w (set_row w p t) (turn_step w p r t at s.invariant none_moves q);
      }

  pub load_sane : load_refusal r.holding.purse amount ≡ None → IsNextSane w (set_row w p (loaded_row amount reference r))
  unfolding loaded_holding
  load_sane e = load_guarded (load_refusal r.holding.purse amount) e

-- ---- a settlement

module _ (w : World) (s : Sane w) (d : Details) (m : IsSettlement w d) where
  -- the row, and the World, where the guard of the credit answers so
  abbrev pub credited_by_guard : Option CreditRefusal → Row
  credited_by_guard o = record m.row {
    holding = cond (is_none o) (with_purse m.row.holding (credited m.row.holding.purse d.value) (Some (payment_line (credited m.row.holding.purse d.value) kind.Settled d))) m.row.holding;
  }

  abbrev pub settled_by_guard : Option CreditRefusal → World
  settled_by_guard o = with_settled (set_row w d.from (credited_by_guard o)) d

  pub settle_turns : Turns (seen w) (is_archived w d.from) none_moves m.row.holding.purse (credited_by_guard None).holding.purse
  settle_turns = still (seen w) (is_archived w d.from) m.row.holding.purse (m.row.holding.purse.balance + d.value) (m.row.holding.purse.lines + 1) (omega arith) (s.invariant.sound d.from m.row m.at)

  -- it was under way, and isn't any more
  pub settle_flowed : flowing w d ≡ true
  settle_flowed = archived_flows w d m.from m.to m.fresh

  pub settle_rests : flowing (settled_by_guard None) d ≡ false
  settle_rests = neither _ _ (ap not (has-with_entry w.settled d d ∙ ap (λ b. b || has_logged w.settled d) (details_itself d)))

  pub others_flow : (c : Details) → is_details d c ≡ false → flowing (settled_by_guard None) c ≡ flowing w c
  others_flow c apart =
      let same : is_settled (settled_by_guard None) c ≡ is_settled w c = has-with_entry w.settled d c ∙ ap (λ b. b || has_logged w.settled c) (details_turned c d ∙ apart) in
      (λ k. turn_out w d.from m.row (credited_by_guard None) m.at s.invariant none_moves settle_turns c refl k && not (same k))

  settle_guarded : (o : Option CreditRefusal) → o ≡ None → IsNextSane w (settled_by_guard o)
  settle_guarded (Some x) e = not_some x (sym e)
  settle_guarded None e =
      let i : Invariant w = s.invariant in
      let t : Row = credited_by_guard None in
      let j : Invariant (set_row w d.from t) = turn_keeps w d.from m.row t m.at i none_moves settle_turns (i.timely d.from m.row m.at) (λ c h. i.tray d.from c h m.row m.at) in
      record {
        sane = record {
          invariant = record {
            named = j.named;
            sound = j.sound;
            held = j.held;
            tray = j.tray;
            shelf = j.shelf;
            once = j.once;
            settled = λ c h. or_cases (is_details c d) _ (λ same. subst (λ (x : Details). (is_archived w x.from x ≡ true) × (is_archived w x.to x ≡ true)) (sym (same_details c d same)) (m.from, m.to)) (i.settled c)
                (sym (has-with_entry w.settled d c) ∙ h);
            timely = j.timely;
            known = j.known;
          };
          books = books_turn w d.from (Some m.row) t m.at s.books (with_entry w.settled d) d others_flow 0 d.value (ap (λ b. cond b d.value 0) (sym settle_rests)) (ap (λ b. cond b d.value 0) (sym settle_flowed)) (omega arith);
        };
        lost = stays_lost w (set_row w d.from t) (turn_step w d.from m.row t m.at i none_moves settle_turns);
      }

  pub settle_sane : IsNextSane w (with_settled (set_row w d.from (settled_row d m.row)) d)
  unfolding settled_holding
  settle_sane = settle_guarded (credit_refusal m.row.holding.purse d.value) m.free

-- ---- redemptions that are collected

module _ (w : World) (m : Name) (s : Sane w) where
  -- the row that stands in the place of another
  abbrev collected_as : Name → Row → Row
  collected_as p r = cond (is_of_member w m r) (with_collected r) r

  abbrev collected_world : World
  collected_world = all_collected w m

  collected_as_case : (P : Holding → Type 0) (r : Row) (b : Bool) → P r.holding → P (cond b (with_collected r) r).holding
  collected_as_case P r true h = h
  collected_as_case P r false h = h

  taken_number : (f : Row → ℕ) (r : Row) (b : Bool) → f (with_collected r) ≡ f r → f (cond b (with_collected r) r) ≡ f r
  taken_number f r true same = same
  taken_number f r false same = refl

  -- what relates the rows at a name before and after, where it looks at what is the holder's own alone
  over_taken : (Rel : Option Row → Option Row → Type 0) (q : Name) → Rel None None → ((r : Row) → Rel (Some r) (Some (collected_as q r))) → Rel (fmap.get w.rows q) (fmap.get collected_world.rows q)
  over_taken Rel q none some = subst (λ o. Rel (fmap.get w.rows q) o) (sym (get-remake name_cmp collected_as names_exact w.rows q)) (row_case (fmap.get w.rows q))
    where
      row_case : (o : Option Row) → Rel o (option_map (collected_as q) o)
      row_case None = none
      row_case (Some r) = some r

  over_rows : (P : Name → Holding → Type 0) → ((x : Name) (r : Row) → fmap.get w.rows x ≡ Some r → P x r.holding) → (x : Name) (y : Row) → fmap.get collected_world.rows x ≡ Some y → P x y.holding
  over_rows P old x y e = back (fmap.get w.rows x) refl (sym (get-remake name_cmp collected_as names_exact w.rows x) ∙ e)
    where
      back : (o : Option Row) → fmap.get w.rows x ≡ o → option_map (collected_as x) o ≡ Some y → P x y.holding
      back None at h = not_some y h
      back (Some r) at h = subst (λ z. P x z.holding) (inside (collected_as x r) y h) (collected_as_case (P x) r (is_of_member w m r) (old x r at))

  collect_gone : (d : Details) → (seen collected_world).gone d ≡ (seen w).gone d
  collect_gone d = over_taken (λ a b. side expects_ack b (is_archived w d.from d) d ≡ side expects_ack a (is_archived w d.from d) d) d.from refl
      (λ r. collected_as_case (λ h. (expects_ack h.purse.status d || (has_logged h.purse.log d || is_archived w d.from d)) ≡ side expects_ack (Some r) (is_archived w d.from d) d) r (is_of_member w m r) refl)

  collect_due : (d : Details) → (seen collected_world).due d ≡ (seen w).due d
  collect_due d = over_taken (λ a b. side expects_val b (is_archived w d.to d) d ≡ side expects_val a (is_archived w d.to d) d) d.to refl
      (λ r. collected_as_case (λ h. (expects_val h.purse.status d || (has_logged h.purse.log d || is_archived w d.to d)) ≡ side expects_val (Some r) (is_archived w d.to d) d) r (is_of_member w m r) refl)

  collect_step : Step (seen w) (seen collected_world)
  collect_step = like_step _ _ collect_gone collect_due
      (λ d. over_taken (λ a b. has_status expects_req b d ≡ has_status expects_req a d) d.from refl (λ r. collected_as_case (λ h. expects_req h.purse.status d ≡ expects_req r.holding.purse.status d) r (is_of_member w m r) refl))
      (λ d. over_taken (λ a b. has_status expects_val b d ≡ has_status expects_val a d) d.to refl (λ r. collected_as_case (λ h. expects_val h.purse.status d ≡ expects_val r.holding.purse.status d) r (is_of_member w m r) refl))
      (λ d. over_taken (λ a b. is_past a d.from_seq ≡ true → is_past b d.from_seq ≡ true) d.from (λ t. t) (λ r t. collected_as_case (λ h. nat_lt d.from_seq h.purse.next ≡ true) r (is_of_member w m r) t))
      (λ d. over_taken (λ a b. is_past a d.to_seq ≡ true → is_past b d.to_seq ≡ true) d.to (λ t. t) (λ r t. collected_as_case (λ h. nat_lt d.to_seq h.purse.next ≡ true) r (is_of_member w m r) t))
      (λ x d t. t)
      (λ x d. over_taken (λ a b. entry_of a (is_archived w x d) d ≡ true → entry_of b (is_archived w x d) d ≡ true) x (λ t. t) (λ r t. collected_as_case (λ h. (has_logged h.purse.log d || is_archived w x d) ≡ true) r (is_of_member w m r) t))

  -- a number of each row that doesn't look at what is collected
  pub same_sum : (f : Row → ℕ) → ((r : Row) → f (with_collected r) ≡ f r) → of_all collected_world f ≡ of_all w f
  same_sum f same =
      sum_values-remake collected_as f w.rows
      ∙ sum_entries-same (λ p r. f (collected_as p r)) (λ p r. f r) w.rows (λ p r _. taken_number f r (is_of_member w m r) (same r))
      ∙ sym (values_are f w.rows)

  pub collect_sane : IsNextSane w collected_world
  collect_sane =
      let i : Invariant w = s.invariant in
      let b : Books w = s.books in
      record {
        sane = record {
          invariant = record {
            named = over_rows (λ x a. a.purse.name ≡ x) i.named;
            sound = over_rows (λ x a. IsSound a.purse (is_archived w x)) i.sound;
            held = λ q d t. over_taken (λ x y. is_some x ≡ true → is_some y ≡ true) q (λ u. u) (λ r u. refl) (i.held q d t);
            tray = λ q d t y e. over_rows (λ x a. (c : Details) → in_tray w x c ≡ true → has_logged a.purse.log c ≡ true) (λ x z at c u. i.tray x c u z at) q y e d t;
            shelf = λ q d t. over_taken (λ x y. is_some x ≡ true → is_some y ≡ true) q (λ u. u) (λ r u. refl) (i.shelf q d t);
            once = i.once;
            settled = i.settled;
            timely = over_rows (λ x a. (k : ℕ) (n : Message) → fmap.get a.inbox k ≡ Some n → IsTimely (seen collected_world) x n) (λ x r at k n e. timely-step _ _ collect_step x n (i.timely x r at k n e));
            known = known-step _ _ collect_step i.known;
          };
          books = record {
            out = b.out;
            covers = λ d. b.covers d ∙ ap (λ x. cond x d.value 0) (sym (flow-same collected_world w d (collect_gone d) (collect_due d) refl));
            equal = (λ k. (same_sum balance_row (λ r. refl) k + sum_values (λ n. n) b.out) + same_sum redeemed_row (λ r. refl) k) ∙ b.equal ∙ sym (same_sum issued_row (λ r. refl));
          };
        };
        lost = stays_lost w collected_world collect_step;
      }
