-- Rows are sound exactly where they spell a World.
use Rattle.std.proofs.Common.{◌≡◌, ℕ, ◌+◌, ◌≤◌, List, [], ◌∷◌, length, map, refl, sym, ◌∙◌, ap, subst, Option, Some, None, true, arith}
use Rattle.std.specs.Prelude.{option_map, option_and_then}
use Rattle.std.specs.declared.cmp.Ordering.{Ordering}
use Rattle.std.specs.Ordering.{nat_cmp}
use Rattle.std.specs.Cmp.{nat_cmp_total}
use Rattle.std.specs.List.{AllByRecursion}
use Rattle.std.specs.FinMap as fmap
use Rattle.std.specs.FinMap.Entries.{find}
use Rattle.std.proofs.lemmas.List.{length-map}
use Rattle.mx_pay.specs.Names.{name_cmp}
use Rattle.mx_pay.specs.Details.{Details}
use Rattle.mx_pay.specs.Log.{Entries, has_logged}
use Rattle.mx_purse.specs.declared.message.Message.{Message}
use Rattle.mx_purse.specs.declared.message.Message.TheVariants.{Req, Val, Ack, Clear}
use Rattle.mx_book.specs.declared.values.PurseRow.{PurseRow}
use Rattle.mx_book.specs.declared.values.LineRow.{LineRow}
use Rattle.mx_book.specs.declared.values.Redemption.{Redemption}
use Rattle.mx_book.specs.Maps.{pick}
use Rattle.mx_book.specs.Under.{pair_cmp, under}
use Rattle.mx_book.specs.World.{World, Row, Name}
use Rattle.mx_book.specs.Conditions.{IsWorld, IsPurseRow, IsInbox, AreLines, IsLine, IsPaid, MayLie, MayClear, IsEntry}
use Rattle.mx_book.specs.Rows.{Rows, world_of, row_of, line_at, NoStray, amount_of, mark_of}
use Rattle.mx_book.specs.RowReads.{of_name}
use Rattle.mx_book.specs.Spells.{Spells}
use Rattle.mx_book.proofs.FoundLemmas.{none_found, value_found, some_of, inside}
use Rattle.mx_book.proofs.NameLemmas.{names_total}
use Rattle.mx_book.proofs.MapLemmas.{AllEntries, all_entries, get-pick}
use Rattle.mx_book.proofs.UnderLemmas.{get-under, len-under}
use Rattle.mx_book.proofs.RowLemmas.{there, get_rows, found_row}
use Rattle.mx_book.proofs.ReadLemmas.{those_are, purses_are}
use Rattle.mx_book.proofs.SpellLemmas.{own_world}
use Rattle.mx_audit.specs.Sound.{IsSound, HasPurse, HasMessage, HasLine, IsEntryRow, count_of}
use Rattle.mx_audit.proofs.NumberLemmas.{Below, are_numbered, within}

-- ---- purses

-- what holds of what the rows say of each purse holds of each row of their World
each_row : (r : Rows) (P : Name → Row → Type 0) → ((p : Name) (x : PurseRow) → HasPurse r p x → P p (row_of r p x))
    → (p : Name) (row : Row) → fmap.get (world_of r).rows p ≡ Some row → P p row
each_row r P h p row at = by_case (fmap.get r.purses p) refl (sym (get_rows r p) ∙ at)
  where
    by_case : (o : Option PurseRow) → fmap.get r.purses p ≡ o → option_map (row_of r p) o ≡ Some row → P p row
    by_case None was at = none_found _ row refl at
    by_case (Some x) was at = subst (P p) (inside _ _ at) (h p x was)

-- ---- rows of a purse

-- rows by purse and by another key
abbrev ByPurse : {K : Type 0} → (K → K → Ordering) → Type 0 → Type 0
ByPurse R V = fmap.FinMap (pair_cmp name_cmp R) V

-- the purse of a row is there
purse_of : {K V : Type 0} (R : K → K → Ordering) (r : Rows) (m : ByPurse R V) → NoStray R r.purses m
    → (p : Name) (k : K) (v : V) → fmap.get m (p, k) ≡ Some v → (x : PurseRow) × HasPurse r p x
purse_of R r m none p k v at = by_case (fmap.get r.purses p) refl
  where
    by_case : (o : Option PurseRow) → fmap.get r.purses p ≡ o → (x : PurseRow) × HasPurse r p x
    by_case None gone = none_found _ v (none p k gone) at
    by_case (Some x) is = (x, is)

-- the lines and the redemptions of a purse
abbrev lines_of : Rows → Name → fmap.FinMap nat_cmp LineRow
lines_of r p = under name_cmp nat_cmp p r.lines

abbrev redemptions_of : Rows → Name → fmap.FinMap name_cmp Redemption
redemptions_of r p = under name_cmp name_cmp p r.redemptions

by_number : {V : Type 0} (p : Name) (m : ByPurse nat_cmp V) (n : ℕ) → fmap.get (under name_cmp nat_cmp p m) n ≡ fmap.get m (p, n)
by_number p m n = get-under name_cmp nat_cmp names_total p m n

by_reference : {V : Type 0} (p : Name) (m : ByPurse name_cmp V) (reference : Name)
    → fmap.get (under name_cmp name_cmp p m) reference ≡ fmap.get m (p, reference)
by_reference p m reference = get-under name_cmp name_cmp names_total p m reference

counted : {V : Type 0} (p : Name) (m : ByPurse nat_cmp V) → fmap.len (under name_cmp nat_cmp p m) ≡ count_of p m
counted p m =
    len-under name_cmp nat_cmp names_total p m
    ∙ ap length (those_are p (fmap.entries m))
    ∙ length-map (of_name p (fmap.entries m)) _

-- ---- lines within their limits

lines_each : (es : List (ℕ × LineRow)) → AllEntries (λ n l. IsLine (line_at (n, l))) es → AllByRecursion IsLine (map line_at es)
lines_each [] h = tt
lines_each (e ∷ es) h = (h.0, lines_each es h.1)

each_line : (es : List (ℕ × LineRow)) → AllByRecursion IsLine (map line_at es)
    → (k : ℕ) (l : LineRow) → find nat_cmp k es ≡ Some l → IsLine (line_at (k, l))
each_line [] h k l at = absurd (cc)
each_line (e ∷ es) h k l at = grind (arith, fmap.nat_cmp-IsAntisymmetric k e.0, each_line es h.1 k l)

-- ---- from sound rows to a World

module _ (r : Rows) (h : IsSound r) where
  purse_row : (p : Name) (x : PurseRow) → HasPurse r p x → IsPurseRow (world_of r) p (row_of r p x)
  purse_row p x at = record {
    text = h.purses.text p x at;
    named = h.purses.named p x at;
    holder = h.purses.holder p x at;
    purse = h.purses.purse p x at;
  }

  inbox : (p : Name) (x : PurseRow) → HasPurse r p x → IsInbox (row_of r p x)
  inbox p x at = record {
    few = rw (counted p r.inbox) (h.inboxes.few p x at);
    below = λ n some. let m = value_found _ some in h.inboxes.below p x n m.0 at (sym (by_number p r.inbox n) ∙ m.1);
    next = h.purses.next p x at;
    messages = λ n m is. h.inboxes.messages p n m (sym (by_number p r.inbox n) ∙ is);
  }

  module _ (p : Name) (x : PurseRow) (at : HasPurse r p x) where
    counted_to : length (fmap.entries (lines_of r p)) ≡ x.purse.lines
    counted_to = sym (fmap.len-entries (lines_of r p)) ∙ counted p r.lines ∙ h.lines.counted p x at

    -- what holds of each line of the purse
    of_lines : (P : ℕ → LineRow → Type 0) → ((n : ℕ) (l : LineRow) → HasLine r p n l → P n l) → AllEntries P (fmap.entries (lines_of r p))
    of_lines P each = all_entries nat_cmp_total P (lines_of r p) (λ n l is. each n l (sym (by_number p r.lines n) ∙ is))

    below_end : Below (1 + length (fmap.entries (lines_of r p))) (fmap.entries (lines_of r p))
    below_end = of_lines _ (λ n l is. omega (arith, counted_to, h.lines.most p x n l at is))

    lines : AreLines (row_of r p x)
    lines = record {
      numbered = are_numbered (lines_of r p) (of_lines _ (h.lines.least p)) below_end;
      counted = length-map (fmap.entries (lines_of r p)) line_at ∙ counted_to;
      each = lines_each (fmap.entries (lines_of r p)) (of_lines _ (h.lines.each p));
    }

  lies : (p : Name) (n : ℕ) (m : Message) → HasMessage r p n m → MayLie (world_of r) p m
  lies p n (Clear set) at = record { some = h.clears.some p n set at; archived = λ d. h.clears.archived p n set d at }
  lies p n (Req d) at = tt
  lies p n (Val d) at = tt
  lies p n (Ack d) at = tt

  paid : (p : Name) (x : PurseRow) → IsPaid (row_of r p x)
  paid p x = record {
    loads = λ reference amount is. h.payments.loads p reference amount (sym (by_reference p r.loads reference) ∙ is);
    redemptions = λ reference amount is.
        let amount_is = get-pick names_total amount_of (redemptions_of r p) reference in
        grind (arith, amount_is, by_reference p r.redemptions reference, h.payments.redemptions p reference);
    collected = λ reference is.
        let amount_is = get-pick names_total amount_of (redemptions_of r p) reference in
        grind (arith, amount_is, get-pick names_total mark_of (redemptions_of r p) reference);
  }

  world_sound : IsWorld (world_of r)
  world_sound = record {
    tokens = assumption h.tokens;
    members = assumption h.members;
    purses = record { each = each_row r (IsPurseRow (world_of r)) purse_row; few = λ n. rw (purses_are r n) (h.purses.few n) };
    inboxes = record { each = each_row r (λ p. IsInbox) inbox };
    lines = record { each = each_row r (λ p. AreLines) lines };
    results = record {
      archived = λ p d is. let x = value_found _ (h.results.archived p d is) in some_of _ _ (there r p x.0 x.1);
      details = h.results.details;
      logged = λ p d is. let e = h.results.logged p d is in (row_of r p e.0, there r p e.0 e.1, e.2);
      apart = h.results.apart;
    };
    settled = h.settled;
    clears = record {
      each = λ p row n m at. each_row r (λ p row. fmap.get row.holding.inbox n ≡ Some m → MayLie (world_of r) p m)
          (λ p x at is. lies p n m (sym (by_number p r.inbox n) ∙ is)) p row at;
    };
    payments = record { each = each_row r (λ p. IsPaid) (λ p x at. paid p x) };
  }

pub sound_spells : (r : Rows) → IsSound r → Spells r (world_of r)
sound_spells r h = record { spelled = record { world = refl; proper = h.proper }; sound = world_sound r h }

-- ---- from a World to sound rows

module _ (r : Rows) (h : Spells r (world_of r)) where
  abbrev its : IsWorld (world_of r)
  its = h.sound

  module _ (p : Name) (x : PurseRow) (at : HasPurse r p x) where
    is_purse : IsPurseRow (world_of r) p (row_of r p x)
    is_purse = its.purses.each p (row_of r p x) (there r p x at)

    is_inbox : IsInbox (row_of r p x)
    is_inbox = its.inboxes.each p (row_of r p x) (there r p x at)

    are_lines : AreLines (row_of r p x)
    are_lines = its.lines.each p (row_of r p x) (there r p x at)

    is_paid : IsPaid (row_of r p x)
    is_paid = its.payments.each p (row_of r p x) (there r p x at)

    message_is : (n : ℕ) (m : Message) → HasMessage r p n m → fmap.get (row_of r p x).holding.inbox n ≡ Some m
    message_is n m is = by_number p r.inbox n ∙ is

    line_count : length (fmap.entries (lines_of r p)) ≡ x.purse.lines
    line_count = sym (length-map (fmap.entries (lines_of r p)) line_at) ∙ are_lines.counted

    line_is : (n : ℕ) (l : LineRow) → HasLine r p n l → find nat_cmp n (fmap.entries (lines_of r p)) ≡ Some l
    line_is n l is = sym (fmap.get-entries (lines_of r p) n) ∙ by_number p r.lines n ∙ is

    line_number : (n : ℕ) (l : LineRow) → HasLine r p n l → (1 ≤ n) × (n ≤ x.purse.lines)
    line_number n l is = let at = within 1 _ are_lines.numbered n l (line_is n l is) in (at.0, omega (arith, at.1, line_count))

  purse_of_message : (p : Name) (n : ℕ) (m : Message) → HasMessage r p n m → (x : PurseRow) × HasPurse r p x
  purse_of_message = purse_of nat_cmp r r.inbox h.spelled.proper.inbox

  purse_of_line : (p : Name) (n : ℕ) (l : LineRow) → HasLine r p n l → (x : PurseRow) × HasPurse r p x
  purse_of_line = purse_of nat_cmp r r.lines h.spelled.proper.lines

  redemption_is : (p reference : Name) (e : Redemption) → fmap.get r.redemptions (p, reference) ≡ Some e
      → fmap.get (pick amount_of (redemptions_of r p)) reference ≡ Some e.amount
  redemption_is p reference e is =
      get-pick names_total amount_of (redemptions_of r p) reference
      ∙ ap (option_and_then amount_of) (by_reference p r.redemptions reference ∙ is)

  cleared : (p : Name) (n : ℕ) (set : Entries) → HasMessage r p n (Clear set) → MayClear (world_of r) p set
  cleared p n set is =
      let x = purse_of_message p n (Clear set) is in
      its.clears.each p (row_of r p x.0) n (Clear set) (there r p x.0 x.1) (message_is p x.0 x.1 n (Clear set) is)

  entry : (p : Name) (d : Details) → IsEntry (world_of r) p d → IsEntryRow r p d
  entry p d e = each_row r (λ p row. has_logged row.holding.purse.log d ≡ true → IsEntryRow r p d) (λ p x at is. (x, at, is)) p e.0 e.1 e.2

  rows_sound : IsSound r
  rows_sound = record {
    tokens = assumption its.tokens;
    members = assumption its.members;
    purses = record {
      text = λ p x at. (is_purse p x at).text;
      named = λ p x at. (is_purse p x at).named;
      holder = λ p x at. (is_purse p x at).holder;
      purse = λ p x at. (is_purse p x at).purse;
      next = λ p x at. (is_inbox p x at).next;
      few = λ n. rw (← purses_are r n) (its.purses.few n);
    };
    inboxes = record {
      few = λ p x at. rw (← counted p r.inbox) (is_inbox p x at).few;
      below = λ p x n m at is. (is_inbox p x at).below n (some_of _ m (message_is p x at n m is));
      messages = λ p n m is. let x = purse_of_message p n m is in (is_inbox p x.0 x.1).messages n m (message_is p x.0 x.1 n m is);
    };
    lines = record {
      counted = λ p x at. sym (counted p r.lines) ∙ fmap.len-entries (lines_of r p) ∙ line_count p x at;
      least = λ p n l is. let x = purse_of_line p n l is in (line_number p x.0 x.1 n l is).0;
      most = λ p x n l at is. (line_number p x at n l is).1;
      each = λ p n l is. let x = purse_of_line p n l is in each_line _ (are_lines p x.0 x.1).each n l (line_is p x.0 x.1 n l is);
    };
    results = record {
      archived = λ p d is. let x = found_row r p (its.results.archived p d is) in some_of _ x.0 x.1;
      details = its.results.details;
      logged = λ p d is. entry p d (its.results.logged p d is);
      apart = its.results.apart;
    };
    settled = its.settled;
    clears = record {
      some = λ p n set is. (cleared p n set is).some;
      archived = λ p n set d is. (cleared p n set is).archived d;
    };
    payments = record {
      loads = λ p reference amount is.
          let x = purse_of name_cmp r r.loads h.spelled.proper.loads p reference amount is in
          (is_paid p x.0 x.1).loads reference amount (by_reference p r.loads reference ∙ is);
      redemptions = λ p reference e is.
          let x = purse_of name_cmp r r.redemptions h.spelled.proper.redemptions p reference e is in
          (is_paid p x.0 x.1).redemptions reference e.amount (redemption_is p reference e is);
    };
    proper = h.spelled.proper;
  }

pub spells_sound : (r : Rows) (w : World) → Spells r w → IsSound r
spells_sound r w h = rows_sound r (own_world r w h)
