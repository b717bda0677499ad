-- What a World's conditions say of the rows that spell it.
use Rattle.mx_tables.proofs.Common.{◌≡◌, true, ℕ, ◌+◌, ◌<◌, ◌≤◌, List, [], ◌∷◌, length, refl, Some, None, Option, ◌∙◌, arith, nat_cmp, name_cmp, Name, Rows, PurseRow, AllByRecursion, length-map}
use Rattle.std.proofs.Common.{map, sym, ap, subst}
use Rattle.std.specs.Prelude.{IsSome, option_and_then}
use Rattle.std.specs.declared.cmp.Ordering.{Ordering}
use Rattle.std.specs.FinMap as fmap
use Rattle.mx_pay.specs.Limits.{most_amount, most_number}
use Rattle.mx_book.specs.World.{Token, World}
use Rattle.mx_book.specs.declared.values.Caller.{Caller}
use Rattle.mx_book.specs.declared.values.Caller.TheVariants.{Clerk, Holder, Operator}
use Rattle.mx_book.specs.declared.values.Redemption.{Redemption}
use Rattle.mx_book.proofs.MapLemmas.{get-pick}
use Rattle.mx_cells.specs.Entries.{IsCaller}
use Rattle.mx_book.specs.Reads.{tray_of}
use Rattle.mx_book.specs.RowEdits.{row_tray_of}
use Rattle.mx_tables.specs.Results.{AreDetails, AreEntries}
use Rattle.mx_pay.specs.Details.{Details, IsDetails}
use Rattle.mx_book.specs.Rows.{NoStray, amount_of, world_of, row_of, line_at}
use Rattle.mx_book.specs.Conditions.{IsWorld, IsLine, IsOwner, AreNumbered}
use Rattle.mx_book.specs.Spells.{Spells}
use Rattle.mx_book.proofs.NameLemmas.{names_total}
use Rattle.mx_book.proofs.RowLemmas.{there}
use Rattle.mx_book.proofs.FoundLemmas.{some_of, none_found, value_found}
use Rattle.mx_book.specs.Sums.{sum_values}
use Rattle.mx_book.proofs.SumLemmas.{value_of, sum_values-insert}
use Rattle.mx_book.specs.declared.values.MemberRow.{MemberRow}
use Rattle.mx_pay.specs.Names.{is_name_text}
use Rattle.mx_book.proofs.UnderLemmas.{get-under}
use Rattle.mx_tables.specs.Answers.{AreMessages, HaveNumbers, ArePurses}
use Rattle.mx_purse.specs.State.{State, IsInStatus}
use Rattle.mx_purse.specs.declared.status.Status.{Status}
use Rattle.mx_purse.specs.declared.status.Status.TheVariants.{EaFrom}
use Rattle.mx_book.specs.Under.{pair_cmp, under}
use Rattle.mx_book.specs.declared.values.LineRow.{LineRow}
use Rattle.mx_tables.specs.Pages.{AreLines}

few_lines : (p : State) (s : Status) → IsInStatus p s → p.lines ≤ most_number + 2
few_lines p EaFrom h = h
few_lines p s h = omega (arith, h)

-- a line that is found has a number from the first on, and is within its limits
line_found : (n : ℕ) (x : LineRow) (j : ℕ) (es : List (ℕ × LineRow)) → fmap.find nat_cmp n es ≡ Some x → AllByRecursion IsLine (map line_at es) → AreNumbered j (map line_at es) → (n < j + length es) × IsLine (line_at (n, x))
line_found n x j [] at each numbered = absurd (cc)
line_found n x j (e ∷ es) at each numbered = grind (arith, line_found n x (j + 1) es, fmap.nat_cmp-IsAntisymmetric n e.0)

-- a member's grants are within all of them
granted_within : (m : fmap.FinMap name_cmp MemberRow) (k : Name) (x : MemberRow) → fmap.get m k ≡ Some x → x.granted ≤ sum_values (λ (row : MemberRow). row.granted) m
granted_within m k x at =
    let f = λ (row : MemberRow). row.granted in
    let put : sum_values f (fmap.insert m k (record { granted = 0; float = 0 })) + value_of f (fmap.get m k) ≡ sum_values f m + 0 = sum_values-insert names_total f m k (record { granted = 0; float = 0 }) in
    let one : value_of f (fmap.get m k) ≡ x.granted = ap (value_of f) at in
    omega (arith, put, one)

module _ (r : Rows) (w : World) (h : Spells r w) where
  pub own : IsWorld (world_of r)
  own = subst IsWorld h.spelled.world h.sound

  -- the purse of a row is there
  pub purse_of : {K V : Type 0} (R : K → K → Ordering) (m : fmap.FinMap (pair_cmp name_cmp R) V) → NoStray R r.purses m
      → (k : Name × K) (v : V) → fmap.get m k ≡ Some v → (x : PurseRow) × (fmap.get r.purses k.0 ≡ Some x)
  purse_of R m none k v at = by (fmap.get r.purses k.0) refl
    where
      by : (o : Option PurseRow) → fmap.get r.purses k.0 ≡ o → (x : PurseRow) × (fmap.get r.purses k.0 ≡ Some x)
      by None gone = none_found (fmap.get m k) v (none k.0 k.1 gone) at
      by (Some x) is = (x, is)

  pub messages_valid : AreMessages r
  messages_valid k m at =
      let x = purse_of nat_cmp r.inbox h.spelled.proper.inbox k m at in
      (own.inboxes.each k.0 (row_of r k.0 x.0) (there r k.0 x.0 x.1)).messages k.1 m (get-under name_cmp nat_cmp names_total k.0 r.inbox k.1 ∙ at)

  pub numbers_valid : HaveNumbers r
  numbers_valid k m at =
      let x = purse_of nat_cmp r.inbox h.spelled.proper.inbox k m at in
      let it = own.inboxes.each k.0 (row_of r k.0 x.0) (there r k.0 x.0 x.1) in
      let low = it.below k.1 (rw (get-under name_cmp nat_cmp names_total k.0 r.inbox k.1 ∙ at) refl) in
      omega (arith, low, it.next)

  pub purses_valid : ArePurses r
  purses_valid p x at = let it = own.purses.each p (row_of r p x) (there r p x at) in (it.named, it.purse)

  pub holders_named : (p : Name) (x : PurseRow) → fmap.get r.purses p ≡ Some x → is_name_text x.holder ≡ true
  holders_named p x at =
      let it = own.purses.each p (row_of r p x) (there r p x at) in
      let member = value_found _ it.holder in
      (own.members.holders x.holder member.0 member.1).0

  -- the holder of a purse has a member
  pub holders_there : (p : Name) (x : PurseRow) → fmap.get r.purses p ≡ Some x → IsSome (fmap.get r.holders x.holder)
  holders_there p x at = (own.purses.each p (row_of r p x) (there r p x at)).holder

  pub members_named : (k m : Name) → fmap.get r.holders k ≡ Some m → is_name_text m ≡ true
  members_named k m at = own.members.named m (own.members.holders k m at).1

  pub members_valid : (m : Name) (x : MemberRow) → fmap.get r.members m ≡ Some x → (x.granted ≤ most_number) × (x.float ≤ most_number)
  members_valid m x at = (let part = granted_within r.members m x at in omega (arith, part, own.members.granted), own.members.floats m x at)

  line_valid : (k : Name × ℕ) (x : LineRow) → fmap.get r.lines k ≡ Some x → (k.1 ≤ most_number + 2) × IsLine (line_at (k.1, x))
  line_valid k x at =
      let y = purse_of nat_cmp r.lines h.spelled.proper.lines k x at in
      let row = there r k.0 y.0 y.1 in
      let lines = own.lines.each k.0 (row_of r k.0 y.0) row in
      let m = under name_cmp nat_cmp k.0 r.lines in
      let found = sym (fmap.get-entries m k.1) ∙ get-under name_cmp nat_cmp names_total k.0 r.lines k.1 ∙ at in
      let it = line_found k.1 x 1 (fmap.entries m) found lines.each lines.numbered in
      let few = few_lines y.0.purse y.0.purse.status (own.purses.each k.0 (row_of r k.0 y.0) row).purse.status in
      let size = length-map (fmap.entries m) line_at in
      (omega (arith, it.0, few, size, lines.counted), it.1)

  pub lines_valid : AreLines r
  lines_valid k x at = let it = line_valid k x at in (it.0, it.1.note)

  -- the line of each row is within its limits
  pub lines_sound : (k : Name × ℕ) (x : LineRow) → fmap.get r.lines k ≡ Some x → IsLine (line_at (k.1, x))
  lines_sound k x at = (line_valid k x at).1

  pub callers_valid : (t : Token) (c : Caller) → fmap.get r.tokens t ≡ Some c → IsCaller c
  callers_valid t c at = by c (own.tokens.owners t c at)
    where
      by : (d : Caller) → IsOwner (world_of r) d → IsCaller d
      by Operator never = absurd never
      by (Clerk m) some = own.members.named m some
      by (Holder i) some = let member = value_found _ some in (own.members.holders i member.0 member.1).0

  pub loads_valid : (k : Name × Name) (n : ℕ) → fmap.get r.loads k ≡ Some n → n ≤ most_amount
  loads_valid k n at =
      let x = purse_of name_cmp r.loads h.spelled.proper.loads k n at in
      ((own.payments.each k.0 (row_of r k.0 x.0) (there r k.0 x.0 x.1)).loads k.1 n (get-under name_cmp name_cmp names_total k.0 r.loads k.1 ∙ at)).1

  pub redemption_sound : (k : Name × Name) (x : Redemption) → fmap.get r.redemptions k ≡ Some x → (is_name_text k.1 ≡ true) × (x.amount ≤ most_amount)
  redemption_sound k e at =
      let x = purse_of name_cmp r.redemptions h.spelled.proper.redemptions k e at in
      let is = get-pick names_total amount_of (under name_cmp name_cmp k.0 r.redemptions) k.1 ∙ ap (option_and_then amount_of) (get-under name_cmp name_cmp names_total k.0 r.redemptions k.1 ∙ at) in
      (own.payments.each k.0 (row_of r k.0 x.0) (there r k.0 x.0 x.1)).redemptions k.1 e.amount is

  pub redemptions_valid : (k : Name × Name) (x : Redemption) → fmap.get r.redemptions k ≡ Some x → x.amount ≤ most_amount
  redemptions_valid k x at = (redemption_sound k x at).1

  -- a purse has a name, and so has a member
  pub purses_named : (p : Name) (x : PurseRow) → fmap.get r.purses p ≡ Some x → is_name_text p ≡ true
  purses_named p x at = (own.purses.each p (row_of r p x) (there r p x at)).text

  pub keys_named : (m : Name) (x : MemberRow) → fmap.get r.members m ≡ Some x → is_name_text m ≡ true
  keys_named m x at = own.members.named m (some_of (fmap.get r.members m) x at)

  pub archive_valid : AreDetails r.archive
  archive_valid k x at = own.results.details k.0 k.1 (some_of (fmap.get r.archive k) x at)

  pub settled_valid : (d : Details) (x : Unit {0}) → fmap.get r.settled d ≡ Some x → IsDetails d
  settled_valid d x at = own.settled d (some_of (fmap.get r.settled d) x at)

  pub entries_valid : AreEntries r
  entries_valid = record { archive = archive_valid; settled = own.settled }

  pub tray_valid : AreDetails r.tray
  tray_valid k x at =
      let entry = own.results.logged k.0 k.1 (some_of (fmap.get r.tray k) x at) in
      (own.purses.each k.0 entry.0 entry.1).purse.log.entries k.1 entry.2

  pub tray_as : (p : Name) → row_tray_of r p ≡ tray_of w p
  tray_as p = ap (λ (v : World). tray_of v p) (sym h.spelled.world)
