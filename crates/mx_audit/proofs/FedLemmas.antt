-- Rows that the audit went over, and that were whole in the end, are sound.
use Rattle.std.proofs.Common.{◌≡◌, inl, inr, ℕ, ◌≤◌, List, [], ◌∷◌, length, filter, ◌&&◌, refl, sym, ◌∙◌, ap, subst, Option, Some, None, IsSome, IsTrue, Bool, true, is_some, arith}
use Rattle.std.specs.Prelude.{option_map, nat_le}
use Rattle.std.specs.Ordering.{nat_cmp, eq_by_cmp}
use Rattle.std.specs.Cmp.{IsTotalOrder, nat_cmp_total}
use Rattle.std.specs.List.{AllByRecursion, list_any}
use Rattle.std.specs.FinMap as fmap
use Rattle.std.specs.FinMap.{IsAntisymmetric, nat_cmp-IsAntisymmetric}
use Rattle.std.specs.FinMap.Entries.{find}
use Rattle.std.proofs.lemmas.Bool.{cases_Bool}
use Rattle.std.proofs.lemmas.Bool.Decides.{nat_tests}
use Rattle.std.proofs.lemmas.List.{length-map}
use Rattle.sqlite_keyed.proofs.ListLemmas.{all_map}
use Rattle.mx_pay.specs.Details.{Details, IsDetails, details_cmp}
use Rattle.mx_pay.specs.Log.{has_logged}
use Rattle.mx_pay.specs.Names.{name_cmp, is_name_text}
use Rattle.mx_pay.specs.Orders.{details_exact}
use Rattle.mx_pay.specs.Tokens.{token_cmp}
use Rattle.mx_pay.proofs.LogLemmas.{details_total}
use Rattle.mx_pay.proofs.TestLemmas.{is_equal}
use Rattle.mx_purse.specs.declared.message.Message.{Message}
use Rattle.mx_purse.specs.declared.message.Message.TheVariants.{Clear}
use Rattle.mx_book.specs.Limits.{most_purses}
use Rattle.mx_book.specs.World.{Name, Token, result_cmp}
use Rattle.mx_book.specs.Rows.{Rows, IsProper}
use Rattle.mx_book.specs.RowReads.{purse_rows_of}
use Rattle.mx_book.specs.Sums.{sum_values}
use Rattle.mx_book.specs.Under.{pair_cmp}
use Rattle.mx_book.specs.declared.values.Caller.{Caller}
use Rattle.mx_book.specs.declared.values.Caller.TheVariants.{Operator, Clerk, Holder}
use Rattle.mx_book.specs.declared.values.LineRow.{LineRow}
use Rattle.mx_book.specs.declared.values.MemberRow.{MemberRow}
use Rattle.mx_book.specs.declared.values.PurseRow.{PurseRow}
use Rattle.mx_book.specs.declared.values.Redemption.{Redemption}
use Rattle.mx_book.proofs.FoundLemmas.{value_found, some_of, none_some}
use Rattle.mx_book.proofs.NameLemmas.{names_total, names_exact, same_name}
use Rattle.mx_book.proofs.ResultLemmas.{results_total, results_exact}
use Rattle.mx_book.proofs.RowLemmas.{keys_total, keys_exact}
use Rattle.mx_book.proofs.UnderLemmas.{pair_total, pair_exact}
use Rattle.mx_cells.specs.Entries.{IsTokenRow, IsMemberRow, IsHolderRow, IsPurseRow, IsMessageRow, IsLineRow, IsResultRow, IsLoadRow, IsRedemptionRow}
use Rattle.mx_tables.proofs.MapLists.{AreDistinct}
use Rattle.mx_audit.specs.Seen.{Seen, so_where, is_whole, is_whole_holder, is_whole_purse}
use Rattle.mx_audit.specs.Sound.{IsSound, IsOwnerRow, HasTokenRow, HasPurse, HasMessage, HasLine, IsArchived, SoundTokens, SoundMembers, SoundPurses, SoundInboxes, SoundLines, SoundResults, SoundClears, SoundPayments, count_of}
use Rattle.mx_audit.specs.Fed.{Fed, AreLimited, Lists, IsListed, CallersDiffer, marked, seen_fed, Laid, Cleared}
use Rattle.mx_audit.proofs.ListedLemmas.{all_values, value_passes, of_found, get_listed, of_each, some_row, as_many, same_sum}
use Rattle.mx_audit.proofs.SeenLemmas.{after_all, is_clerk, is_owner, is_held, is_of, members_seen, holders_seen, purses_seen, holder_seen, purse_seen}
use Rattle.mx_audit.proofs.KnownLemmas.{has_member, has_owner, has_holder, is_awaited, is_counted}
use Rattle.mx_audit.proofs.FitLemmas.{Fits, seen_fits}

pub numbers_total : IsTotalOrder (pair_cmp name_cmp nat_cmp)
numbers_total = pair_total names_total nat_cmp_total

pub numbers_exact : IsAntisymmetric (pair_cmp name_cmp nat_cmp)
numbers_exact = pair_exact names_exact nat_cmp-IsAntisymmetric

-- ---- whole

all_four : (a b c d : Bool) → (a && b && c && d) ≡ true → (a ≡ true) × (b ≡ true) × (c ≡ true) × (d ≡ true)
all_four a b c d h = (grind arith, grind arith, grind arith, grind arith)

four_all : (a b c d : Bool) → a ≡ true → b ≡ true → c ≡ true → d ≡ true → (a && b && c && d) ≡ true
four_all a b c d p q r s = grind arith

-- the operator has a token, and what was seen of each member, holder and purse is whole
pub record IsWhole (s : Seen) : Type 0 where
  pub operator : is_some s.operator ≡ true
  pub members : all_values (λ b. b) s.members ≡ true
  pub holders : all_values is_whole_holder s.holders ≡ true
  pub purses : all_values is_whole_purse s.purses ≡ true

whole_parts : (s : Seen) → is_whole s ≡ true → IsWhole s
whole_parts s h = let parts = all_four _ _ _ _ h in record { operator = parts.0; members = parts.1; holders = parts.2; purses = parts.3 }

pub parts_whole : (s : Seen) → IsWhole s → is_whole s ≡ true
parts_whole s h = four_all _ _ _ _ h.operator h.members h.holders h.purses

-- ---- what isn't there

nothing : {X : Type 0} (o : Option X) → ((x : X) → o ≡ Some x → ⊥) → o ≡ None
nothing None never = refl
nothing (Some x) never = absurd (never x refl)

not_where : {X : Type 0} (o : Option X) (test : X → Bool) → o ≡ None → so_where test o ≡ true → ⊥
not_where o test none so = grind arith

and_first : (a b : Bool) → (a && b) ≡ true → a ≡ true
and_first a b h = grind arith

-- a line's number is at least 1, whichever purse it is of
least_of : (o : Option PurseRow) (n : ℕ) → so_where (λ (x : PurseRow). nat_le 1 n && nat_le n x.purse.lines) o ≡ true → 1 ≤ n
least_of None n h = absurd (cc)
least_of (Some x) n h = grind (arith, nat_tests)

-- ---- tokens of one caller

single_found : (es : List (Token × Caller)) → CallersDiffer es
    → (s t : Token) (c : Caller) → find token_cmp s es ≡ Some c → find token_cmp t es ≡ Some c → s ≡ t
single_found [] one s t c a b = absurd (cc)
single_found (e ∷ es) one s t c a b =
    let later = of_found token_cmp names_total names_exact (λ (d : Token × Caller). d.1 ≡ e.1 → ⊥) es in
    elim (cases_Bool (eq_by_cmp token_cmp s e.0)) [
      | inl p ↦ elim (cases_Bool (eq_by_cmp token_cmp t e.0)) [
        | inl q ↦ names_exact s e.0 (is_equal _ p) ∙ sym (names_exact t e.0 (is_equal _ q))
        | inr q ↦ (let same : e.1 ≡ c = grind arith in absurd (later t c one.0 (rw q at b) (sym same)))
      ]
      | inr p ↦ elim (cases_Bool (eq_by_cmp token_cmp t e.0)) [
        | inl q ↦ (let same : e.1 ≡ c = grind arith in absurd (later s c one.0 (rw p at a) (sym same)))
        | inr q ↦ single_found es one.1 s t c (rw p at a) (rw q at b)
      ]
    ]

-- ---- what is seen in the end is whole, and what that says of the rows

module _ (f : Fed) (r : Rows) (is : Lists f r) where
  abbrev others : List (Token × Caller)
  others = is.tokens.rest

  apart_tokens : AreDistinct token_cmp ((r.operator, Operator) ∷ others)
  apart_tokens = subst (λ es. AreDistinct token_cmp es) is.tokens.first is.tokens.apart

  pub tokens_listed : IsListed others r.tokens
  tokens_listed = record { map = is.tokens.map; apart = apart_tokens.1 }

  -- ---- the tables, one by one

  token_is : (P : Token × Caller → Type 0) → AllByRecursion P others → (t : Token) (c : Caller) → fmap.get r.tokens t ≡ Some c → P (t, c)
  token_is = of_each token_cmp names_total names_exact others r.tokens tokens_listed

  member_is : (P : Name × MemberRow → Type 0) → AllByRecursion P f.members → (m : Name) (x : MemberRow) → fmap.get r.members m ≡ Some x → P (m, x)
  member_is = of_each name_cmp names_total names_exact f.members r.members is.members

  holder_is : (P : Name × Name → Type 0) → AllByRecursion P f.holders → (h m : Name) → fmap.get r.holders h ≡ Some m → P (h, m)
  holder_is = of_each name_cmp names_total names_exact f.holders r.holders is.holders

  purse_is : (P : Name × PurseRow → Type 0) → AllByRecursion P f.purses → (p : Name) (x : PurseRow) → HasPurse r p x → P (p, x)
  purse_is = of_each name_cmp names_total names_exact f.purses r.purses is.purses

  message_is : (P : (Name × ℕ) × Message → Type 0) → AllByRecursion P f.inbox → (p : Name) (n : ℕ) (m : Message) → HasMessage r p n m → P ((p, n), m)
  message_is P all p n = of_each (pair_cmp name_cmp nat_cmp) numbers_total numbers_exact f.inbox r.inbox is.inbox P all (p, n)

  line_is : (P : (Name × ℕ) × LineRow → Type 0) → AllByRecursion P f.lines → (p : Name) (n : ℕ) (l : LineRow) → HasLine r p n l → P ((p, n), l)
  line_is P all p n = of_each (pair_cmp name_cmp nat_cmp) numbers_total numbers_exact f.lines r.lines is.lines P all (p, n)

  load_is : (P : (Name × Name) × ℕ → Type 0) → AllByRecursion P f.loads
      → (p reference : Name) (amount : ℕ) → fmap.get r.loads (p, reference) ≡ Some amount → P ((p, reference), amount)
  load_is P all p reference = of_each (pair_cmp name_cmp name_cmp) keys_total keys_exact f.loads r.loads is.loads P all (p, reference)

  redemption_is : (P : (Name × Name) × Redemption → Type 0) → AllByRecursion P f.redemptions
      → (p reference : Name) (x : Redemption) → fmap.get r.redemptions (p, reference) ≡ Some x → P ((p, reference), x)
  redemption_is P all p reference = of_each (pair_cmp name_cmp name_cmp) keys_total keys_exact f.redemptions r.redemptions is.redemptions P all (p, reference)

  archived_is : (P : Name × Details → Type 0) → AllByRecursion P f.archive → (p : Name) (d : Details) → IsArchived r p d → P (p, d)
  archived_is P all p d some =
      of_each result_cmp results_total results_exact (marked f.archive) r.archive is.archive (λ e. P e.0)
      (all_map (λ (e : (Name × Details) × Unit {0}). P e.0) (λ k. (k, tt)) f.archive all)
      (p, d) tt (value_found _ some).1

  settled_is : (P : Details → Type 0) → AllByRecursion P f.settled → (d : Details) → has_logged r.settled d ≡ true → P d
  settled_is P all d some =
      of_each details_cmp details_total details_exact (marked f.settled) r.settled is.settled (λ e. P e.0)
      (all_map (λ (e : Details × Unit {0}). P e.0) (λ k. (k, tt)) f.settled all)
      d tt (value_found _ some).1

  -- ---- sound rows, group by group

  module _ (fit : Fits f r is.tokens.rest) (whole : IsWhole (after_all f)) (within : AreLimited f) where
    within_tokens : AllByRecursion IsTokenRow ((r.operator, Operator) ∷ others)
    within_tokens = subst (λ es. AllByRecursion IsTokenRow es) is.tokens.first within.tokens

    -- what was seen of each is whole
    clerk_marked : (m : Name) → IsSome (fmap.get r.members m) → list_any (is_clerk m) f.tokens ≡ true
    clerk_marked m some =
        let x = value_found _ some in
        value_passes names_total (λ b. b) (after_all f).members whole.members m _ (members_seen f r is m ∙ ap (option_map _) x.1)

    holder_whole : (h : Name) → IsSome (fmap.get r.holders h) → is_whole_holder (holder_seen f h) ≡ true
    holder_whole h some =
        let x = value_found _ some in
        value_passes names_total is_whole_holder (after_all f).holders whole.holders h _ (holders_seen f r is h ∙ ap (option_map _) x.1)

    purse_whole : (p : Name) (x : PurseRow) → HasPurse r p x → is_whole_purse (purse_seen f p x) ≡ true
    purse_whole p x at = value_passes names_total is_whole_purse (after_all f).purses whole.purses p _ (purses_seen f r is p ∙ ap (option_map _) at)

    -- ---- tokens

    owner_there : (c : Caller) → has_owner r c ≡ true → IsOwnerRow r c
    owner_there Operator h = absurd (cc)
    owner_there (Clerk m) h = h
    owner_there (Holder i) h = h

    is_clerks : (m : Name) (e : Token × Caller) → is_clerk m e ≡ true → e.1 ≡ Clerk m
    is_clerks m (t, Operator) h = absurd (cc)
    is_clerks m (t, Clerk n) h = ap Clerk (sym (names_exact m n (is_equal _ h)))
    is_clerks m (t, Holder i) h = absurd (cc)

    is_owners : (h : Name) (e : Token × Caller) → is_owner h e ≡ true → e.1 ≡ Holder h
    is_owners h (t, Operator) is = absurd (cc)
    is_owners h (t, Clerk n) is = absurd (cc)
    is_owners h (t, Holder i) is = ap Holder (sym (names_exact h i (is_equal _ is)))

    token_of : (c : Caller) (test : Token × Caller → Bool) → ((e : Token × Caller) → test e ≡ true → e.1 ≡ c) → list_any test others ≡ true → HasTokenRow r c
    token_of c test says some =
        let row = some_row token_cmp names_total names_exact others r.tokens tokens_listed test some in
        (row.0, row.2 ∙ ap Some (says (row.0, row.1) row.3))

    sound_tokens : SoundTokens r
    sound_tokens = record {
      operator_bytes = within_tokens.0.0;
      bytes = λ t c at. (token_is IsTokenRow within_tokens.1 t c at).0;
      operator = get_listed token_cmp names_total names_exact others r.tokens tokens_listed r.operator ∙ apart_tokens.0;
      owners = λ t c at. owner_there c (token_is (λ e. has_owner r e.1 ≡ true) fit.tokens t c at);
      clerks = λ m some. token_of (Clerk m) (is_clerk m) (is_clerks m) (subst (λ es. list_any (is_clerk m) es ≡ true) is.tokens.first (clerk_marked m some));
      holders = λ h some.
          let marked : list_any (is_owner h) f.tokens ≡ true = grind (arith, holder_whole h some) in
          token_of (Holder h) (is_owner h) (is_owners h) (subst (λ es. list_any (is_owner h) es ≡ true) is.tokens.first marked);
      single = λ s t c a b.
          let at = get_listed token_cmp names_total names_exact others r.tokens tokens_listed in
          single_found others (subst (λ es. CallersDiffer es) is.tokens.first is.tokens.single).1 s t c (sym (at s) ∙ a) (sym (at t) ∙ b);
    }

    -- ---- members and holders

    sound_members : SoundMembers r
    unfolding sum_values
    sound_members = record {
      named = λ m some. let x = value_found _ some in (member_is IsMemberRow within.members m x.0 x.1).0;
      granted = rw (same_sum name_cmp names_total names_exact f.members r.members is.members (λ e. e.1.granted)) fit.granted;
      floats = λ m row at. (member_is IsMemberRow within.members m row at).2;
      holders = λ h m at. ((holder_is IsHolderRow within.holders h m at).0, holder_is (λ e. has_member r e ≡ true) fit.holders h m at);
    }

    -- ---- purses

    -- where no holder is there, no purse is the holder's
    none_held : (h : Name) → fmap.get r.holders h ≡ None
        → (es : List (Name × PurseRow)) → AllByRecursion (λ e. has_holder r e ≡ true) es → length (filter (is_held h) es) ≡ 0
    none_held h none [] all = refl
    none_held h none (e ∷ es) all = grind (arith, none_held h none es all.1, all.0, same_name h e.1.holder)

    few_held : (h : Name) → length (filter (is_held h) f.purses) ≤ most_purses
    few_held h = by_case (fmap.get r.holders h) refl
      where
        by_case : (o : Option Name) → fmap.get r.holders h ≡ o → length (filter (is_held h) f.purses) ≤ most_purses
        by_case None gone = omega (arith, none_held h gone f.purses fit.purses)
        by_case (Some m) at = grind (arith, nat_tests, holder_whole h (some_of _ m at))

    sound_purses : SoundPurses r
    sound_purses = record {
      text = λ p x at. let row = purse_is IsPurseRow within.purses p x at in subst (λ n. IsTrue (is_name_text n)) row.named row.purse.name;
      named = λ p x at. (purse_is IsPurseRow within.purses p x at).named;
      holder = purse_is (λ e. has_holder r e ≡ true) fit.purses;
      purse = λ p x at. (purse_is IsPurseRow within.purses p x at).purse;
      next = λ p x at. (purse_is IsPurseRow within.purses p x at).next;
      few = λ h.
          let named = length-map (purse_rows_of h (fmap.entries r.purses)) (λ (e : Name × PurseRow). e.0) in
          let rows = as_many name_cmp names_total names_exact f.purses r.purses is.purses (is_held h) in
          omega (arith, named, rows, few_held h);
    }

    -- ---- messages and lines

    messages_many : (p : Name) → count_of p r.inbox ≡ length (filter (is_of p) f.inbox)
    messages_many p = as_many (pair_cmp name_cmp nat_cmp) numbers_total numbers_exact f.inbox r.inbox is.inbox (is_of p)

    lines_many : (p : Name) → count_of p r.lines ≡ length (filter (is_of p) f.lines)
    lines_many p = as_many (pair_cmp name_cmp nat_cmp) numbers_total numbers_exact f.lines r.lines is.lines (is_of p)

    sound_inboxes : SoundInboxes r
    sound_inboxes = record {
      few = λ p x at. grind (arith, nat_tests, purse_whole p x at, messages_many p);
      below = λ p x n m at is. let awaited = message_is (λ e. is_awaited r e ≡ true) fit.inbox p n m is in grind (arith, nat_tests);
      messages = λ p n m is. (message_is IsMessageRow within.inbox p n m is).1;
    }

    line_counted : (p : Name) (n : ℕ) (l : LineRow) → HasLine r p n l → is_counted r ((p, n), l) ≡ true
    line_counted = line_is (λ e. is_counted r e ≡ true) fit.lines

    sound_lines : SoundLines r
    sound_lines = record {
      counted = λ p x at. grind (arith, nat_tests, purse_whole p x at, lines_many p);
      least = λ p n l is. least_of _ n (line_counted p n l is);
      most = λ p x n l at is. let counted = line_counted p n l is in grind (arith, nat_tests);
      each = λ p n l is. let row = line_is IsLineRow within.lines p n l is in record { amount = row.amount; balance = row.balance; note = row.note };
    }

    -- ---- results, loads and redemptions

    sound_results : Laid r → SoundResults r
    sound_results laid = record {
      archived = archived_is (λ e. fmap.contains_key r.purses e.0 ≡ true) fit.archive;
      details = λ p d is. (archived_is IsResultRow within.archive p d is).1;
      logged = laid.logged;
      apart = laid.apart;
    }

    sound_clears : Cleared r → SoundClears r
    sound_clears cleared = record {
      some = λ p n set is. let awaited = message_is (λ e. is_awaited r e ≡ true) fit.inbox p n (Clear set) is in grind (arith, nat_tests);
      archived = cleared.archived;
    }

    sound_payments : SoundPayments r
    sound_payments = record {
      loads = λ p reference amount is. let row = load_is IsLoadRow within.loads p reference amount is in (row.1, row.2);
      redemptions = λ p reference x is. let row = redemption_is IsRedemptionRow within.redemptions p reference x is in (row.1, row.2);
    }

    -- ---- no row is of a purse that isn't there

    proper : IsProper r
    proper = record {
      inbox = λ p n none. nothing _ (λ m at. not_where _ _ none (and_first _ _ (message_is (λ e. is_awaited r e ≡ true) fit.inbox p n m at)));
      lines = λ p n none. nothing _ (λ l at. not_where _ _ none (line_counted p n l at));
      loads = λ p reference none. nothing _ (λ amount at. none_some _ none (load_is (λ e. fmap.contains_key r.purses e.0.0 ≡ true) fit.loads p reference amount at));
      redemptions = λ p reference none. nothing _ (λ x at. none_some _ none (redemption_is (λ e. fmap.contains_key r.purses e.0.0 ≡ true) fit.redemptions p reference x at));
    }

    all_sound : Laid r → Cleared r → IsSound r
    all_sound laid cleared = record {
      tokens = sound_tokens;
      members = sound_members;
      purses = sound_purses;
      inboxes = sound_inboxes;
      lines = sound_lines;
      results = sound_results laid;
      settled = settled_is IsDetails within.settled;
      clears = sound_clears cleared;
      payments = sound_payments;
      proper = proper;
    }

-- rows that were all gone over, are whole in the end and within their limits, are sound
pub sound_fed : (f : Fed) (r : Rows) (s : Seen) → Lists f r → AreLimited f → seen_fed f ≡ Some s → is_whole s ≡ true
    → Laid r → Cleared r → IsSound r
sound_fed f r s is within seen whole laid cleared =
    let end = seen_fits f r is s seen in
    all_sound f r is end.0 (whole_parts _ (subst (λ t. is_whole t ≡ true) end.1 whole)) within laid cleared
