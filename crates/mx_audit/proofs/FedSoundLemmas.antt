-- Sound rows are gone over to the end, are whole there, and are within their limits.
use Rattle.std.proofs.Common.{◌≡◌, ℕ, ◌≤◌, List, [], ◌∷◌, length, filter, refl, sym, ◌∙◌, ap, subst, Option, Some, None, IsSome, IsTrue, Bool, true, is_some, arith}
use Rattle.std.specs.Prelude.{option_map, sum_by}
use Rattle.std.specs.declared.cmp.Ordering.{Ordering}
use Rattle.std.specs.Ordering.{nat_cmp}
use Rattle.std.specs.List.{AllByRecursion, list_any}
use Rattle.std.specs.FinMap as fmap
use Rattle.std.specs.FinMap.{FinMap}
use Rattle.std.proofs.lemmas.Bool.Decides.{nat_tests}
use Rattle.std.proofs.lemmas.List.{length-map}
use Rattle.std.proofs.lemmas.List.Sums.{sum_by-cons}
use Rattle.sqlite_keyed.proofs.ListLemmas.{all_unmap}
use Rattle.mx_pay.specs.Details.{Details, IsDetails, details_cmp}
use Rattle.mx_pay.specs.Limits.{most_number}
use Rattle.mx_pay.specs.Log.{has_logged}
use Rattle.mx_pay.specs.Names.{name_cmp, is_name_text}
use Rattle.mx_pay.specs.Orders.{details_exact}
use Rattle.mx_pay.specs.Tokens.{token_cmp}
use Rattle.mx_pay.proofs.LogLemmas.{details_total}
use Rattle.mx_purse.specs.declared.message.Message.{Message}
use Rattle.mx_purse.specs.declared.message.Message.TheVariants.{Req, Val, Ack, Clear}
use Rattle.mx_book.specs.Limits.{most_purses}
use Rattle.mx_book.specs.World.{Name, Token, result_cmp}
use Rattle.mx_book.specs.Rows.{Rows, NoStray}
use Rattle.mx_book.specs.RowReads.{purse_rows_of}
use Rattle.mx_book.specs.Sums.{sum_values}
use Rattle.mx_book.specs.Under.{pair_cmp}
use Rattle.mx_book.specs.declared.values.Caller.{Caller}
use Rattle.mx_book.specs.declared.values.Caller.TheVariants.{Operator, Clerk, Holder}
use Rattle.mx_book.specs.declared.values.LineRow.{LineRow}
use Rattle.mx_book.specs.declared.values.MemberRow.{MemberRow}
use Rattle.mx_book.specs.declared.values.PurseRow.{PurseRow}
use Rattle.mx_book.specs.declared.values.Redemption.{Redemption}
use Rattle.mx_book.proofs.FoundLemmas.{value_found, some_of, none_found}
use Rattle.mx_book.proofs.NameLemmas.{names_total, names_exact, name_itself}
use Rattle.mx_book.proofs.ResultLemmas.{results_total, results_exact}
use Rattle.mx_book.proofs.RowLemmas.{keys_total, keys_exact}
use Rattle.mx_cells.specs.Entries.{IsCaller, IsTokenRow, IsMemberRow, IsHolderRow, IsPurseRow, IsMessageRow, IsLineRow, IsResultRow, IsLoadRow, IsRedemptionRow}
use Rattle.mx_audit.specs.Seen.{Seen, is_filled, is_whole, is_whole_holder, is_whole_purse, with_token, with_purse, with_message, with_line}
use Rattle.mx_audit.specs.Sound.{IsSound, IsOwnerRow, HasTokenRow, HasPurse, HasMessage, HasLine, IsArchived, IsLaid}
use Rattle.mx_audit.specs.Fed.{Fed, AreLimited, Lists, marked, seen_fed, Laid, Cleared}
use Rattle.mx_audit.proofs.ListedLemmas.{values_pass, of_each, all_each, row_passes, as_many, same_sum}
use Rattle.mx_audit.proofs.PassLemmas.{after, kept, keeps}
use Rattle.mx_audit.proofs.SeenLemmas.{after_all, after_holders, after_tokens, after_purses, after_inbox, is_clerk, is_owner, is_held, is_of, members_seen, holders_seen, purses_seen, holder_seen, purse_seen}
use Rattle.mx_audit.proofs.FedLemmas.{numbers_total, numbers_exact, IsWhole, parts_whole, tokens_listed}
use Rattle.mx_audit.proofs.KnownLemmas.{has_owner, is_awaited, is_counted, token_operator}
use Rattle.mx_audit.proofs.FitLemmas.{Fits, fits_seen}

mapped_value : {X V : Type 0} (g : X → V) (o : Option X) (v : V) → option_map g o ≡ Some v → (x : X) × (o ≡ Some x) × (g x ≡ v)
mapped_value g None v h = absurd (cc)
mapped_value g (Some x) v h = (x, refl, grind arith)

-- the purse of a row is there
purse_there : {K V : Type 0} (R : K → K → Ordering) (r : Rows) (m : FinMap (pair_cmp name_cmp R) V) → NoStray R r.purses m
    → (p : Name) (k : K) (v : V) → fmap.get m (p, k) ≡ Some v → (x : PurseRow) × HasPurse r p x
purse_there R r m none p k v at = by_case (fmap.get r.purses p) refl
  where
    by_case : (o : Option PurseRow) → fmap.get r.purses p ≡ o → (x : PurseRow) × HasPurse r p x
    by_case None gone = none_found _ v (none p k gone) at
    by_case (Some x) is = (x, is)

-- a number that is part of a sum is no more than that
each_within : {X : Type 0} (g : X → ℕ) (n : ℕ) (es : List X) → sum_by g es ≤ n → AllByRecursion (λ e. g e ≤ n) es
each_within g n [] le = tt
each_within g n (e ∷ es) le = let sum = sum_by-cons g e es in (omega arith, each_within g n es (omega arith))

-- ---- what holds of what the rows of a book say holds of each row

module _ (f : Fed) (r : Rows) (is : Lists f r) where
  abbrev others : List (Token × Caller)
  others = is.tokens.rest

  all_tokens : (P : Token × Caller → Type 0) → ((t : Token) (c : Caller) → fmap.get r.tokens t ≡ Some c → P (t, c)) → AllByRecursion P others
  all_tokens = all_each token_cmp names_total names_exact others r.tokens (tokens_listed f r is)

  all_members : (P : Name × MemberRow → Type 0) → ((m : Name) (x : MemberRow) → fmap.get r.members m ≡ Some x → P (m, x)) → AllByRecursion P f.members
  all_members = all_each name_cmp names_total names_exact f.members r.members is.members

  all_holders : (P : Name × Name → Type 0) → ((h m : Name) → fmap.get r.holders h ≡ Some m → P (h, m)) → AllByRecursion P f.holders
  all_holders = all_each name_cmp names_total names_exact f.holders r.holders is.holders

  all_purses : (P : Name × PurseRow → Type 0) → ((p : Name) (x : PurseRow) → HasPurse r p x → P (p, x)) → AllByRecursion P f.purses
  all_purses = all_each name_cmp names_total names_exact f.purses r.purses is.purses

  all_messages : (P : (Name × ℕ) × Message → Type 0) → ((p : Name) (n : ℕ) (m : Message) → HasMessage r p n m → P ((p, n), m)) → AllByRecursion P f.inbox
  all_messages P h = all_each (pair_cmp name_cmp nat_cmp) numbers_total numbers_exact f.inbox r.inbox is.inbox P (λ k m at. h k.0 k.1 m at)

  all_lines : (P : (Name × ℕ) × LineRow → Type 0) → ((p : Name) (n : ℕ) (l : LineRow) → HasLine r p n l → P ((p, n), l)) → AllByRecursion P f.lines
  all_lines P h = all_each (pair_cmp name_cmp nat_cmp) numbers_total numbers_exact f.lines r.lines is.lines P (λ k l at. h k.0 k.1 l at)

  all_loads : (P : (Name × Name) × ℕ → Type 0)
      → ((p reference : Name) (amount : ℕ) → fmap.get r.loads (p, reference) ≡ Some amount → P ((p, reference), amount)) → AllByRecursion P f.loads
  all_loads P h = all_each (pair_cmp name_cmp name_cmp) keys_total keys_exact f.loads r.loads is.loads P (λ k amount at. h k.0 k.1 amount at)

  all_redemptions : (P : (Name × Name) × Redemption → Type 0)
      → ((p reference : Name) (x : Redemption) → fmap.get r.redemptions (p, reference) ≡ Some x → P ((p, reference), x)) → AllByRecursion P f.redemptions
  all_redemptions P h = all_each (pair_cmp name_cmp name_cmp) keys_total keys_exact f.redemptions r.redemptions is.redemptions P (λ k x at. h k.0 k.1 x at)

  all_archived : (P : Name × Details → Type 0) → ((p : Name) (d : Details) → IsArchived r p d → P (p, d)) → AllByRecursion P f.archive
  all_archived P h =
      all_unmap (λ (e : (Name × Details) × Unit {0}). P e.0) (λ k. (k, tt)) f.archive
      (all_each result_cmp results_total results_exact (marked f.archive) r.archive is.archive (λ e. P e.0) (λ k u at. h k.0 k.1 (some_of _ u at)))

  all_laid : (P : Name × Details → Type 0) → ((p : Name) (d : Details) → IsLaid r p d → P (p, d)) → AllByRecursion P f.tray
  all_laid P h =
      all_unmap (λ (e : (Name × Details) × Unit {0}). P e.0) (λ k. (k, tt)) f.tray
      (all_each result_cmp results_total results_exact (marked f.tray) r.tray is.tray (λ e. P e.0) (λ k u at. h k.0 k.1 (some_of _ u at)))

  all_settled : (P : Details → Type 0) → ((d : Details) → has_logged r.settled d ≡ true → P d) → AllByRecursion P f.settled
  all_settled P h =
      all_unmap (λ (e : Details × Unit {0}). P e.0) (λ k. (k, tt)) f.settled
      (all_each details_cmp details_total details_exact (marked f.settled) r.settled is.settled (λ e. P e.0) (λ d u at. h d (some_of _ u at)))

  module _ (sound : IsSound r) where
    message_purse : (p : Name) (n : ℕ) (m : Message) → HasMessage r p n m → (x : PurseRow) × HasPurse r p x
    message_purse = purse_there nat_cmp r r.inbox sound.proper.inbox

    line_purse : (p : Name) (n : ℕ) (l : LineRow) → HasLine r p n l → (x : PurseRow) × HasPurse r p x
    line_purse = purse_there nat_cmp r r.lines sound.proper.lines

    load_purse : (p reference : Name) (amount : ℕ) → fmap.get r.loads (p, reference) ≡ Some amount → (x : PurseRow) × HasPurse r p x
    load_purse = purse_there name_cmp r r.loads sound.proper.loads

    redemption_purse : (p reference : Name) (x : Redemption) → fmap.get r.redemptions (p, reference) ≡ Some x → (x : PurseRow) × HasPurse r p x
    redemption_purse = purse_there name_cmp r r.redemptions sound.proper.redemptions

    -- ---- each row fits

    owned : (c : Caller) → IsOwnerRow r c → has_owner r c ≡ true
    owned Operator h = absurd h
    owned (Clerk m) h = h
    owned (Holder i) h = h

    awaited : (p : Name) (n : ℕ) (m : Message) → HasMessage r p n m → is_awaited r ((p, n), m) ≡ true
    awaited p n m at =
        let x = message_purse p n m at in
        let below = sound.inboxes.below p x.0 n m x.1 at in
        let filled = is_filled_message p n m at in
        grind (arith, nat_tests, x.1)
      where
        is_filled_message : (p : Name) (n : ℕ) (m : Message) → HasMessage r p n m → is_filled m ≡ true
        is_filled_message p n (Clear set) at = grind (arith, nat_tests, sound.clears.some p n set at)
        is_filled_message p n (Req d) at = refl
        is_filled_message p n (Val d) at = refl
        is_filled_message p n (Ack d) at = refl

    line_counted : (p : Name) (n : ℕ) (l : LineRow) → HasLine r p n l → is_counted r ((p, n), l) ≡ true
    line_counted p n l at =
        let x = line_purse p n l at in
        let least = sound.lines.least p n l at in
        let most = sound.lines.most p x.0 n l x.1 at in
        grind (arith, nat_tests, x.1)

    all_fit : Fits f r is.tokens.rest
    unfolding sum_values
    all_fit = record {
      granted = rw (← same_sum name_cmp names_total names_exact f.members r.members is.members (λ e. e.1.granted)) sound.members.granted;
      holders = all_holders _ (λ h m at. (sound.members.holders h m at).1);
      tokens = all_tokens _ (λ t c at. owned c (sound.tokens.owners t c at));
      purses = all_purses _ sound.purses.holder;
      inbox = all_messages _ awaited;
      lines = all_lines _ line_counted;
      tray = all_laid _ (λ p d at. let entry = sound.results.logged p d at in some_of _ entry.0 entry.1);
      archive = all_archived _ sound.results.archived;
      loads = all_loads _ (λ p reference amount at. let x = load_purse p reference amount at in some_of _ x.0 x.1);
      redemptions = all_redemptions _ (λ p reference e at. let x = redemption_purse p reference e at in some_of _ x.0 x.1);
    }

    -- ---- and what is seen is whole

    operator_end : is_some (after_all f).operator ≡ true
    operator_end =
        ap is_some
        (kept with_line (λ s. s.operator) (λ _ _. refl) (after_inbox f) f.lines
        ∙ kept with_message (λ s. s.operator) (λ _ _. refl) (after_purses f) f.inbox
        ∙ kept with_purse (λ s. s.operator) (λ _ _. refl) (after_tokens f) f.purses)
        ∙ subst (λ es. is_some (after with_token (after_holders f) es).operator ≡ true) (sym is.tokens.first)
        (keeps with_token (λ s. is_some s.operator ≡ true) (token_operator r) (with_token (after_holders f) (r.operator, Operator)) others refl)

    any_token : (c : Caller) (test : Token × Caller → Bool) → ((t : Token) → test (t, c) ≡ true) → HasTokenRow r c → list_any test f.tokens ≡ true
    any_token c test says has =
        let later = row_passes token_cmp names_total names_exact others r.tokens (tokens_listed f r is) test has.0 c has.1 (says has.0) in
        let any : list_any test ((r.operator, Operator) ∷ others) ≡ true = grind arith in
        subst (λ es. list_any test es ≡ true) (sym is.tokens.first) any

    holder_whole : (h : Name) → IsSome (fmap.get r.holders h) → is_whole_holder (holder_seen f h) ≡ true
    holder_whole h some =
        let token = any_token (Holder h) (is_owner h) (λ t. name_itself h) (sound.tokens.holders h some) in
        let named = length-map (purse_rows_of h (fmap.entries r.purses)) (λ (e : Name × PurseRow). e.0) in
        let rows = as_many name_cmp names_total names_exact f.purses r.purses is.purses (is_held h) in
        let few : length (filter (is_held h) f.purses) ≤ most_purses = omega (arith, named, rows, sound.purses.few h) in
        grind (arith, nat_tests)

    purse_whole : (p : Name) (x : PurseRow) → HasPurse r p x → is_whole_purse (purse_seen f p x) ≡ true
    purse_whole p x at =
        let messages = as_many (pair_cmp name_cmp nat_cmp) numbers_total numbers_exact f.inbox r.inbox is.inbox (is_of p) in
        let lines = as_many (pair_cmp name_cmp nat_cmp) numbers_total numbers_exact f.lines r.lines is.lines (is_of p) in
        let few = sound.inboxes.few p x at in
        let counted = sound.lines.counted p x at in
        grind (arith, nat_tests)

    whole_end : IsWhole (after_all f)
    whole_end = record {
      operator = operator_end;
      members = values_pass names_total (λ b. b) (after_all f).members (λ m b at.
          let x = mapped_value _ _ b (sym (members_seen f r is m) ∙ at) in
          sym x.2 ∙ any_token (Clerk m) (is_clerk m) (λ t. name_itself m) (sound.tokens.clerks m (some_of _ x.0 x.1)));
      holders = values_pass names_total is_whole_holder (after_all f).holders (λ h y at.
          let x = mapped_value _ _ y (sym (holders_seen f r is h) ∙ at) in
          ap is_whole_holder (sym x.2) ∙ holder_whole h (some_of _ x.0 x.1));
      purses = values_pass names_total is_whole_purse (after_all f).purses (λ p y at.
          let x = mapped_value _ _ y (sym (purses_seen f r is p) ∙ at) in
          ap is_whole_purse (sym x.2) ∙ purse_whole p x.0 x.1);
    }

    -- ---- each row is within its limits

    holder_named : (h : Name) → IsSome (fmap.get r.holders h) → IsTrue (is_name_text h)
    holder_named h some = let m = value_found _ some in (sound.members.holders h m.0 m.1).0

    caller_named : (c : Caller) → IsOwnerRow r c → IsCaller c
    caller_named Operator h = absurd h
    caller_named (Clerk m) h = sound.members.named m h
    caller_named (Holder i) h = holder_named i h

    purse_named : (p : Name) → (x : PurseRow) × HasPurse r p x → IsTrue (is_name_text p)
    purse_named p x = sound.purses.text p x.0 x.1

    grants_within : AllByRecursion (λ (e : Name × MemberRow). e.1.granted ≤ most_number) f.members
    grants_within = each_within (λ (e : Name × MemberRow). e.1.granted) most_number f.members all_fit.granted

    all_within : AreLimited f
    all_within = record {
      tokens = subst (λ es. AllByRecursion IsTokenRow es) (sym is.tokens.first) (
        (sound.tokens.operator_bytes, tt),
        all_tokens IsTokenRow (λ t c at. (sound.tokens.bytes t c at, caller_named c (sound.tokens.owners t c at))),
      );
      members = all_members IsMemberRow (λ m x at. (
        sound.members.named m (some_of _ x at),
        of_each name_cmp names_total names_exact f.members r.members is.members (λ e. e.1.granted ≤ most_number) grants_within m x at,
        sound.members.floats m x at,
      ));
      holders = all_holders IsHolderRow (λ h m at. let row = sound.members.holders h m at in (row.0, sound.members.named m row.1));
      purses = all_purses IsPurseRow (λ p x at. record {
        named = sound.purses.named p x at;
        purse = sound.purses.purse p x at;
        holder = holder_named x.holder (sound.purses.holder p x at);
        next = sound.purses.next p x at;
      });
      inbox = all_messages IsMessageRow (λ p n m at. (purse_named p (message_purse p n m at), sound.inboxes.messages p n m at));
      lines = all_lines IsLineRow (λ p n l at.
          let line = sound.lines.each p n l at in
          record { purse = purse_named p (line_purse p n l at); amount = line.amount; balance = line.balance; note = line.note });
      tray = all_laid IsResultRow (λ p d at.
          let entry = sound.results.logged p d at in
          (purse_named p (entry.0, entry.1), (sound.purses.purse p entry.0 entry.1).log.entries d entry.2));
      archive = all_archived IsResultRow (λ p d at. (purse_named p (value_found _ (sound.results.archived p d at)), sound.results.details p d at));
      loads = all_loads IsLoadRow (λ p reference amount at.
          let paid = sound.payments.loads p reference amount at in
          (purse_named p (load_purse p reference amount at), paid.0, paid.1));
      redemptions = all_redemptions IsRedemptionRow (λ p reference x at.
          let paid = sound.payments.redemptions p reference x at in
          (purse_named p (redemption_purse p reference x at), paid.0, paid.1));
      settled = all_settled IsDetails sound.settled;
    }

-- sound rows are gone over to the end, and are whole there
pub fed_sound : (f : Fed) (r : Rows) → Lists f r → IsSound r → (s : Seen) × (seen_fed f ≡ Some s) × (is_whole s ≡ true)
fed_sound f r is sound = (after_all f, fits_seen f r is (all_fit f r is sound), parts_whole (after_all f) (whole_end f r is sound))

-- and each is within its limits
pub limited_sound : (f : Fed) (r : Rows) → Lists f r → IsSound r → AreLimited f
limited_sound f r is sound = all_within f r is sound

-- what is looked up beside holds of them too
pub laid_sound : (r : Rows) → IsSound r → Laid r
laid_sound r sound = record { logged = sound.results.logged; apart = sound.results.apart }

pub cleared_sound : (r : Rows) → IsSound r → Cleared r
cleared_sound r sound = record { archived = sound.clears.archived }
