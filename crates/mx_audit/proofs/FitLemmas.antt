-- All rows of a book are gone over exactly where each fits the book.
use Rattle.std.proofs.Common.{◌≡◌, inl, inr, ℕ, ◌+◌, ◌≤◌, zero-le, List, [], ◌∷◌, refl, sym, ◌∙◌, ap, subst, Option, Some, None, Bool, true, is_some, arith}
use Rattle.std.specs.Prelude.{option_map, option_and_then, sum_by}
use Rattle.std.specs.List.{AllByRecursion}
use Rattle.std.specs.FinMap as fmap
use Rattle.std.proofs.lemmas.Bool.{cases_Bool}
use Rattle.std.proofs.lemmas.Bool.Decides.{nat_tests}
use Rattle.std.proofs.lemmas.List.Sums.{sum_by-cons}
use Rattle.mx_pay.specs.Details.{Details}
use Rattle.mx_pay.specs.Limits.{most_number}
use Rattle.mx_book.specs.World.{Name, Token}
use Rattle.mx_book.specs.Rows.{Rows}
use Rattle.mx_book.specs.declared.values.Caller.{Caller}
use Rattle.mx_book.specs.declared.values.Caller.TheVariants.{Operator}
use Rattle.mx_book.specs.declared.values.MemberRow.{MemberRow}
use Rattle.mx_book.specs.declared.values.PurseRow.{PurseRow}
use Rattle.mx_book.specs.declared.values.Redemption.{Redemption}
use Rattle.mx_audit.specs.Seen.{Seen, nothing_seen, seen_all, fits_member, with_member, fits_holder, with_holder, fits_caller, fits_token, with_token, fits_purse, with_purse, fits_message, with_message, fits_line, with_line, has_purse}
use Rattle.mx_audit.specs.Fed.{Fed, Lists, and_all, and_of_purses, seen_members, seen_holders, seen_tokens, seen_purses, seen_inbox, seen_lines, seen_tray, seen_archive, seen_loads, seen_fed}
use Rattle.mx_audit.proofs.PassLemmas.{after, kept, keeps, Pass, AllPass, still, fitted, fitting}
use Rattle.mx_audit.proofs.SeenLemmas.{after_members, after_holders, after_tokens, after_purses, after_inbox, after_all, members_at_first, holders_at_first, purses_at_first, new_purse}
use Rattle.mx_audit.proofs.KnownLemmas.{has_member, has_owner, has_holder, is_awaited, is_counted, OfPurses, KnowsMembers, KnowsHolders, KnowsOwners, KnowsPurses, numbers, numbers_of, there_mapped, token_holders, holder_pass, token_pass, purse_pass, message_pass, line_pass, there_pass}

-- each row fits, and grants come to no more than their limit
pub record Fits (f : Fed) (r : Rows) (rest : List (Token × Caller)) : Type 0 where
  pub granted : sum_by (λ (e : Name × MemberRow). e.1.granted) f.members ≤ most_number
  pub holders : AllByRecursion (λ e. has_member r e ≡ true) f.holders
  pub tokens : AllByRecursion (λ (e : Token × Caller). has_owner r e.1 ≡ true) rest
  pub purses : AllByRecursion (λ e. has_holder r e ≡ true) f.purses
  pub inbox : AllByRecursion (λ e. is_awaited r e ≡ true) f.inbox
  pub lines : AllByRecursion (λ e. is_counted r e ≡ true) f.lines
  pub tray : OfPurses r (λ (e : Name × Details). e.0) f.tray
  pub archive : OfPurses r (λ (e : Name × Details). e.0) f.archive
  pub loads : OfPurses r (λ (e : (Name × Name) × ℕ). e.0.0) f.loads
  pub redemptions : OfPurses r (λ (e : (Name × Name) × Redemption). e.0.0) f.redemptions

-- ---- the pass over a table, after those before it

-- what is seen after some rows, if all fit, is this, and then this holds
abbrev pub Ends : Option Seen → Seen → Type 0 → Type 0
Ends o end Q = (t : Seen) → o ≡ Some t → Q × (t ≡ end)

pub chained : {X Y : Type 0} (g : X → Option Y) (o : Option X) (y : Y) → option_and_then g o ≡ Some y → (x : X) × (o ≡ Some x) × (g x ≡ Some y)
chained g None y h = absurd (cc)
chained g (Some x) y h = (x, refl, h)

module _ {E : Type 0} (fits : Seen → E → Bool) (next : Seen → E → Seen) (pass : Pass fits next) (es : List E)
    (o : Option Seen) (start : Seen) (known : pass.Known start) where
  and_fitted : (Q : Type 0) → Ends o start Q → Ends (and_all fits next es o) (after next start es) (Q × AllPass fits next pass es)
  and_fitted Q ends t h =
      let before = chained (λ s. seen_all fits next s es) o t h in
      let at = ends before.0 before.1 in
      let end = fitted fits next pass start es t known (subst (λ s. seen_all fits next s es ≡ Some t) at.1 before.2) in
      ((at.0, end.0), end.1)

  and_fitting : o ≡ Some start → AllPass fits next pass es → and_all fits next es o ≡ Some (after next start es)
  and_fitting is all = ap (option_and_then (λ s. seen_all fits next s es)) is ∙ fitting fits next pass start es known all

-- ---- members

abbrev granted_by : List (Name × MemberRow) → ℕ
granted_by es = sum_by (λ (e : Name × MemberRow). e.1.granted) es

members_fitted : (s : Seen) (es : List (Name × MemberRow)) (t : Seen) → s.granted ≤ most_number → seen_all fits_member with_member s es ≡ Some t
    → (s.granted + granted_by es ≤ most_number) × (t ≡ after with_member s es)
members_fitted s [] t le h = (omega arith, grind arith)
members_fitted s (e ∷ es) t le h =
    elim (cases_Bool (fits_member s e)) [
      | inl so ↦ (
          let rest = members_fitted (with_member s e) es t (grind (arith, nat_tests)) (rw so at h) in
          (omega (arith, rest.0, sum_by-cons (λ (e : Name × MemberRow). e.1.granted) e es), rest.1))
      | inr not_so ↦ absurd (let none = rw not_so at h in cc)
    ]

members_fitting : (s : Seen) (es : List (Name × MemberRow)) → s.granted + granted_by es ≤ most_number
    → seen_all fits_member with_member s es ≡ Some (after with_member s es)
members_fitting s [] le = refl
members_fitting s (e ∷ es) le =
    let sum = sum_by-cons (λ (e : Name × MemberRow). e.1.granted) e es in
    let fits : fits_member s e ≡ true = grind (arith, nat_tests) in
    rw fits (members_fitting (with_member s e) es (omega arith))

-- ---- tokens

module _ (r : Rows) (t : Token) (rest : List (Token × Caller)) (s : Seen)
    (none : s.operator ≡ None) (members : KnowsMembers r s) (holders : KnowsHolders r s) where
  first_fits : fits_token s (t, Operator) ≡ true
  first_fits = ap (λ o. fits_caller s o Operator) none

  abbrev with_first : Seen
  with_first = with_token s (t, Operator)

  known_first : KnowsOwners r with_first
  known_first = record { operator = refl; members = members; holders = holders }

  tokens_fitted : (u : Seen) → seen_all fits_token with_token s ((t, Operator) ∷ rest) ≡ Some u
      → AllPass fits_token with_token (token_pass r) rest × (u ≡ after with_token s ((t, Operator) ∷ rest))
  tokens_fitted u h = fitted fits_token with_token (token_pass r) with_first rest u known_first (rw first_fits at h)

  tokens_fitting : AllPass fits_token with_token (token_pass r) rest
      → seen_all fits_token with_token s ((t, Operator) ∷ rest) ≡ Some (after with_token s ((t, Operator) ∷ rest))
  tokens_fitting all = rw first_fits (fitting fits_token with_token (token_pass r) with_first rest known_first all)

-- ---- all tables

module _ (f : Fed) (r : Rows) (is : Lists f r) where
  abbrev others : List (Token × Caller)
  others = is.tokens.rest

  -- what is known after each table
  members_known : KnowsMembers r (after_members f)
  members_known m = ap is_some (members_at_first f r is m) ∙ there_mapped _ _

  no_operator : (after_holders f).operator ≡ None
  no_operator =
      kept with_holder (λ s. s.operator) (λ _ _. refl) (after_members f) f.holders
      ∙ kept with_member (λ s. s.operator) (λ _ _. refl) nothing_seen f.members

  members_still : KnowsMembers r (after_holders f)
  members_still = still fits_holder with_holder (holder_pass r) (after_members f) f.holders members_known

  holders_known : KnowsHolders r (after_holders f)
  holders_known h = ap is_some (holders_at_first f r is h) ∙ there_mapped _ _

  holders_still : KnowsHolders r (after_tokens f)
  holders_still = keeps with_token (KnowsHolders r) (token_holders r) (after_holders f) f.tokens holders_known

  purses_known : KnowsPurses r (after_purses f)
  purses_known p = ap (option_map numbers) (purses_at_first f r is p) ∙ by_case (fmap.get r.purses p)
    where
      by_case : (o : Option PurseRow) → option_map numbers (option_map new_purse o) ≡ option_map numbers_of o
      by_case None = refl
      by_case (Some x) = refl

  purses_then : KnowsPurses r (after_inbox f)
  purses_then = still fits_message with_message (message_pass r) (after_purses f) f.inbox purses_known

  purses_still : KnowsPurses r (after_all f)
  purses_still = still fits_line with_line (line_pass r) (after_inbox f) f.lines purses_then

  -- a pass that adds nothing
  module _ {E : Type 0} (purse : E → Name) (es : List E) (o : Option Seen) where
    same_end : after (λ s (e : E). s) (after_all f) es ≡ after_all f
    same_end = kept (λ s (e : E). s) (λ s. s) (λ _ _. refl) (after_all f) es

    of_purses_fitted : (Q : Type 0) → Ends o (after_all f) Q → Ends (and_of_purses purse es o) (after_all f) (Q × OfPurses r purse es)
    of_purses_fitted Q ends t h =
        let end = and_fitted (λ s e. has_purse s (purse e)) (λ s e. s) (there_pass r purse) es o (after_all f) purses_still Q ends t h in
        (end.0, end.1 ∙ same_end)

    of_purses_fitting : o ≡ Some (after_all f) → OfPurses r purse es → and_of_purses purse es o ≡ Some (after_all f)
    of_purses_fitting at all =
        and_fitting (λ s e. has_purse s (purse e)) (λ s e. s) (there_pass r purse) es o (after_all f) purses_still at all ∙ ap Some same_end

  -- ---- what is seen tells that all fit

  abbrev Granted : Type 0
  Granted = granted_by f.members ≤ most_number

  abbrev Holders : Type 0
  Holders = Granted × AllByRecursion (λ e. has_member r e ≡ true) f.holders

  abbrev Tokens : Type 0
  Tokens = Holders × AllByRecursion (λ (e : Token × Caller). has_owner r e.1 ≡ true) others

  abbrev Purses : Type 0
  Purses = Tokens × AllByRecursion (λ e. has_holder r e ≡ true) f.purses

  abbrev Inbox : Type 0
  Inbox = Purses × AllByRecursion (λ e. is_awaited r e ≡ true) f.inbox

  abbrev Lines : Type 0
  Lines = Inbox × AllByRecursion (λ e. is_counted r e ≡ true) f.lines

  abbrev Tray : Type 0
  Tray = Lines × OfPurses r (λ (e : Name × Details). e.0) f.tray

  abbrev Archive : Type 0
  Archive = Tray × OfPurses r (λ (e : Name × Details). e.0) f.archive

  abbrev Loads : Type 0
  Loads = Archive × OfPurses r (λ (e : (Name × Name) × ℕ). e.0.0) f.loads

  members_end : Ends (seen_members f) (after_members f) Granted
  members_end t h = let end = members_fitted nothing_seen f.members t zero-le h in (omega (arith, end.0), end.1)

  holders_end : Ends (seen_holders f) (after_holders f) Holders
  holders_end = and_fitted fits_holder with_holder (holder_pass r) f.holders (seen_members f) (after_members f) members_known Granted members_end

  tokens_end : Ends (seen_tokens f) (after_tokens f) Tokens
  tokens_end t h =
      let before = chained (λ s. seen_all fits_token with_token s f.tokens) (seen_holders f) t h in
      let at = holders_end before.0 before.1 in
      let here = subst (λ s. seen_all fits_token with_token s f.tokens ≡ Some t) at.1 before.2 in
      let end = tokens_fitted r r.operator others (after_holders f) no_operator members_still holders_known t
      (subst (λ ts. seen_all fits_token with_token (after_holders f) ts ≡ Some t) is.tokens.first here) in
      ((at.0, end.0), end.1 ∙ ap (after with_token (after_holders f)) (sym is.tokens.first))

  purses_end : Ends (seen_purses f) (after_purses f) Purses
  purses_end = and_fitted fits_purse with_purse (purse_pass r) f.purses (seen_tokens f) (after_tokens f) holders_still Tokens tokens_end

  inbox_end : Ends (seen_inbox f) (after_inbox f) Inbox
  inbox_end = and_fitted fits_message with_message (message_pass r) f.inbox (seen_purses f) (after_purses f) purses_known Purses purses_end

  lines_end : Ends (seen_lines f) (after_all f) Lines
  lines_end = and_fitted fits_line with_line (line_pass r) f.lines (seen_inbox f) (after_inbox f) purses_then Inbox inbox_end

  tray_end : Ends (seen_tray f) (after_all f) Tray
  tray_end = of_purses_fitted (λ (e : Name × Details). e.0) f.tray (seen_lines f) Lines lines_end

  archive_end : Ends (seen_archive f) (after_all f) Archive
  archive_end = of_purses_fitted (λ (e : Name × Details). e.0) f.archive (seen_tray f) Tray tray_end

  loads_end : Ends (seen_loads f) (after_all f) Loads
  loads_end = of_purses_fitted (λ (e : (Name × Name) × ℕ). e.0.0) f.loads (seen_archive f) Archive archive_end

  pub seen_fits : Ends (seen_fed f) (after_all f) (Fits f r is.tokens.rest)
  seen_fits t h =
      let end = of_purses_fitted (λ (e : (Name × Name) × Redemption). e.0.0) f.redemptions (seen_loads f) Loads loads_end t h in
      let q = end.0 in (
        record {
          granted = q.0.0.0.0.0.0.0.0.0;
          holders = q.0.0.0.0.0.0.0.0.1;
          tokens = q.0.0.0.0.0.0.0.1;
          purses = q.0.0.0.0.0.0.1;
          inbox = q.0.0.0.0.0.1;
          lines = q.0.0.0.0.1;
          tray = q.0.0.0.1;
          archive = q.0.0.1;
          loads = q.0.1;
          redemptions = q.1;
        },
        end.1,
      )

  -- ---- and the other way round

  module _ (h : Fits f r is.tokens.rest) where
    members_pass : seen_members f ≡ Some (after_members f)
    members_pass = members_fitting nothing_seen f.members (omega (arith, h.granted))

    holders_pass : seen_holders f ≡ Some (after_holders f)
    holders_pass = and_fitting fits_holder with_holder (holder_pass r) f.holders (seen_members f) (after_members f) members_known members_pass h.holders

    tokens_pass : seen_tokens f ≡ Some (after_tokens f)
    tokens_pass =
        ap (option_and_then (λ s. seen_all fits_token with_token s f.tokens)) holders_pass
        ∙ subst (λ ts. seen_all fits_token with_token (after_holders f) ts ≡ Some (after with_token (after_holders f) ts)) (sym is.tokens.first)
        (tokens_fitting r r.operator others (after_holders f) no_operator members_still holders_known h.tokens)

    purses_pass : seen_purses f ≡ Some (after_purses f)
    purses_pass = and_fitting fits_purse with_purse (purse_pass r) f.purses (seen_tokens f) (after_tokens f) holders_still tokens_pass h.purses

    inbox_pass : seen_inbox f ≡ Some (after_inbox f)
    inbox_pass = and_fitting fits_message with_message (message_pass r) f.inbox (seen_purses f) (after_purses f) purses_known purses_pass h.inbox

    lines_pass : seen_lines f ≡ Some (after_all f)
    lines_pass = and_fitting fits_line with_line (line_pass r) f.lines (seen_inbox f) (after_inbox f) purses_then inbox_pass h.lines

    pub fits_seen : seen_fed f ≡ Some (after_all f)
    fits_seen =
        of_purses_fitting (λ (e : (Name × Name) × Redemption). e.0.0) f.redemptions (seen_loads f)
        (of_purses_fitting (λ (e : (Name × Name) × ℕ). e.0.0) f.loads (seen_archive f)
        (of_purses_fitting (λ (e : Name × Details). e.0) f.archive (seen_tray f)
        (of_purses_fitting (λ (e : Name × Details). e.0) f.tray (seen_lines f) lines_pass h.tray) h.archive) h.loads) h.redemptions
