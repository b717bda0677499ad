-- What is seen in the end of the rows of a book, at each name.
use Rattle.std.proofs.Common.{◌≡◌, ◌+◌, List, [], ◌∷◌, length, filter, cond, ◌||◌, refl, sym, ◌∙◌, ap, Option, Some, None, Bool, true, false, arith}
use Rattle.std.specs.Prelude.{option_map}
use Rattle.std.specs.List.{list_any}
use Rattle.std.specs.FinMap as fmap
use Rattle.std.specs.FinMap.{FinMap, gets}
use Rattle.mx_pay.specs.Names.{name_cmp, is_name}
use Rattle.mx_book.specs.World.{Name, Token}
use Rattle.mx_book.specs.Rows.{Rows}
use Rattle.mx_book.specs.declared.values.Caller.{Caller}
use Rattle.mx_book.specs.declared.values.Caller.TheVariants.{Operator, Clerk, Holder}
use Rattle.mx_book.specs.declared.values.MemberRow.{MemberRow}
use Rattle.mx_book.specs.declared.values.PurseRow.{PurseRow}
use Rattle.mx_book.proofs.NameLemmas.{names_total, names_exact, same_name}
use Rattle.mx_audit.specs.declared.seen.HolderSeen.{HolderSeen}
use Rattle.mx_audit.specs.declared.seen.PurseSeen.{PurseSeen}
use Rattle.mx_audit.specs.Seen.{Seen, nothing_seen, changed_at, with_member, with_holder, with_token, with_purse, with_message, with_line}
use Rattle.mx_audit.specs.Fed.{Fed, Lists}
use Rattle.mx_audit.proofs.ListedLemmas.{get_listed}
use Rattle.mx_audit.proofs.PassLemmas.{after, kept, times, grown, filled}

-- ---- what is seen after each table

abbrev pub after_members : Fed → Seen
after_members f = after with_member nothing_seen f.members

abbrev pub after_holders : Fed → Seen
after_holders f = after with_holder (after_members f) f.holders

abbrev pub after_tokens : Fed → Seen
after_tokens f = after with_token (after_holders f) f.tokens

abbrev pub after_purses : Fed → Seen
after_purses f = after with_purse (after_tokens f) f.purses

abbrev pub after_inbox : Fed → Seen
after_inbox f = after with_message (after_purses f) f.inbox

abbrev pub after_all : Fed → Seen
after_all f = after with_line (after_inbox f) f.lines

-- ---- whose a row is

abbrev pub is_clerk : Name → Token × Caller → Bool
is_clerk m (t, Operator) = false
is_clerk m (t, Clerk n) = is_name m n
is_clerk m (t, Holder h) = false

abbrev pub is_owner : Name → Token × Caller → Bool
is_owner h (t, Operator) = false
is_owner h (t, Clerk m) = false
is_owner h (t, Holder i) = is_name h i

abbrev pub is_held : Name → Name × PurseRow → Bool
is_held h e = is_name h e.1.holder

abbrev pub is_of : {K V : Type 0} → Name → (Name × K) × V → Bool
is_of p e = is_name p e.0.0

-- ---- one row more

pub get-changed : {V : Type 0} (m : FinMap name_cmp V) (k : Name) (g : V → V) (q : Name)
    → fmap.get (changed_at m k g) q ≡ cond (is_name q k) (option_map g (fmap.get m q)) (fmap.get m q)
get-changed m k g q = grind (arith, gets, names_total, same_name q k)

abbrev with_its_token : HolderSeen → HolderSeen
with_its_token x = record x { has_token = true }

abbrev one_purse : HolderSeen → HolderSeen
one_purse x = record x { purses = x.purses + 1 }

abbrev one_message : PurseSeen → PurseSeen
one_message x = record x { messages = x.messages + 1 }

abbrev one_line : PurseSeen → PurseSeen
one_line x = record x { lines = x.lines + 1 }

member_more : (s : Seen) (e : Token × Caller) (m : Name)
    → fmap.get (with_token s e).members m ≡ cond (is_clerk m e) (option_map (λ _. true) (fmap.get s.members m)) (fmap.get s.members m)
member_more s (t, Operator) m = refl
member_more s (t, Clerk n) m = get-changed s.members n (λ _. true) m
member_more s (t, Holder h) m = refl

holder_more : (s : Seen) (e : Token × Caller) (h : Name)
    → fmap.get (with_token s e).holders h ≡ cond (is_owner h e) (option_map with_its_token (fmap.get s.holders h)) (fmap.get s.holders h)
holder_more s (t, Operator) h = refl
holder_more s (t, Clerk n) h = refl
holder_more s (t, Holder i) h = get-changed s.holders i with_its_token h

pub token_adds_none : (s : Seen) (e : Token × Caller) → (with_token s e).purses ≡ s.purses
token_adds_none s (t, Operator) = refl
token_adds_none s (t, Clerk n) = refl
token_adds_none s (t, Holder i) = refl

-- ---- many rows

times_true : {E : Type 0} (at : E → Bool) (es : List E) (b : Bool) → times at (λ _. true) es b ≡ (b || list_any at es)
times_true at [] b = grind arith
times_true at (e ∷ es) b = grind (arith, times_true at es (cond (at e) true b))

times_token : {E : Type 0} (at : E → Bool) (es : List E) (x : HolderSeen)
    → times at with_its_token es x ≡ record x { has_token = x.has_token || list_any at es }
times_token at [] x = grind arith
times_token at (e ∷ es) x = grind (arith, times_token at es (cond (at e) (with_its_token x) x))

times_purse : {E : Type 0} (at : E → Bool) (es : List E) (x : HolderSeen)
    → times at one_purse es x ≡ record x { purses = x.purses + length (filter at es) }
times_purse at [] x = grind arith
times_purse at (e ∷ es) x = grind (arith, times_purse at es (cond (at e) (one_purse x) x))

times_message : {E : Type 0} (at : E → Bool) (es : List E) (x : PurseSeen)
    → times at one_message es x ≡ record x { messages = x.messages + length (filter at es) }
times_message at [] x = grind arith
times_message at (e ∷ es) x = grind (arith, times_message at es (cond (at e) (one_message x) x))

times_line : {E : Type 0} (at : E → Bool) (es : List E) (x : PurseSeen)
    → times at one_line es x ≡ record x { lines = x.lines + length (filter at es) }
times_line at [] x = grind arith
times_line at (e ∷ es) x = grind (arith, times_line at es (cond (at e) (one_line x) x))

-- ---- in the end

-- a holder's purses and tokens, and a purse's messages and lines
abbrev pub holder_seen : Fed → Name → HolderSeen
holder_seen f h = record { has_token = list_any (is_owner h) f.tokens; purses = length (filter (is_held h) f.purses) }

abbrev pub purse_seen : Fed → Name → PurseRow → PurseSeen
purse_seen f p x = record {
  next_message = x.next_message;
  line_count = x.purse.lines;
  messages = length (filter (is_of p) f.inbox);
  lines = length (filter (is_of p) f.lines);
}

abbrev new_holder : Name → HolderSeen
new_holder m = record { has_token = false; purses = 0 }

abbrev pub new_purse : PurseRow → PurseSeen
new_purse x = record { next_message = x.next_message; line_count = x.purse.lines; messages = 0; lines = 0 }

module _ (f : Fed) (r : Rows) (is : Lists f r) where
  pub members_at_first : (m : Name) → fmap.get (after_members f).members m ≡ option_map (λ _. false) (fmap.get r.members m)
  members_at_first m =
      filled with_member (λ s. s.members) (λ _. false) (λ _ _. refl) nothing_seen f.members is.members.apart m (fmap.get-empty name_cmp m)
      ∙ ap (option_map (λ _. false)) (sym (get_listed name_cmp names_total names_exact f.members r.members is.members m))

  pub holders_at_first : (h : Name) → fmap.get (after_holders f).holders h ≡ option_map new_holder (fmap.get r.holders h)
  holders_at_first h =
      filled with_holder (λ s. s.holders) new_holder (λ _ _. refl) (after_members f) f.holders is.holders.apart h none
      ∙ ap (option_map new_holder) (sym (get_listed name_cmp names_total names_exact f.holders r.holders is.holders h))
    where
      none : fmap.get (after_members f).holders h ≡ None
      none = ap (λ m. fmap.get m h) (kept with_member (λ s. s.holders) (λ _ _. refl) nothing_seen f.members) ∙ fmap.get-empty name_cmp h

  pub purses_at_first : (p : Name) → fmap.get (after_purses f).purses p ≡ option_map new_purse (fmap.get r.purses p)
  purses_at_first p =
      filled with_purse (λ s. s.purses) new_purse (λ _ _. refl) (after_tokens f) f.purses is.purses.apart p none
      ∙ ap (option_map new_purse) (sym (get_listed name_cmp names_total names_exact f.purses r.purses is.purses p))
    where
      none : fmap.get (after_tokens f).purses p ≡ None
      none =
          ap (λ m. fmap.get m p)
          (kept with_token (λ s. s.purses) token_adds_none (after_holders f) f.tokens
          ∙ kept with_holder (λ s. s.purses) (λ _ _. refl) (after_members f) f.holders
          ∙ kept with_member (λ s. s.purses) (λ _ _. refl) nothing_seen f.members)
          ∙ fmap.get-empty name_cmp p

  pub members_seen : (m : Name) → fmap.get (after_all f).members m ≡ option_map (λ _. list_any (is_clerk m) f.tokens) (fmap.get r.members m)
  members_seen m =
      ap (λ n. fmap.get n m)
      (kept with_line (λ s. s.members) (λ _ _. refl) (after_inbox f) f.lines
      ∙ kept with_message (λ s. s.members) (λ _ _. refl) (after_purses f) f.inbox
      ∙ kept with_purse (λ s. s.members) (λ _ _. refl) (after_tokens f) f.purses)
      ∙ grown with_token (λ s. s.members) (λ _. true) is_clerk member_more (after_holders f) f.tokens m
      ∙ ap (option_map (times (is_clerk m) (λ _. true) f.tokens))
      (ap (λ n. fmap.get n m) (kept with_holder (λ s. s.members) (λ _ _. refl) (after_members f) f.holders) ∙ members_at_first m)
      ∙ by_case (fmap.get r.members m)
    where
      by_case : (o : Option MemberRow)
          → option_map (times (is_clerk m) (λ _. true) f.tokens) (option_map (λ _. false) o) ≡ option_map (λ _. list_any (is_clerk m) f.tokens) o
      by_case None = refl
      by_case (Some x) = ap Some (times_true (is_clerk m) f.tokens false)

  pub holders_seen : (h : Name) → fmap.get (after_all f).holders h ≡ option_map (λ _. holder_seen f h) (fmap.get r.holders h)
  holders_seen h =
      ap (λ n. fmap.get n h)
      (kept with_line (λ s. s.holders) (λ _ _. refl) (after_inbox f) f.lines
      ∙ kept with_message (λ s. s.holders) (λ _ _. refl) (after_purses f) f.inbox)
      ∙ grown with_purse (λ s. s.holders) one_purse is_held (λ s e q. get-changed s.holders e.1.holder one_purse q) (after_tokens f) f.purses h
      ∙ ap (option_map (times (is_held h) one_purse f.purses))
      (grown with_token (λ s. s.holders) with_its_token is_owner holder_more (after_holders f) f.tokens h
      ∙ ap (option_map (times (is_owner h) with_its_token f.tokens)) (holders_at_first h))
      ∙ by_case (fmap.get r.holders h)
    where
      by_case : (o : Option Name)
          → option_map (times (is_held h) one_purse f.purses) (option_map (times (is_owner h) with_its_token f.tokens) (option_map new_holder o))
          ≡ option_map (λ _. holder_seen f h) o
      by_case None = refl
      by_case (Some m) = ap Some (ap (times (is_held h) one_purse f.purses) (times_token (is_owner h) f.tokens (new_holder m)) ∙ times_purse (is_held h) f.purses _ ∙ grind arith)

  pub purses_seen : (p : Name) → fmap.get (after_all f).purses p ≡ option_map (purse_seen f p) (fmap.get r.purses p)
  purses_seen p =
      grown with_line (λ s. s.purses) one_line is_of (λ s e q. get-changed s.purses e.0.0 one_line q) (after_inbox f) f.lines p
      ∙ ap (option_map (times (is_of p) one_line f.lines))
      (grown with_message (λ s. s.purses) one_message is_of (λ s e q. get-changed s.purses e.0.0 one_message q) (after_purses f) f.inbox p
      ∙ ap (option_map (times (is_of p) one_message f.inbox)) (purses_at_first p))
      ∙ by_case (fmap.get r.purses p)
    where
      by_case : (o : Option PurseRow)
          → option_map (times (is_of p) one_line f.lines) (option_map (times (is_of p) one_message f.inbox) (option_map new_purse o))
          ≡ option_map (purse_seen f p) o
      by_case None = refl
      by_case (Some x) = ap Some (ap (times (is_of p) one_line f.lines) (times_message (is_of p) f.inbox (new_purse x)) ∙ times_line (is_of p) f.lines _ ∙ grind arith)
