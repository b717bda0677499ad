-- What is known of the rows of a book while they are gone over, and which of them fit.
use Rattle.std.proofs.Common.{◌≡◌, ℕ, List, cond, ◌&&◌, refl, sym, ◌∙◌, ap, Option, Some, None, Bool, true, false, is_some}
use Rattle.std.specs.Prelude.{option_map, nat_le, nat_lt}
use Rattle.std.specs.List.{AllByRecursion}
use Rattle.std.specs.FinMap as fmap
use Rattle.std.specs.FinMap.{FinMap}
use Rattle.std.proofs.lemmas.Option.{same_Some}
use Rattle.mx_pay.specs.Names.{name_cmp, is_name}
use Rattle.mx_purse.specs.declared.message.Message.{Message}
use Rattle.mx_book.specs.World.{Name, Token}
use Rattle.mx_book.specs.Rows.{Rows}
use Rattle.mx_book.specs.declared.values.Caller.{Caller}
use Rattle.mx_book.specs.declared.values.Caller.TheVariants.{Operator, Clerk, Holder}
use Rattle.mx_book.specs.declared.values.LineRow.{LineRow}
use Rattle.mx_book.specs.declared.values.PurseRow.{PurseRow}
use Rattle.mx_audit.specs.declared.seen.PurseSeen.{PurseSeen}
use Rattle.mx_audit.specs.Seen.{Seen, changed_at, so_where, is_filled, fits_holder, with_holder, fits_caller, fits_token, with_token, fits_purse, with_purse, fits_message, with_message, fits_line, with_line, has_purse}
use Rattle.mx_audit.proofs.PassLemmas.{Pass}
use Rattle.mx_audit.proofs.SeenLemmas.{get-changed}

-- ---- what a row has to fit, in the rows of the book

abbrev pub has_member : Rows → Name × Name → Bool
has_member r e = fmap.contains_key r.members e.1

abbrev pub has_owner : Rows → Caller → Bool
has_owner r Operator = false
has_owner r (Clerk m) = fmap.contains_key r.members m
has_owner r (Holder h) = fmap.contains_key r.holders h

abbrev pub has_holder : Rows → Name × PurseRow → Bool
has_holder r e = fmap.contains_key r.holders e.1.holder

abbrev pub is_awaited : Rows → (Name × ℕ) × Message → Bool
is_awaited r e = so_where (λ (x : PurseRow). nat_lt e.0.1 x.next_message) (fmap.get r.purses e.0.0) && is_filled e.1

abbrev pub is_counted : Rows → (Name × ℕ) × LineRow → Bool
is_counted r e = so_where (λ (x : PurseRow). nat_le 1 e.0.1 && nat_le e.0.1 x.purse.lines) (fmap.get r.purses e.0.0)

-- each row of such a list is of a purse that is there
abbrev pub OfPurses : {E : Type 0} → Rows → (E → Name) → List E → Type 0
OfPurses r purse es = AllByRecursion (λ e. fmap.contains_key r.purses (purse e) ≡ true) es

-- ---- what is seen tells what is there

abbrev pub KnowsMembers : Rows → Seen → Type 0
KnowsMembers r s = (m : Name) → fmap.contains_key s.members m ≡ fmap.contains_key r.members m

abbrev pub KnowsHolders : Rows → Seen → Type 0
KnowsHolders r s = (h : Name) → fmap.contains_key s.holders h ≡ fmap.contains_key r.holders h

pub record KnowsOwners (r : Rows) (s : Seen) : Type 0 where
  pub operator : is_some s.operator ≡ true
  pub members : KnowsMembers r s
  pub holders : KnowsHolders r s

-- the next number of a message, and the number of lines
abbrev pub numbers : PurseSeen → ℕ × ℕ
numbers x = (x.next_message, x.line_count)

abbrev pub numbers_of : PurseRow → ℕ × ℕ
numbers_of x = (x.next_message, x.purse.lines)

abbrev pub KnowsPurses : Rows → Seen → Type 0
KnowsPurses r s = (p : Name) → option_map numbers (fmap.get s.purses p) ≡ option_map numbers_of (fmap.get r.purses p)

-- ---- changes that keep it

module _ {V W : Type 0} (v : V → W) (g : V → V) (same : (x : V) → v (g x) ≡ v x) where
  kept_changed : (m : FinMap name_cmp V) (k q : Name) → option_map v (fmap.get (changed_at m k g) q) ≡ option_map v (fmap.get m q)
  kept_changed m k q = ap (option_map v) (get-changed m k g q) ∙ by_case (is_name q k) (fmap.get m q)
    where
      by_case : (b : Bool) (o : Option V) → option_map v (cond b (option_map g o) o) ≡ option_map v o
      by_case true None = refl
      by_case true (Some x) = ap Some (same x)
      by_case false o = refl

pub there_mapped : {V W : Type 0} (v : V → W) (o : Option V) → is_some (option_map v o) ≡ is_some o
there_mapped v None = refl
there_mapped v (Some x) = refl

abbrev any : {V : Type 0} → V → Bool
any x = true

there_changed : {V : Type 0} (g : V → V) (m : FinMap name_cmp V) (k q : Name) → fmap.contains_key (changed_at m k g) q ≡ fmap.contains_key m q
there_changed g m k q = sym (there_mapped any _) ∙ ap is_some (kept_changed any g (λ _. refl) m k q) ∙ there_mapped any _

module _ (r : Rows) where
  token_members : (s : Seen) (e : Token × Caller) → KnowsMembers r s → KnowsMembers r (with_token s e)
  token_members s (t, Operator) h = h
  token_members s (t, Clerk n) h = λ m. there_changed _ s.members n m ∙ h m
  token_members s (t, Holder i) h = h

  pub token_holders : (s : Seen) (e : Token × Caller) → KnowsHolders r s → KnowsHolders r (with_token s e)
  token_holders s (t, Operator) h = h
  token_holders s (t, Clerk n) h = h
  token_holders s (t, Holder i) h = λ q. there_changed _ s.holders i q ∙ h q

  pub token_operator : (s : Seen) (e : Token × Caller) → is_some s.operator ≡ true → is_some (with_token s e).operator ≡ true
  token_operator s (t, Operator) h = refl
  token_operator s (t, Clerk n) h = h
  token_operator s (t, Holder i) h = h

  pub token_owners : (s : Seen) (e : Token × Caller) → KnowsOwners r s → KnowsOwners r (with_token s e)
  token_owners s e h = record {
    operator = token_operator s e h.operator;
    members = token_members s e h.members;
    holders = token_holders s e h.holders;
  }

  pub purse_holders : (s : Seen) (e : Name × PurseRow) → KnowsHolders r s → KnowsHolders r (with_purse s e)
  purse_holders s e h = λ q. there_changed _ s.holders e.1.holder q ∙ h q

  pub message_purses : (s : Seen) (e : (Name × ℕ) × Message) → KnowsPurses r s → KnowsPurses r (with_message s e)
  message_purses s e h = λ p. kept_changed numbers _ (λ _. refl) s.purses e.0.0 p ∙ h p

  pub line_purses : (s : Seen) (e : (Name × ℕ) × LineRow) → KnowsPurses r s → KnowsPurses r (with_line s e)
  line_purses s e h = λ p. kept_changed numbers _ (λ _. refl) s.purses e.0.0 p ∙ h p

  -- ---- the same test of a row

  pub owner_fits : (s : Seen) (o : Option Token) (c : Caller) → is_some o ≡ true → KnowsMembers r s → KnowsHolders r s → fits_caller s o c ≡ has_owner r c
  owner_fits s None c some m h = absurd (cc)
  owner_fits s (Some t) Operator some m h = refl
  owner_fits s (Some t) (Clerk n) some m h = m n
  owner_fits s (Some t) (Holder i) some m h = h i

  seen_where : (o : Option PurseSeen) (q : Option PurseRow) (test : ℕ × ℕ → Bool) → option_map numbers o ≡ option_map numbers_of q
      → so_where (λ x. test (numbers x)) o ≡ so_where (λ x. test (numbers_of x)) q
  seen_where None None test e = refl
  seen_where None (Some x) test e = absurd (cc)
  seen_where (Some x) None test e = absurd (cc)
  seen_where (Some x) (Some y) test e = ap test (same_Some _ _ e)

  pub message_fits : (s : Seen) (e : (Name × ℕ) × Message) → KnowsPurses r s → fits_message s e ≡ is_awaited r e
  message_fits s e h = ap (λ b. b && is_filled e.1) (seen_where _ _ (λ n. nat_lt e.0.1 n.0) (h e.0.0))

  pub line_fits : (s : Seen) (e : (Name × ℕ) × LineRow) → KnowsPurses r s → fits_line s e ≡ is_counted r e
  line_fits s e h = seen_where _ _ (λ n. nat_le 1 e.0.1 && nat_le e.0.1 n.1) (h e.0.0)

  pub purse_there : (s : Seen) (p : Name) → KnowsPurses r s → has_purse s p ≡ fmap.contains_key r.purses p
  purse_there s p h = sym (there_mapped numbers _) ∙ ap is_some (h p) ∙ there_mapped numbers_of _

-- ---- the passes over rows

module _ (r : Rows) where
  abbrev pub holder_pass : Pass fits_holder with_holder
  holder_pass = record { test = has_member r; Known = KnowsMembers r; says = λ s e k. k e.1; step = λ s e k. k }

  abbrev pub token_pass : Pass fits_token with_token
  token_pass = record {
    test = λ e. has_owner r e.1;
    Known = KnowsOwners r;
    says = λ s e k. owner_fits r s s.operator e.1 k.operator k.members k.holders;
    step = token_owners r;
  }

  abbrev pub purse_pass : Pass fits_purse with_purse
  purse_pass = record { test = has_holder r; Known = KnowsHolders r; says = λ s e k. k e.1.holder; step = purse_holders r }

  abbrev pub message_pass : Pass fits_message with_message
  message_pass = record { test = is_awaited r; Known = KnowsPurses r; says = message_fits r; step = message_purses r }

  abbrev pub line_pass : Pass fits_line with_line
  line_pass = record { test = is_counted r; Known = KnowsPurses r; says = line_fits r; step = line_purses r }

  -- of rows that add nothing
  abbrev pub there_pass : {E : Type 0} → (purse : E → Name) → Pass (λ s e. has_purse s (purse e)) (λ s e. s)
  there_pass purse = record {
    test = λ e. fmap.contains_key r.purses (purse e);
    Known = KnowsPurses r;
    says = λ s e k. purse_there r s (purse e) k;
    step = λ s e k. k;
  }
