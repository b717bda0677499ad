-- The first row of tokens is the operator's, where all are gone over and what is seen is whole.
use Rattle.std.proofs.Common.{◌≡◌, inl, inr, ℕ, List, [], ◌∷◌, ◌&&◌, refl, sym, ◌∙◌, ap, Option, Some, None, Bool, true, is_some, arith}
use Rattle.std.proofs.lemmas.Bool.{cases_Bool}
use Rattle.mx_pay.specs.Details.{Details}
use Rattle.mx_book.specs.World.{Name, Token}
use Rattle.mx_book.specs.declared.values.Caller.{Caller}
use Rattle.mx_book.specs.declared.values.Caller.TheVariants.{Operator, Clerk, Holder}
use Rattle.mx_book.specs.declared.values.Redemption.{Redemption}
use Rattle.mx_audit.specs.Seen.{Seen, nothing_seen, seen_all, is_whole, fits_member, with_member, fits_holder, with_holder, fits_token, with_token, fits_purse, with_purse, fits_message, with_message, fits_line, with_line, has_purse}
use Rattle.mx_audit.specs.Fed.{Fed, and_all, and_of_purses, seen_members, seen_holders, seen_tokens, seen_purses, seen_inbox, seen_lines, seen_tray, seen_archive, seen_loads, seen_fed}
use Rattle.mx_audit.proofs.PassLemmas.{after, kept}
use Rattle.mx_audit.proofs.FitLemmas.{chained}

-- what is seen after rows that were gone over, whatever they fit
ended : {E : Type 0} (fits : Seen → E → Bool) (next : Seen → E → Seen) (s : Seen) (es : List E) (t : Seen)
    → seen_all fits next s es ≡ Some t → t ≡ after next s es
ended fits next s [] t h = grind arith
ended fits next s (e ∷ es) t h =
    elim (cases_Bool (fits s e)) [
      | inl so ↦ ended fits next (next s e) es t (rw so at h)
      | inr not_so ↦ absurd (let none = rw not_so at h in cc)
    ]

-- what is seen in the end has the operator that was seen before
abbrev SameOperator : Option Seen → Option Seen → Type 0
SameOperator old new = (t : Seen) → new ≡ Some t → (s : Seen) × (old ≡ Some s) × (t.operator ≡ s.operator)

operator_kept : {E : Type 0} (fits : Seen → E → Bool) (next : Seen → E → Seen) → ((s : Seen) (e : E) → (next s e).operator ≡ s.operator)
    → (es : List E) (old new : Option Seen) → SameOperator old new → SameOperator old (and_all fits next es new)
operator_kept fits next same es old new since t h =
    let before = chained (λ s. seen_all fits next s es) new t h in
    let at = since before.0 before.1 in
    (at.0, at.1, ap (λ u. u.operator) (ended fits next before.0 es t before.2) ∙ kept next (λ u. u.operator) same before.0 es ∙ at.2)

of_purses_kept : {E : Type 0} (purse : E → Name) (es : List E) (old new : Option Seen) → SameOperator old new → SameOperator old (and_of_purses purse es new)
of_purses_kept purse es = operator_kept (λ s e. has_purse s (purse e)) (λ s e. s) (λ _ _. refl) es

since_tokens : (f : Fed) → SameOperator (seen_tokens f) (seen_fed f)
since_tokens f =
    let tokens = seen_tokens f in
    of_purses_kept (λ (e : (Name × Name) × Redemption). e.0.0) f.redemptions tokens (seen_loads f)
    (of_purses_kept (λ (e : (Name × Name) × ℕ). e.0.0) f.loads tokens (seen_archive f)
    (of_purses_kept (λ (e : Name × Details). e.0) f.archive tokens (seen_tray f)
    (of_purses_kept (λ (e : Name × Details). e.0) f.tray tokens (seen_lines f)
    (operator_kept fits_line with_line (λ _ _. refl) f.lines tokens (seen_inbox f)
    (operator_kept fits_message with_message (λ _ _. refl) f.inbox tokens (seen_purses f)
    (operator_kept fits_purse with_purse (λ _ _. refl) f.purses tokens (seen_tokens f) (λ t h. (t, h, refl))))))))

none_before : (f : Fed) (s : Seen) → seen_holders f ≡ Some s → s.operator ≡ None
none_before f s h =
    let members = operator_kept fits_holder with_holder (λ _ _. refl) f.holders (seen_members f) (seen_members f) (λ t at. (t, at, refl)) s h in
    members.2 ∙ ap (λ u. u.operator) (ended fits_member with_member nothing_seen f.members members.0 members.1)
    ∙ kept with_member (λ u. u.operator) (λ _ _. refl) nothing_seen f.members

first_is : (s : Seen) (es : List (Token × Caller)) (t : Seen) → s.operator ≡ None → seen_all fits_token with_token s es ≡ Some t → is_some t.operator ≡ true
    → (token : Token) × (rest : List (Token × Caller)) × (es ≡ (token, Operator) ∷ rest)
first_is s [] t none h some = absurd (let same : s ≡ t = grind arith in let o = ap (λ u. is_some u.operator) same in grind arith)
first_is s ((token, Operator) ∷ es) t none h some = (token, es, refl)
first_is s ((token, Clerk m) ∷ es) t none h some = absurd (let no = rw none at h in cc)
first_is s ((token, Holder i) ∷ es) t none h some = absurd (let no = rw none at h in cc)

-- an operator was seen where what is seen is whole
whole_operator : (a b c d : Bool) → (a && b && c && d) ≡ true → a ≡ true
whole_operator a b c d h = grind arith

-- the first row of tokens is the operator's
pub first_token : (f : Fed) (s : Seen) → seen_fed f ≡ Some s → is_whole s ≡ true
    → (t : Token) × (rest : List (Token × Caller)) × (f.tokens ≡ (t, Operator) ∷ rest)
first_token f s h whole =
    let after = since_tokens f s h in
    let before = chained (λ s. seen_all fits_token with_token s f.tokens) (seen_holders f) after.0 after.1 in
    first_is before.0 f.tokens after.0 (none_before f before.0 before.1) before.2 (ap is_some (sym after.2) ∙ whole_operator _ _ _ _ whole)
