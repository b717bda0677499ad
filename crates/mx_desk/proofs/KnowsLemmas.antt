-- What is remembered of a World.
use Rattle.std.proofs.Common.{◌≡◌, sym, subst, ap, ◌∙◌, refl, ℕ, Bool, true, false, List, length, slice_index_or, Option, Some, None, IfSome, if◌then◌else◌, ⊎_elim}
use Rattle.std.proofs.lemmas.Bool.{cases_lt}
use Rattle.std.proofs.lemmas.List.{get_or_past}
use Rattle.std.proofs.lemmas.List.Elements.{All-weaker, All-get_or}
use Rattle.mx_pay.specs.Tokens.{is_token}
use Rattle.mx_book.proofs.NameLemmas.{same_name}
use Rattle.mx_book.specs.World.{World, Token}
use Rattle.mx_book.specs.Reads.{who_of}
use Rattle.mx_book.specs.declared.values.Caller.{Caller}
use Rattle.mx_office.proofs.StayLemmas.{Stays}
use Rattle.mx_desk.specs.Knows.{Knows, remembered, whose, place}

-- what stands at a place is so, or it is nothing
at_place : (w : World) (places : List (Option (Token × Caller))) (i : ℕ) → Knows w places → IfSome (slice_index_or places i None) (λ e. who_of w e.0 ≡ Some e.1)
at_place w places i known =
    let IsSo = λ (place : Option (Token × Caller)). IfSome place (λ e. who_of w e.0 ≡ Some e.1) in
    ⊎_elim (λ inside. All-get_or IsSo places i None inside known) (λ past. subst IsSo (sym (get_or_past places i None past)) tt) (cases_lt i (length places))

whose_is : (w : World) (found : Option (Token × Caller)) (token : Token) → IfSome found (λ e. who_of w e.0 ≡ Some e.1) → IfSome (whose found token) (λ caller. who_of w token ≡ Some caller)
whose_is w None token known = tt
whose_is w (Some e) token known = by_test (is_token e.0 token) refl where
  by_test : (b : Bool) → is_token e.0 token ≡ b → IfSome (if b then Some e.1 else None) (λ caller. who_of w token ≡ Some caller)
  by_test true same = ap (who_of w) (sym (same_name _ _ same)) ∙ known
  by_test false other = tt

-- whose a token is said to be, its caller is
pub remembered_is : (w : World) (places : List (Option (Token × Caller))) (token : Token) → Knows w places → IfSome (remembered places token) (λ caller. who_of w token ≡ Some caller)
remembered_is w places token known = whose_is w (slice_index_or places (place token) None) token (at_place w places (place token) known)

place_on : (w v : World) → Stays w v → (place : Option (Token × Caller)) → IfSome place (λ e. who_of w e.0 ≡ Some e.1) → IfSome place (λ e. who_of v e.0 ≡ Some e.1)
place_on w v stays None h = tt
place_on w v stays (Some e) h = stays.tokens e.0 e.1 h

-- where tokens stay their callers', it stays so
pub knows_on : (w v : World) → Stays w v → (places : List (Option (Token × Caller))) → Knows w places → Knows v places
knows_on w v stays places known =
    All-weaker (λ (place : Option (Token × Caller)). IfSome place (λ e. who_of w e.0 ≡ Some e.1)) (λ place. IfSome place (λ e. who_of v e.0 ≡ Some e.1)) (place_on w v stays) places known
