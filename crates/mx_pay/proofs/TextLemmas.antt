-- Details and logs within their limits have one text each.
use Rattle.std.proofs.Common.{◌≡◌, ℕ, List, [], ◌∷◌, length, Some, Option, refl, sym, ap, ◌∙◌, arith}
use Rattle.mx_pay.specs.Limits.{most_entries}
use Rattle.mx_pay.specs.Details.{Details, IsDetails}
use Rattle.mx_pay.specs.Codes.{code, entry_text}
use Rattle.mx_pay.specs.Reading.{entry_of, entries_of}
use Rattle.mx_pay.specs.Log.{Entries, IsLogValue, none_logged}
use Rattle.mx_pay.proofs.EntryLemmas.{entry_again}
use Rattle.mx_pay.proofs.CodeLemmas.{only_in, none_only}

pub same_entry : (d e : Details) → IsDetails d → IsDetails e → entry_text d ≡ entry_text e → d ≡ e
same_entry d e one two h = let it : ◌≡◌ {A = Option Details} (Some d) (Some e) = sym (entry_again d one) ∙ ap entry_of h ∙ entry_again e two in cc

pub same_code : (a b : Entries) → IsLogValue a → IsLogValue b → code a ≡ code b → a ≡ b
same_code a b one two h = by_text (code a) refl
  where
    by_text : (t : List ℕ) → code a ≡ t → a ≡ b
    by_text [] e = sym (none_only [] refl a (sym e)) ∙ none_only [] refl b (sym e ∙ h)
    by_text (c ∷ cs) e =
        let first = only_in (code a) (entries_of most_entries (code a) none_logged) refl (λ n. omega (arith, ap length (sym e ∙ n))) a one refl in
        let second = only_in (code a) (entries_of most_entries (code a) none_logged) refl (λ n. omega (arith, ap length (sym e ∙ n))) b two h in
        let it : ◌≡◌ {A = Option Entries} (Some a) (Some b) = sym first ∙ second in cc
