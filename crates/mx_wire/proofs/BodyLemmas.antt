-- What a body says, from its JSON value.
use Rattle.std.proofs.Common.{◌≡◌, ℕ, List, [], ◌∷◌, Bool, true, false, refl, sym, ◌∙◌, ap}
use Rattle.std.specs.Prelude.{Option, Some, None, Result, Err, IfSome, if◌then◌else◌, is_none, option_and_then}
use Rattle.std.specs.Str.{is_utf8, IsUtf8}
use Rattle.std.proofs.lemmas.Str.{IsUtf8-from_is_utf8, is_utf8-from_IsUtf8}
use Rattle.serde_json.specs.Data.{Data}
use Rattle.serde_json.specs.Read.{read}
use Rattle.mx_pay.specs.Limits.{most_entries}
use Rattle.mx_pay.specs.Details.{Details, IsDetails}
use Rattle.mx_pay.specs.Log.{Entries, IsLogValue, none_logged}
use Rattle.mx_pay.specs.Codes.{code, entry_text, entry_texts}
use Rattle.mx_pay.specs.Reading.{entry_of, entries_of}
use Rattle.mx_pay.proofs.EntryLemmas.{entry_found, entry_valid, entry_again}
use Rattle.mx_pay.proofs.CodeLemmas.{found_in, valid_in, only_in, none_is}
use Rattle.mx_pay.proofs.SameLemmas.{none_valid}
use Rattle.mx_command.specs.declared.values.Command.{Command}
use Rattle.mx_wire.specs.declared.bodies.WireFault.{WireFault}
use Rattle.mx_wire.specs.declared.routes.Route.{Route}
use Rattle.mx_wire.specs.Bodies.{log_of_code, value_of, bare, bare_or, has_body, said, command_of}

pub value_of_text : (body : List ℕ) (d : Data) → IsUtf8 body → read body ≡ Some d → value_of body ≡ Some d
value_of_text body d text reads =
    let utf8 : is_utf8 body ≡ true = is_utf8-from_IsUtf8 body text in
    rw utf8 reads

-- a body that is no text, or reads as nothing, has no value
pub value_of_none : (body : List ℕ) → (IsUtf8 body → read body ≡ None) → value_of body ≡ None
value_of_none body refused = by (is_utf8 body) refl
  where
    by : (b : Bool) → is_utf8 body ≡ b → (if b then read body else None) ≡ None
    by true utf8 = refused (IsUtf8-from_is_utf8 body utf8)
    by false utf8 = refl

pub bare_says : (r : Route) (body : List ℕ) (c : Command) → bare r ≡ Some c → command_of r body ≡ Some c
unfolding command_of
bare_says r body c is = ap (λ o. bare_or o (option_and_then (said r) (value_of body))) is

pub body_says : (r : Route) (body : List ℕ) (d : Data) → bare r ≡ None → value_of body ≡ Some d → command_of r body ≡ said r d
unfolding command_of
body_says r body d none value = rw (none, value) refl

pub says_nothing : (r : Route) (body : List ℕ) → bare r ≡ None → value_of body ≡ None → command_of r body ≡ None
unfolding command_of
says_nothing r body none value = rw (none, value) refl

-- a route whose command is said by a body has none without it
pub bodiless : (r : Route) → true ≡ has_body r → bare r ≡ None
bodiless r is = nothing (bare r) (sym is)
  where
    nothing : (o : Option Command) → is_none o ≡ true → o ≡ None
    nothing None h = refl
    nothing (Some c) h = absurd (cc)

pub same_fault : {X : Type 0} (r : Result X WireFault) (a b : WireFault) → r ≡ Err a → r ≡ Err b → a ≡ b
same_fault r a b e f = cc

-- ---- the log of a code text

-- what reads the code texts of logs, and nothing else, reads a text as its log
pub log_read : (t : List ℕ) (r : Option Entries) → IfSome r (λ log. t ≡ code log) → IfSome r IsLogValue → ((log : Entries) → IsLogValue log → t ≡ code log → r ≡ Some log) → r ≡ log_of_code t
log_read [] r found valid only = only none_logged none_valid (sym (ap entry_texts none_is))
log_read (b ∷ bs) r found valid only = by (entries_of most_entries (b ∷ bs) none_logged) r refl found valid only
  where
    by : (o r : Option Entries) → o ≡ entries_of most_entries (b ∷ bs) none_logged → IfSome r (λ log. b ∷ bs ≡ code log) → IfSome r IsLogValue
        → ((log : Entries) → IsLogValue log → b ∷ bs ≡ code log → r ≡ Some log) → r ≡ o
    by None None e found valid only = refl
    by None (Some log) e found valid only = sym (only_in (b ∷ bs) None e (λ f. cc) log valid found)
    by (Some log) r e found valid only = only log (valid_in (b ∷ bs) (Some log) e) (found_in (b ∷ bs) (Some log) e)

-- ---- the details of an entry

-- what reads the texts of entries, and nothing else, reads a text as its details
pub entry_read : (t : List ℕ) (r : Option Details) → IfSome r (λ d. t ≡ entry_text d) → IfSome r IsDetails
    → ((d : Details) → IsDetails d → t ≡ entry_text d → r ≡ Some d) → r ≡ entry_of t
entry_read t r found valid only = by (entry_of t) r refl found valid only
  where
    by : (o r : Option Details) → o ≡ entry_of t → IfSome r (λ d. t ≡ entry_text d) → IfSome r IsDetails
        → ((d : Details) → IsDetails d → t ≡ entry_text d → r ≡ Some d) → r ≡ o
    by None None e found valid only = refl
    by None (Some d) e found valid only = sym (e ∙ ap entry_of found ∙ entry_again d valid)
    by (Some d) r e found valid only = only d (entry_valid t (Some d) e) (entry_found t (Some d) e)
