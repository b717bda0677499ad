-- What always holds of a purse survives its operations, and none of them changes its name.
use Rattle.std.proofs.Common.{◌≡◌, ℕ, ◌+◌, ◌<◌, ◌≤◌, Bool, true, false, cond, ◌&&◌, List, refl, sym, ◌∙◌, ap, subst, Option, Some, None, Ok, Err, arith}
use Rattle.std.proofs.lemmas.Bool.{leb-true, false_from_ne_true}
use Rattle.std.specs.Prelude.{nat_le, is_some, IsNone, IfSome, ◌↔◌}
use Rattle.std.proofs.lemmas.Bool.Decides.{nat_tests}
use Rattle.mx_pay.specs.Limits.{most_number, most_entries}
use Rattle.mx_pay.specs.Details.{Details, IsDetails}
use Rattle.mx_pay.specs.Log.{IsLogValue, Entries, log_len, has_logged, none_logged}
use Rattle.std.specs.Cmp.{first_so, second_so}
use Rattle.mx_pay.proofs.SameLemmas.{same_details, names_alike, names_unlike, has-with_entry, has-none_logged, none_valid, with_entry_valid}
use Rattle.mx_purse.specs.declared.status.Status.{Status}
use Rattle.mx_purse.specs.declared.status.Status.TheVariants.{Epr, Epv, Epa}
use Rattle.mx_purse.specs.declared.message.Message.{Message}
use Rattle.mx_purse.specs.declared.message.Message.TheVariants.{Req, Val, Ack, Clear}
use Rattle.mx_purse.specs.declared.message.Handled.{Handled}
use Rattle.mx_purse.specs.declared.message.Handled.TheVariants as took
use Rattle.mx_purse.specs.declared.refusals.StartRefusal.TheVariants.{SamePurse, NotEnough}
use Rattle.mx_purse.specs.State.{State, IsPurse, details_of, IsInStatus, IsOwnEntry}
use Rattle.mx_purse.specs.Operations.{or_refused, unless_refused, pending, with_pending, lines_with, aborted, start_worn, start_from_refusal, start_to_refusal, from_details, to_details, started, expects_req, expects_val, expects_ack, expects_clear, handled, after_message, load_refusal, loaded, redeem_refusal, redeemed}

-- ---- abort

-- details are within their limits and aren't logged, and the log has room for them
record CanLog (log : Entries) (d : Details) : Type 0 where
  valid : IsDetails d
  absent : has_logged log d ≡ false
  room : log_len log < most_entries

can_log_in : (p : State) (s : Status) → IsInStatus p s → IfSome (details_of s) IsDetails → (d : Details) → pending s ≡ Some d → CanLog p.log d
can_log_in p s h valid d e =
    let can : IsDetails d × (has_logged p.log d ≡ false) × (log_len p.log < most_entries) = grind arith in record { valid = can.0; absent = can.1; room = can.2 }

-- what is pending is within its limits
pub pending_valid : (s : Status) → IfSome (details_of s) IsDetails → IfSome (pending s) IsDetails
pending_valid (Epv d) valid = valid
pending_valid (Epa d) valid = valid
pending_valid s valid = tt

-- the lines that an abort leaves are few
lines_in : (p : State) (s : Status) → IsInStatus p s → lines_with p.lines (pending s) ≤ most_number + 2
lines_in p s h = grind arith

-- the log that an abort leaves is within its limits
log_of : (log : Entries) (o : Option Details) → ((d : Details) → o ≡ Some d → CanLog log d) → IsLogValue log → IsLogValue (with_pending log o)
log_of log None h valid = valid
log_of log (Some d) h valid = let can = h d refl in with_entry_valid log d valid can.valid can.absent can.room

-- what is pending is the purse's own
own_pending : (p : State) (s : Status) → IsInStatus p s → (d : Details) → pending s ≡ Some d → IsOwnEntry p d
own_pending p s h d e = grind arith

own_after : (p : State) (o : Option Details) → ((d : Details) → o ≡ Some d → IsOwnEntry p d) → ((d : Details) → has_logged p.log d ≡ true → IsOwnEntry p d)
    → (e : Details) → has_logged (with_pending p.log o) e ≡ true → IsOwnEntry p e
own_after p None own entries e h = entries e h
own_after p (Some d) own entries e h = grind (arith, has-with_entry p.log d e, same_details e d, own d refl, entries e)

-- the entries that an abort leaves are the purse's own
own_aborted : (p : State) → IsPurse p → (e : Details) → has_logged (aborted p).log e ≡ true → IsOwnEntry p e
own_aborted p h = own_after p (pending p.status) (own_pending p p.status h.status) h.entries

-- a purse is one after an abort
pub aborted_is : (p : State) → IsPurse p → IsPurse (aborted p)
aborted_is p h = record {
  name = h.name;
  balance = h.balance;
  next = h.next;
  status = lines_in p p.status h.status;
  details = tt;
  log = log_of p.log (pending p.status) (can_log_in p p.status h.status h.details) h.log;
  entries = own_aborted p h;
}

-- ---- the starts

-- what the guards that both starts have say of a purse
pub record IsFit (p : State) : Type 0 where
  pub room : log_len (aborted p).log < most_entries
  pub next : p.next < most_number
  pub lines : p.lines < most_number

-- the guards of both starts passed
is_fit : (p : State) → start_worn p ≡ None → IsFit p
is_fit p h =
    let fit : (log_len (aborted p).log < most_entries) × (p.next < most_number) × (p.lines < most_number) = grind (arith, nat_tests) in
    record { room = fit.0; next = fit.1; lines = fit.2 }

-- the lines after a start are few
lines_started : (p : State) (o : Option Details) → p.lines < most_number → lines_with p.lines o ≤ most_number
lines_started p o h = grind arith

-- an entry of the purse is one after a start
own_later : (p : State) (s : Status) (e : Details) → IsOwnEntry p e → IsOwnEntry (started p s) e
own_later p s e h = grind arith

-- a purse is one after a start into a status that fits it
started_is : (p : State) (s : Status) → IsPurse p → IsFit p → IsInStatus (started p s) s → IfSome (details_of s) IsDetails → IsPurse (started p s)
started_is p s h fit status details = record {
  name = h.name;
  balance = h.balance;
  next = let k : p.next < most_number = fit.next in omega arith;
  status = status;
  details = details;
  log = (aborted_is p h).log;
  entries = λ e there. own_later p s e (own_aborted p h e there);
}

-- details with the purse's next number aren't among its own yet
not_own : (p : State) (d : Details) → (d.from ≡ p.name → d.from_seq ≡ p.next) → (d.to ≡ p.name → d.to_seq ≡ p.next) → IsOwnEntry p d → ⊥
not_own p d from to h = grind arith

-- a purse is one after a start of a payment to the peer that isn't refused
pub started_from_is : (p : State) (peer : List ℕ) (value seq : ℕ) → IsPurse p → IsDetails (from_details p peer value seq) → start_from_refusal p peer value ≡ None
    → IsPurse (started p (Epr (from_details p peer value seq)))
started_from_is p peer value seq h valid free =
    let rises : p.next < p.next + 1 = omega arith in
    let fit : IsFit p = is_fit p (grind arith) in
    let new = not_own p (from_details p peer value seq) (λ _. refl) (λ same. absurd (valid.apart (sym same))) in
    started_is p _ h fit
    (refl, grind (arith, nat_tests, free), rises, false_from_ne_true _ (λ there. new (own_aborted p h _ there)), fit.room, lines_started p (pending p.status) fit.lines) valid

-- a purse is one after a start of a payment from the peer that isn't refused
pub started_to_is : (p : State) (peer : List ℕ) (value seq : ℕ) → IsPurse p → IsDetails (to_details p peer value seq) → start_to_refusal p peer ≡ None
    → IsPurse (started p (Epv (to_details p peer value seq)))
started_to_is p peer value seq h valid free =
    let rises : p.next < p.next + 1 = omega arith in
    let fit : IsFit p = is_fit p (grind arith) in
    let new = not_own p (to_details p peer value seq) (λ same. absurd (valid.apart same)) (λ _. refl) in
    started_is p _ h fit
    (refl, rises, false_from_ne_true _ (λ there. new (own_aborted p h _ there)), fit.room, lines_started p (pending p.status) fit.lines) valid

-- the refusals of each start by the guards
pub from_same : (p : State) (peer : List ℕ) (value : ℕ) → p.name ≡ peer → start_from_refusal p peer value ≡ Some SamePurse
from_same p peer value same = grind (arith, names_alike p.name peer)

pub from_little : (p : State) (peer : List ℕ) (value : ℕ) → (p.name ≡ peer → ⊥) → p.balance < value → start_from_refusal p peer value ≡ Some NotEnough
from_little p peer value apart less = grind (arith, nat_tests, names_unlike p.name peer apart)

pub from_rest : (p : State) (peer : List ℕ) (value : ℕ) → (p.name ≡ peer → ⊥) → value ≤ p.balance → start_from_refusal p peer value ≡ start_worn p
from_rest p peer value apart enough = grind (arith, nat_tests, names_unlike p.name peer apart)

pub to_same : (p : State) (peer : List ℕ) → p.name ≡ peer → start_to_refusal p peer ≡ Some SamePurse
to_same p peer same = grind (arith, names_alike p.name peer)

pub to_rest : (p : State) (peer : List ℕ) → (p.name ≡ peer → ⊥) → start_to_refusal p peer ≡ start_worn p
to_rest p peer apart = grind (arith, names_unlike p.name peer apart)

-- ---- the two clauses of a call, where it is refused and where it isn't

pub refused : {A R : Type 0} (o : Option R) (r : R) (a : A) → o ≡ Some r → Err r ≡ or_refused o a
refused o r a h = grind arith

pub kept : {R : Type 0} (o : Option R) (r : R) (p q : State) → o ≡ Some r → p ≡ unless_refused o p q
kept o r p q h = grind arith

pub accepted : {A R : Type 0} (o : Option R) (a : A) → o ≡ None → Ok a ≡ or_refused o a
accepted o a h = grind arith

pub moved : {R : Type 0} (o : Option R) (p q : State) → o ≡ None → q ≡ unless_refused o p q
moved o p q h = grind arith

-- details that are there: the two names differ
pub names_apart : {A : Type 0} {D : Type 0} (o : Option D) (d : D) → (IsNone o ↔ A) → o ≡ Some d → A → ⊥
names_apart o d iff is e = let both : false ≡ true = sym (iff.1 e) ∙ ap is_some is in cc

-- ---- the messages

-- the status in which a message is expected
pub is_epr : (s : Status) (d : Details) → expects_req s d ≡ true → s ≡ Epr d
is_epr (Epr e) d h = ap Epr (same_details e d h)
is_epr s d h = cc

pub is_epv : (s : Status) (d : Details) → expects_val s d ≡ true → s ≡ Epv d
is_epv (Epv e) d h = ap Epv (same_details e d h)
is_epv s d h = cc

pub is_epa : (s : Status) (d : Details) → expects_ack s d ≡ true → s ≡ Epa d
is_epa (Epa e) d h = ap Epa (same_details e d h)
is_epa s d h = cc

-- what holds of a purse that expects a message
pub in_epr : (p : State) (d : Details) → IsPurse p → expects_req p.status d ≡ true → IsInStatus p (Epr d)
in_epr p d h expected = subst (IsInStatus p) (is_epr p.status d expected) h.status

pub in_epv : (p : State) (d : Details) → IsPurse p → expects_val p.status d ≡ true → IsInStatus p (Epv d)
in_epv p d h expected = subst (IsInStatus p) (is_epv p.status d expected) h.status

pub in_epa : (p : State) (d : Details) → IsPurse p → expects_ack p.status d ≡ true → IsInStatus p (Epa d)
in_epa p d h expected = subst (IsInStatus p) (is_epa p.status d expected) h.status

-- a purse is one after each message that it accepts
pub req_is : (p : State) (d : Details) → IsPurse p → expects_req p.status d ≡ true → IsPurse (after_message p (took.Req d))
req_is p d h expected =
    let s : IsInStatus p (Epr d) = in_epr p d h expected in
    let b : p.balance ≤ most_number = h.balance in
    record {
      name = h.name;
      balance = omega arith;
      next = h.next;
      status = (s.0, s.2, s.3, s.4, omega arith);
      details = subst (λ x. IfSome (details_of x) IsDetails) (is_epr p.status d expected) h.details;
      log = h.log;
      entries = h.entries;
    }

pub val_is : (p : State) (d : Details) → IsPurse p → expects_val p.status d ≡ true → p.balance + d.value ≤ most_number → IsPurse (after_message p (took.Val d))
val_is p d h expected below =
    let s : IsInStatus p (Epv d) = in_epv p d h expected in
    record {
      name = h.name;
      balance = below;
      next = h.next;
      status = omega arith;
      details = tt;
      log = h.log;
      entries = h.entries;
    }

pub ack_is : (p : State) (d : Details) → IsPurse p → expects_ack p.status d ≡ true → IsPurse (after_message p (took.Ack d))
ack_is p d h expected =
    let s : IsInStatus p (Epa d) = in_epa p d h expected in
    record {
      name = h.name;
      balance = h.balance;
      next = h.next;
      status = omega arith;
      details = tt;
      log = h.log;
      entries = h.entries;
    }

pub clear_is : (p : State) → IsPurse p → IsPurse (after_message p took.Cleared)
clear_is p h =
    let aborted = aborted_is p h in
    record {
      name = h.name;
      balance = h.balance;
      next = h.next;
      status = aborted.status;
      details = tt;
      log = none_valid;
      entries = λ e there. let no : has_logged none_logged e ≡ false = has-none_logged e in cc;
    }

-- a purse after a message whose guard passes or not is one, if it is one where the guard passes
by_guard : (p : State) (b : Bool) (x : Handled) → IsPurse p → (b ≡ true → IsPurse (after_message p x)) → IsPurse (after_message p (cond b x took.Ignored))
by_guard p true x h is = is refl
by_guard p false x h is = h

-- a purse is one after a message
pub after_message_is : (p : State) (m : Message) → IsPurse p → IsPurse (after_message p (handled p m))
after_message_is p (Req d) h = by_guard p (expects_req p.status d) (took.Req d) h (req_is p d h)
after_message_is p (Val d) h =
    by_guard p (expects_val p.status d && nat_le (p.balance + d.value) most_number) (took.Val d) h
    (λ both. val_is p d h (first_so _ _ both) (leb-true _ _ (second_so (expects_val p.status d) _ both)))
after_message_is p (Ack d) h = by_guard p (expects_ack p.status d) (took.Ack d) h (ack_is p d h)
after_message_is p (Clear set) h = by_guard p (expects_clear p set) took.Cleared h (λ _. clear_is p h)

-- ---- loads and redemptions

status_loaded : (p : State) (amount : ℕ) (s : Status) → p.lines < most_number → IsInStatus p s → IsInStatus (loaded p amount) s
status_loaded p amount s low h = grind arith

-- a purse is one after a load that isn't refused
pub loaded_is : (p : State) (amount : ℕ) → IsPurse p → load_refusal p amount ≡ None → IsPurse (loaded p amount)
loaded_is p amount h free = record {
  name = h.name;
  balance = grind (arith, nat_tests);
  next = h.next;
  status = status_loaded p amount p.status (grind (arith, nat_tests)) h.status;
  details = h.details;
  log = h.log;
  entries = h.entries;
}

-- a purse is one after a redemption that isn't refused
pub redeemed_is : (p : State) (amount : ℕ) → IsPurse p → redeem_refusal p amount ≡ None → IsPurse (redeemed p amount)
redeemed_is p amount h free =
    let b : p.balance ≤ most_number = h.balance in
    let k : lines_with p.lines (pending p.status) ≤ most_number = lines_started p (pending p.status) (grind (arith, nat_tests)) in
    record {
      name = h.name;
      balance = omega arith;
      next = h.next;
      status = omega arith;
      details = tt;
      log = (aborted_is p h).log;
      entries = own_aborted p h;
    }

-- ---- the name stays

pub after_message_name : (p : State) (x : Handled) → (after_message p x).name ≡ p.name
after_message_name p x = grind arith
