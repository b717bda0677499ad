-- Each command of a holder on a purse: its decision is the step's.
use Rattle.std.proofs.Common.{Bool, ◌≡◌, ℕ, ◌+◌, true, false, cond, List, [], ◌∷◌, ◌++◌, Option, Some, None, Ok, Err, refl, sym, ◌∙◌, ap, subst, arith, length, length-append, is_some, option_map, option_and_then, IsTrue, ◌≤◌}
use Rattle.std.specs.Prelude.{◌==◌, ◌&&◌, nat_le}
use Rattle.std.proofs.lemmas.Bool.{or_right}
use Rattle.std.specs.FinMap as fmap
use Rattle.mx_pay.specs.Names.{is_name, is_name_text}
use Rattle.mx_pay.specs.Details.{Details, is_details}
use Rattle.mx_pay.specs.Log.{Entries, has_logged}
use Rattle.mx_pay.proofs.SameLemmas.{has-with_entry, same_logs}
use Rattle.std.specs.Cmp.{second_so}
use Rattle.mx_purse.specs.State.{State, IsPurse, details_of}
use Rattle.mx_purse.specs.declared.status.Status.{Status}
use Rattle.mx_purse.specs.declared.message.Message.{Message}
use Rattle.mx_purse.specs.declared.message.Message.TheVariants.{Req, Val, Ack, Clear}
use Rattle.mx_purse.specs.declared.message.Handled.{Handled}
use Rattle.mx_purse.specs.declared.message.Handled.TheVariants as took
use Rattle.mx_purse.specs.declared.refusals.StartRefusal.{StartRefusal}
use Rattle.mx_purse.specs.declared.refusals.RedeemRefusal.{RedeemRefusal}
use Rattle.mx_purse.specs.Operations.{or_refused, unless_refused, pending, with_pending, lines_with, aborted, started, expects_req, expects_val, expects_ack, expects_clear, handled, after_message, sent_for, redeem_refusal, redeemed}
use Rattle.mx_purse.proofs.OperationLemmas.{aborted_is, after_message_is, after_message_name, redeemed_is}
use Rattle.mx_book.specs.declared.edits.Edit.TheVariants.{SetPurse, DropMessage, AddRedemption}
use Rattle.mx_book.specs.declared.values.Line.{Line}
use Rattle.mx_book.specs.declared.values.LineKind.{LineKind}
use Rattle.mx_book.specs.declared.values.LineKind.TheVariants as kind
use Rattle.mx_book.specs.World.{World, Row, Holding, Name, set_row}
use Rattle.std.specs.List.{AllByRecursion}
use Rattle.std.specs.Prelude.{IfSome}
use Rattle.mx_pay.specs.Limits.{most_amount, most_number}
use Rattle.mx_pay.specs.Details.{IsDetails}
use Rattle.mx_purse.specs.Messages.{IsMessage}
use Rattle.mx_purse.proofs.OperationLemmas.{pending_valid}
use Rattle.mx_book.specs.Conditions.{IsWorld, AreNumbered, IsLine, MayLie}
use Rattle.mx_book.specs.Limits.{most_lines}
use Rattle.mx_book.specs.Reads.{from_row, own_purse, inbox_of, page, lines_of, message_of, redemption_of}
use Rattle.mx_book.proofs.FoundLemmas.{value_found}
use Rattle.std.proofs.ByRecursion.{All-append as all_append}
use Rattle.mx_book.proofs.MoneyLemmas.{with_redemption, redemptions_stay, redemption_leads, redemption_suits}
use Rattle.mx_book.proofs.PurseLemmas.{with_lines, line_edits, discard_leads, discard_suits, discard_stays}
use Rattle.mx_office.specs.declared.values.Decided.{Decided}
use Rattle.mx_command.specs.declared.values.Reply.{Reply}
use Rattle.mx_command.specs.declared.values.Reply.TheVariants as reply
use Rattle.mx_command.specs.declared.values.Refusal.TheVariants.{NoSuchMessage, NoSuchPurse, RefReused}
use Rattle.mx_office.specs.Step.{Deed, tell, unless, on_found, in_place, refusal_of_start, refusal_of_redeem, abort_line, payment_line, message_line, money_line, listed, with_aborted, inbox, statement, discard, abort, handle, handle_message, redeem, on_own, holding_for}
use Rattle.mx_office.specs.Decides.{Decides, placed, purse_edits, redeem_edits}
use Rattle.mx_office.proofs.CaseLemmas.{by_cond}
use Rattle.mx_office.proofs.DecideLemmas.{edits_decide, edit_decides, told_decides}
use Rattle.mx_office.proofs.AccountLemmas.{IsOwn, IsSent, Follows, in_tray, is_own, own_there, own_told, numbered_after, is_next, changed_decides}
use Rattle.mx_office.proofs.OwnLemmas.{absent}

-- ---- what is read

-- a rule that tells what the purse says, and changes nothing
pub purse_told : (w : World) (h p : Name) (q : State) (f : Holding → Deed Holding) (r : Reply) (d : Decided) → IsWorld w → own_purse w h p ≡ Some q → ((a : Holding) → a.purse ≡ q → f a ≡ tell a r) → d.reply ≡ r → d.edits ≡ [] → Decides w (on_own w h p f) d
purse_told w h p q f r d is e f_is = let own = is_own w h p q e in own_told w h p q own f r d is (f_is own.row.holding own.purse)

pub inbox_decides : (w : World) (h p : Name) (d : Decided) → IsWorld w → is_some (own_purse w h p) ≡ true → d.reply ≡ reply.Inbox (inbox_of w p) → d.edits ≡ [] → Decides w (on_own w h p inbox) d
unfolding inbox
inbox_decides w h p d is there reply_is =
    let found = value_found (own_purse w h p) there in
    let own = is_own w h p found.0 found.1 in
    own_told w h p found.0 own inbox (reply.Inbox (fmap.entries own.row.holding.inbox)) d is refl (reply_is ∙ ap (λ o. reply.Inbox (from_row [] (λ (x : Row). fmap.entries x.holding.inbox) o)) own.at)

pub statement_decides : (w : World) (h p : Name) (after : ℕ) (d : Decided) → IsWorld w → is_some (own_purse w h p) ≡ true → d.reply ≡ reply.Statement (lines_of w p after most_lines) → d.edits ≡ []
    → Decides w (on_own w h p (statement after)) d
unfolding statement
statement_decides w h p after d is there reply_is =
    let found = value_found (own_purse w h p) there in
    let own = is_own w h p found.0 found.1 in
    own_told w h p found.0 own (statement after) (reply.Statement (page after most_lines own.row.holding.lines)) d is refl (reply_is ∙ ap (λ o. reply.Statement (page after most_lines (from_row [] (λ (x : Row). x.holding.lines) o))) own.at)

-- a purse that isn't the holder's, or isn't there, is refused whatever is asked
not_own_row : (h : Name) (r : Row) (b : Bool) → is_name h r.holder ≡ b → cond b (Some r.holding.purse) None ≡ None → holding_for h r ≡ None
not_own_row h r true t e = absurd (cc)
not_own_row h r false t e = rw t refl

not_own : (h : Name) (o : Option Row) → from_row None (λ r. cond (is_name h r.holder) (Some r.holding.purse) None) o ≡ None → option_and_then (holding_for h) o ≡ None
not_own h None e = refl
not_own h (Some r) e = not_own_row h r (is_name h r.holder) refl e

pub foreign_decides : (w : World) (h p : Name) (f : Holding → Deed Holding) (d : Decided) → IsWorld w → own_purse w h p ≡ None → d.reply ≡ reply.Refused NoSuchPurse → d.edits ≡ [] → Decides w (on_own w h p f) d
foreign_decides w h p f d is none = told_decides w (on_own w h p f) (reply.Refused NoSuchPurse) d is (rw (not_own h (fmap.get w.rows p) none) refl)

-- ---- messages

-- the message of a number, in the row that is there
message_at : (w : World) (p : Name) (n : ℕ) (r : Row) (o : Option Message) → fmap.get w.rows p ≡ Some r → message_of w p n ≡ o → fmap.get r.holding.inbox n ≡ o
message_at w p n r o at is = sym (ap (from_row None (λ (x : Row). fmap.get x.holding.inbox n)) at) ∙ is

-- no message has that number
no_message : (w : World) (h p : Name) (n : ℕ) (q : State) (f : Holding → Message → Deed Holding) (d : Decided) → IsWorld w → own_purse w h p ≡ Some q → message_of w p n ≡ None → d.reply ≡ reply.Refused NoSuchMessage → d.edits ≡ []
    → Decides w (on_own w h p (λ a. on_found a NoSuchMessage (fmap.get a.inbox n) (f a))) d
no_message w h p n q f d is e none =
    let own = is_own w h p q e in
    own_told w h p q own _ (reply.Refused NoSuchMessage) d is (ap (λ o. on_found own.row.holding NoSuchMessage o (f own.row.holding)) (message_at w p n own.row None own.at none))

pub no_message_decides : (w : World) (h p : Name) (n : ℕ) (d : Decided) → IsWorld w → is_some (own_purse w h p) ≡ true → is_some (message_of w p n) ≡ false → d.reply ≡ reply.Refused NoSuchMessage → d.edits ≡ [] → Decides w (on_own w h p (discard n)) d
unfolding discard
no_message_decides w h p n d is there none = let found = value_found (own_purse w h p) there in no_message w h p n found.0 _ d is found.1 (absent _ none)

pub discard_decides : (w : World) (h p : Name) (n : ℕ) (d : Decided) → IsWorld w → is_some (own_purse w h p) ≡ true → is_some (message_of w p n) ≡ true → d.reply ≡ reply.Discarded → d.edits ≡ DropMessage p n ∷ [] → Decides w (on_own w h p (discard n)) d
unfolding discard
discard_decides w h p n d is there message =
    let found = value_found (own_purse w h p) there in
    let own = is_own w h p found.0 found.1 in
    let m = value_found _ message in
    let here : fmap.get own.row.holding.inbox n ≡ Some m.0 = message_at w p n own.row (Some m.0) own.at m.1 in
    edit_decides w (on_own w h p (discard n)) (DropMessage p n) reply.Discarded d
    (own_there w h p found.0 own (discard n)
    ∙ ap (λ o. in_place (λ b. set_row w p (record own.row { holding = b })) (on_found own.row.holding NoSuchMessage o (λ _. tell (record own.row.holding { inbox = fmap.remove own.row.holding.inbox n }) reply.Discarded))) here
    ∙ ap (λ x. tell x reply.Discarded) (sym (discard_leads w p n own.row own.at)))
    (discard_suits w p n own.row own.at (ap is_some here)) (subst IsWorld (sym (discard_leads w p n own.row own.at)) (discard_stays w p n own.row own.at is))

pub nothing_handled_decides : (w : World) (h p : Name) (n : ℕ) (q : State) (d : Decided) → IsWorld w → own_purse w h p ≡ Some q → message_of w p n ≡ None → d.reply ≡ reply.Refused NoSuchMessage → d.edits ≡ [] → Decides w (on_own w h p (handle n)) d
unfolding handle
nothing_handled_decides w h p n q d is e none = no_message w h p n q handle_message d is e none

-- ---- the lines of payments

payment_valid : (q : State) (k : LineKind) (d : Details) → q.balance ≤ most_number → IsDetails d → IsLine (payment_line q k d)
payment_valid q k d balance valid = record { amount = valid.value; balance = balance; note = valid }

logged_case : (log : Entries) (o : Option Details) (d : Details) → has_logged log d ≡ true → has_logged (with_pending log o) d ≡ true
logged_case log None d there = there
logged_case log (Some e) d there = has-with_entry log e d ∙ or_right (is_details d e) (has_logged log d) there

abort_numbered : (p q : State) (o : Option Details) → q.lines ≡ lines_with p.lines o → AreNumbered (p.lines + 1) (listed (abort_line q o)) × (q.lines ≡ p.lines + length (listed (abort_line q o)))
abort_numbered p q None is = (tt, omega (arith, is))
abort_numbered p q (Some d) is = ((is, tt), omega (arith, is))

abort_line_valid : (q : State) (o : Option Details) → q.balance ≤ most_number → IfSome o IsDetails → AllByRecursion IsLine (listed (abort_line q o))
abort_line_valid q None balance valid = tt
abort_line_valid q (Some d) balance valid = (payment_valid q _ d balance valid, tt)

-- ---- messages that are handled

message_numbered : (p : State) (x : Handled) → AreNumbered (p.lines + 1) (listed (message_line (after_message p x) (pending p.status) x)) × ((after_message p x).lines ≡ p.lines + length (listed (message_line (after_message p x) (pending p.status) x)))
message_numbered p (took.Req d) = ((refl, tt), omega arith)
message_numbered p (took.Val d) = ((refl, tt), omega arith)
message_numbered p (took.Ack d) = (tt, omega arith)
message_numbered p took.Cleared = abort_numbered p (after_message p took.Cleared) (pending p.status) refl
message_numbered p took.Ignored = (tt, omega arith)

-- what is logged stays so after a message, but for a clear of a set that has it
abbrev StaysLogged : State → Details → Handled → Type 0
StaysLogged p d x = has_logged (after_message p x).log d ≡ true

message_logged : (p : State) (m : Message) (d : Details) → ((set : Entries) → m ≡ Clear set → has_logged set d ≡ true → ⊥) → has_logged p.log d ≡ true → StaysLogged p d (handled p m)
message_logged p (Req e) d none there = by_cond (StaysLogged p d) (expects_req p.status e) (took.Req e) took.Ignored (λ _. there) (λ _. there)
message_logged p (Val e) d none there = by_cond (StaysLogged p d) (expects_val p.status e && nat_le (p.balance + e.value) most_number) (took.Val e) took.Ignored (λ _. there) (λ _. there)
message_logged p (Ack e) d none there = by_cond (StaysLogged p d) (expects_ack p.status e) (took.Ack e) took.Ignored (λ _. there) (λ _. there)
message_logged p (Clear set) d none there = by_cond (StaysLogged p d) (expects_clear p set) took.Cleared took.Ignored
    (λ expected.
    let same : set ≡ (aborted p).log = same_logs set (aborted p).log (second_so _ _ expected) in
    absurd (none set refl (ap (λ log. has_logged log d) same ∙ logged_case p.log (pending p.status) d there)))
    (λ _. there)

-- what is handled has the details of its message
abbrev IsTaken : Handled → Type 0
IsTaken (took.Req d) = IsDetails d
IsTaken (took.Val d) = IsDetails d
IsTaken (took.Ack d) = IsDetails d
IsTaken took.Cleared = Unit {0}
IsTaken took.Ignored = Unit {0}

taken_valid : (p : State) (m : Message) → IsMessage m → IsTaken (handled p m)
taken_valid p (Req d) valid = by_cond IsTaken (expects_req p.status d) (took.Req d) took.Ignored (λ _. valid) (λ _. tt)
taken_valid p (Val d) valid = by_cond IsTaken (expects_val p.status d && nat_le (p.balance + d.value) most_number) (took.Val d) took.Ignored (λ _. valid) (λ _. tt)
taken_valid p (Ack d) valid = by_cond IsTaken (expects_ack p.status d) (took.Ack d) took.Ignored (λ _. valid) (λ _. tt)
taken_valid p (Clear set) valid = by_cond IsTaken (expects_clear p set) took.Cleared took.Ignored (λ _. tt) (λ _. tt)

message_line_valid : (q : State) (o : Option Details) (x : Handled) → q.balance ≤ most_number → IfSome o IsDetails → IsTaken x → AllByRecursion IsLine (listed (message_line q o x))
message_line_valid q o (took.Req d) balance logged valid = (payment_valid q _ d balance valid, tt)
message_line_valid q o (took.Val d) balance logged valid = (payment_valid q _ d balance valid, tt)
message_line_valid q o (took.Ack d) balance logged valid = tt
message_line_valid q o took.Cleared balance logged valid = abort_line_valid q o balance logged
message_line_valid q o took.Ignored balance logged valid = tt

sent_valid : (x : Handled) → IsTaken x → IsSent (sent_for x)
sent_valid (took.Req d) valid = (valid, λ _. tt)
sent_valid (took.Val d) valid = (valid, λ _. tt)
sent_valid (took.Ack d) valid = tt
sent_valid took.Cleared valid = tt
sent_valid took.Ignored valid = tt

message_follows : (kept : Details → Bool) (p : State) (m : Message) → IsPurse p → IsMessage m → ((d : Details) → kept d ≡ true → (set : Entries) → m ≡ Clear set → has_logged set d ≡ true → ⊥)
    → Follows kept p (after_message p (handled p m)) (listed (message_line (after_message p (handled p m)) (pending p.status) (handled p m)))
message_follows kept p m is valid apart =
    let x = handled p m in
    let whole = after_message_is p m is in
    record {
      name = after_message_name p x;
      whole = whole;
      numbered = (message_numbered p x).0;
      counted = (message_numbered p x).1;
      valid = message_line_valid (after_message p x) (pending p.status) x whole.balance (pending_valid p.status is.details) (taken_valid p m valid);
      logged = λ d stays there. message_logged p m d (apart d stays) there;
    }

-- what the tray has of a purse is in no set that may be cleared
pub tray_apart : (w : World) (p : Name) (m : Message) → IsWorld w → MayLie w p m → (d : Details) → in_tray w p d ≡ true → (set : Entries) → m ≡ Clear set → has_logged set d ≡ true → ⊥
tray_apart w p m is lies d stays set m_is there =
    let archived : fmap.contains_key w.archive (p, d) ≡ true = (subst (MayLie w p) m_is lies).archived d there in
    let apart : fmap.contains_key w.archive (p, d) ≡ false = is.results.apart p d stays in
    absurd (cc)

-- a purse that is found is whole
pub whole : (w : World) (h p : Name) (q : State) → IsWorld w → IsOwn w h p q → IsPurse q
whole w h p q is own = subst IsPurse own.purse (is.purses.each p own.row own.at).purse

pub handle_decides : (w : World) (h p : Name) (n : ℕ) (q after : State) (m : Message) (x : Handled) (d : Decided) → IsWorld w → own_purse w h p ≡ Some q → message_of w p n ≡ Some m
    → x ≡ handled q m → after ≡ after_message q (handled q m)
    → d.reply ≡ reply.Handled x → d.edits ≡ purse_edits after (message_line after (pending q.status) x) (placed w (sent_for x)) → Decides w (on_own w h p (handle n)) d
unfolding handle
handle_decides w h p n q after m x d is e message x_is after_is reply_is edits_is =
    let own = is_own w h p q e in
    let y = handled q m in
    let now = after_message q y in
    let there : fmap.get own.row.holding.inbox n ≡ Some m = message_at w p n own.row (Some m) own.at message in
    let valid : IsMessage m = (is.inboxes.each p own.row own.at).messages n m there in
    let lies = is.clears.each p own.row n m own.at there in
    changed_decides w h p q own now (message_line now (pending q.status) y) is (message_follows (in_tray w p) q m (whole w h p q is own) valid (tray_apart w p m is lies)) (handle n) (reply.Handled y) (sent_for y) d (sent_valid y (taken_valid q m valid))
    (ap (λ o. on_found own.row.holding NoSuchMessage o (handle_message own.row.holding)) there ∙ rw own.purse refl)
    (reply_is ∙ ap reply.Handled x_is) (edits_is ∙ (λ i. purse_edits (after_is i) (message_line (after_is i) (pending q.status) (x_is i)) (placed w (sent_for (x_is i)))))

-- ---- aborts and starts

-- what an abort leaves follows the purse, and so does what a start makes of it
pub abort_follows : (kept : Details → Bool) (p q : State) → IsPurse p → q.name ≡ p.name → q.lines ≡ (aborted p).lines → q.log ≡ (aborted p).log → IsPurse q → Follows kept p q (listed (abort_line q (pending p.status)))
abort_follows kept p q old name lines log is =
    let next = abort_numbered p q (pending p.status) lines in
    record { name = name; whole = is; numbered = next.0; counted = next.1; valid = abort_line_valid q (pending p.status) is.balance (pending_valid p.status old.details); logged = λ d stays there. ap (λ l. has_logged l d) log ∙ logged_case p.log (pending p.status) d there }

pub abort_decides : (w : World) (h p : Name) (q after : State) (d : Decided) → IsWorld w → own_purse w h p ≡ Some q → after ≡ aborted q
    → d.reply ≡ reply.Aborted (is_some (pending q.status)) → d.edits ≡ purse_edits after (abort_line after (pending q.status)) None → Decides w (on_own w h p abort) d
unfolding abort
abort_decides w h p q after d is e after_is reply_is edits_is =
    let own = is_own w h p q e in
    let now = aborted q in
    changed_decides w h p q own now (abort_line now (pending q.status)) is (abort_follows (in_tray w p) q now (whole w h p q is own) refl refl refl (aborted_is q (whole w h p q is own)))
    abort (reply.Aborted (is_some (pending q.status))) None d tt (rw own.purse refl) reply_is (edits_is ∙ ap (λ x. purse_edits x (abort_line x (pending q.status)) None) after_is)

-- what an operation with no output answers
abbrev pub nothing : Unit {0}
nothing = tt

-- the answer of an operation tells whether it is refused
pub not_refused : {A R : Type 0} (o : Option R) (a x : A) → or_refused o a ≡ Ok x → o ≡ None
not_refused None a x e = refl
not_refused (Some r) a x e = absurd (cc)

pub is_refused : {A R : Type 0} (o : Option R) (a : A) (r : R) → or_refused o a ≡ Err r → o ≡ Some r
is_refused None a r e = absurd (cc)
is_refused (Some s) a r e = cc

same_answer : {A R : Type 0} (o : Option R) (a x : A) → or_refused o a ≡ Ok x → a ≡ x
same_answer None a x e = cc
same_answer (Some r) a x e = absurd (cc)

-- a start from a purse or to one, by its guards, its status and its details
module _ (w : World) (h p : Name) (q : State) (f : Holding → Deed Holding) (o : Option StartRefusal) (status : Status) (details : Details) (sent : Details → Option (Name × Message))
    (f_is : (a : Holding) → a.purse ≡ q → f a ≡ unless a (option_map refusal_of_start o) (record { state = with_aborted a (started q status); reply = reply.Started details; sent = sent details; result = None }))
    (sent_is : IfSome (details_of status) IsDetails → IsSent (sent details)) (d : Decided) (is : IsWorld w) (e : own_purse w h p ≡ Some q) where
  abbrev started_deed : Holding → Deed Holding
  started_deed a = record { state = with_aborted a (started q status); reply = reply.Started details; sent = sent details; result = None }

  pub start_refused : (r : StartRefusal) → or_refused o details ≡ Err r → d.reply ≡ reply.Refused (refusal_of_start r) → d.edits ≡ [] → Decides w (on_own w h p f) d
  start_refused r refused =
      let own = is_own w h p q e in
      own_told w h p q own f (reply.Refused (refusal_of_start r)) d is (f_is own.row.holding own.purse ∙ ap (λ x. unless own.row.holding (option_map refusal_of_start x) (started_deed own.row.holding)) (is_refused o details r refused))

  pub start_decides : (after : State) (x : Details) → IsPurse after → or_refused o details ≡ Ok x → after ≡ unless_refused o q (started q status)
      → d.reply ≡ reply.Started x → d.edits ≡ purse_edits after (abort_line after (pending q.status)) (placed w (sent x)) → Decides w (on_own w h p f) d
  start_decides after x stays accepted after_is reply_is edits_is =
      let own = is_own w h p q e in
      let free = not_refused o details x accepted in
      let now = started q status in
      let now_is : after ≡ now = after_is ∙ ap (λ y. unless_refused y q now) free in
      let x_is : x ≡ details = sym (same_answer o details x accepted) in
      let purse = whole w h p q is own in
      let next = subst IsPurse now_is stays in
      changed_decides w h p q own now (abort_line now (pending q.status)) is (abort_follows (in_tray w p) q now purse refl refl refl next) f (reply.Started details) (sent details) d (sent_is next.details)
      (f_is own.row.holding own.purse ∙ ap (λ y. unless own.row.holding (option_map refusal_of_start y) (started_deed own.row.holding)) free ∙ rw own.purse refl)
      (reply_is ∙ ap reply.Started x_is) (edits_is ∙ (λ i. purse_edits (now_is i) (abort_line (now_is i) (pending q.status)) (placed w (sent (x_is i)))))

-- ---- a redemption

redemption_at : (w : World) (p reference : Name) (r : Row) (o : Option ℕ) → fmap.get w.rows p ≡ Some r → redemption_of w p reference ≡ o → fmap.get r.holding.redemptions reference ≡ o
redemption_at w p reference r o at is = sym (ap (from_row None (λ (x : Row). fmap.get x.holding.redemptions reference)) at) ∙ is

redeem_follows : (kept : Details → Bool) (p : State) (amount : ℕ) (reference : Name) → IsPurse p → IsTrue (is_name_text reference) → amount ≤ most_amount → redeem_refusal p amount ≡ None
    → Follows kept p (redeemed p amount) (listed (abort_line (aborted p) (pending p.status)) ++ money_line (redeemed p amount) kind.Redeemed amount reference ∷ [])
redeem_follows kept p amount reference is text small free =
    let logged_lines = listed (abort_line (aborted p) (pending p.status)) in
    let rest = abort_follows kept p (aborted p) is refl refl refl (aborted_is p is) in
    let next = redeemed_is p amount is free in
    let lines = rest.counted in
    record {
      name = refl;
      whole = next;
      valid = all_append IsLine logged_lines _ rest.valid (record { amount = small; balance = next.balance; note = text }, tt);
      numbered = numbered_after (p.lines + 1) ((aborted p).lines + 1) logged_lines _ (omega (arith, lines)) rest.numbered (refl, tt);
      counted = omega (arith, lines, length-append logged_lines (money_line (redeemed p amount) kind.Redeemed amount reference ∷ []));
      logged = rest.logged;
    }

module _ (w : World) (h p : Name) (amount : ℕ) (reference : Name) (q : State) (d : Decided) (is : IsWorld w) (e : own_purse w h p ≡ Some q) where
  -- a reference that a redemption has
  pub redeem_repeated : (before : ℕ) → redemption_of w p reference ≡ Some before → d.reply ≡ cond (before == amount) reply.Redeemed (reply.Refused RefReused) → d.edits ≡ [] → Decides w (on_own w h p (redeem amount reference)) d
  unfolding redeem
  redeem_repeated before had =
      let own = is_own w h p q e in
      own_told w h p q own (redeem amount reference) _ d is (rw (redemption_at w p reference own.row (Some before) own.at had) refl)

  -- a redemption that is refused
  pub redeem_refuses : (x : RedeemRefusal) → redemption_of w p reference ≡ None → or_refused (redeem_refusal q amount) nothing ≡ Err x → d.reply ≡ reply.Refused (refusal_of_redeem x) → d.edits ≡ [] → Decides w (on_own w h p (redeem amount reference)) d
  unfolding redeem
  redeem_refuses x new refused =
      let own = is_own w h p q e in
      own_told w h p q own (redeem amount reference) (reply.Refused (refusal_of_redeem x)) d is (rw (redemption_at w p reference own.row None own.at new, own.purse, is_refused (redeem_refusal q amount) _ x refused) refl)

  pub redeem_made : (rested after : State) → redemption_of w p reference ≡ None → IsTrue (is_name_text reference) → amount ≤ most_amount
      → or_refused (redeem_refusal q amount) nothing ≡ Ok nothing → after ≡ unless_refused (redeem_refusal q amount) q (redeemed q amount) → rested ≡ aborted q
      → d.reply ≡ reply.Redeemed → d.edits ≡ redeem_edits after (abort_line rested (pending q.status)) amount reference → Decides w (on_own w h p (redeem amount reference)) d
  unfolding redeem
  redeem_made rested after new text small accepted after_is rested_is reply_is edits_is =
      let own = is_own w h p q e in
      let free : redeem_refusal q amount ≡ None = not_refused _ _ nothing accepted in
      let now : State = redeemed q amount in
      let now_is : after ≡ now = after_is ∙ ap (λ o. unless_refused o q now) free in
      let ls : List Line = listed (abort_line (aborted q) (pending q.status)) ++ money_line now kind.Redeemed amount reference ∷ [] in
      let follows = redeem_follows (in_tray w p) q amount reference (whole w h p q is own) text small free in
      let next = is_next w p (λ r. is_name h r.holder) q own now ls is follows in
      let fresh = redemption_at w p reference own.row None own.at new in
      let v : World = set_row w p (with_redemption (with_lines own.row now ls) reference amount) in
      edits_decide w (on_own w h p (redeem amount reference)) (tell v reply.Redeemed) ((SetPurse now ∷ line_edits p ls) ++ AddRedemption p reference amount ∷ []) d
      (own_there w h p q own (redeem amount reference) ∙ rw (fresh, own.purse, free) refl)
      (redemption_suits w p own.row now ls reference amount own.at next.named next.numbered fresh)
      (redemption_leads w p own.row now ls reference amount own.at next.named)
      (redemptions_stay w p own.row now ls reference amount own.at next.named follows.whole next.numbered next.counted follows.valid next.logged text small is)
      reply_is
      (edits_is ∙ (λ i. redeem_edits (now_is i) (abort_line (rested_is i) (pending q.status)) amount reference)
      ∙ (λ i. next.edits i ++ AddRedemption (next.named i) reference amount ∷ []))
